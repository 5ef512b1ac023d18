-- The consumer that a waiting delivery goes to, as the pick of `address_table` over what happened to the links of
-- consumers (Qpid Dispatch Router: closest, balanced; ties are own rules).
use Rattle.std.specs.Prelude.{ℕ, Bool, List, Option, filter}
use Rattle.capture_form.specs.Rules.{RuleSet}
use Rattle.capture_form.specs.Addresses.{distribution}
use Rattle.address_table.specs.Picking.{pick_of}
use Rattle.trace_events.specs.Words.{is_some_and}
use Rattle.trace_events.specs.Event.{Event, Link}
use Rattle.trace_events.specs.Link.{link_at}
use Rattle.trace_events.specs.Address.{consumers}
use Rattle.trace_events.specs.TransferClause.{may_take}
use Rattle.trace_duties.specs.Consumers.{address_events}

-- the consumers of the address that may be sent a delivery, in the order of attach
abbrev pub eligible : List ℕ → List Event → List Link
eligible address past = filter (may_take past) (consumers address past)

-- the link of this number may
abbrev pub is_eligible : List Event → ℕ → Bool
is_eligible past link = is_some_and (link_at link past) (may_take past)

-- the link that is picked, by its number
abbrev pub pick : RuleSet → List ℕ → List Event → Option ℕ
pick rules address past = pick_of (distribution rules address) (is_eligible past) address (address_events past)
