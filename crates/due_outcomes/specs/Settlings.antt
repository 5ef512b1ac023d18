-- What the tables say of a delivery that may be to settle.
use Rattle.std.specs.Prelude.{◌≡◌, ℕ, Bool, true, ◌&&◌, List, Option, Contains, is_some, option_map}
use Rattle.trace_events.specs.Words.{is_some_and, where_passes}
use Rattle.trace_events.specs.Event.{Event, Outgoing}
use Rattle.trace_events.specs.Outgoing.{outgoing_deliveries}
use Rattle.trace_events.specs.Settling.{is_to_settle}
use Rattle.state_incoming.specs.EntryAnswers.{is_shut}
use Rattle.state_incoming.specs.HeldTables.{held_in}
use Rattle.state_incoming.specs.declared.deliveries.Deliveries.{Deliveries}
use Rattle.state_outgoing.specs.Sent.{Sent, to_settle}
use Rattle.state_outgoing.specs.SentAnswers.{closes}
use Rattle.state_outgoing.specs.SentTables.{sent_in}
use Rattle.state_outgoing.specs.declared.deliveries.SentDeliveries.{SentDeliveries}

-- the delivery is to be settled
pub record IsDueSettling (past : List Event) (j : Outgoing) : Type 0 where
  pub there : Contains (outgoing_deliveries past) j
  pub due : is_to_settle past j ≡ true

-- ---- of an entry

-- it is decided, and still unsettled
abbrev pub waits_in : Option Sent → Bool
waits_in o = is_some_and o (λ x. x.is_unsettled && is_some x.decision)

-- the delivery of the number, where its entry says that it is to be settled
abbrev pub due_in : SentDeliveries → Deliveries → ℕ → Option Outgoing
due_in sent deliveries n =
    option_map (λ x. x.delivery) (where_passes (λ x. to_settle x (closes (λ m. is_shut (held_in deliveries m)) x.delivery.note)) (sent_in sent n))
