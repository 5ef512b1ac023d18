-- What the table of copies stands for: those of multicast deliveries that are to be sent, by the number of their link and
-- that of the delivery.
use Rattle.std.specs.Prelude.{◌≡◌, ℕ, Bool, ◌&&◌, List, [], Option, Some, None, IfSome, is_some, length, nat_eq, nat_lt, ◌==◌}
use Rattle.std.specs.List.{IsDistinct, list_any}
use Rattle.capture_form.specs.Rules.{RuleSet}
use Rattle.number_groups.specs.Groups.{is_member}
use Rattle.number_groups.specs.Numbers.{is_among}
use Rattle.trace_events.specs.Words.{is_some_and, where_passes}
use Rattle.trace_events.specs.Event.{Event, Link, Incoming}
use Rattle.trace_events.specs.Said.{out_transfer}
use Rattle.trace_events.specs.Address.{has_multicast, is_consumer_of}
use Rattle.trace_events.specs.Credit.{link_credit}
use Rattle.trace_events.specs.Incoming.{completed_by}
use Rattle.trace_events.specs.Link.{is_live, link_at}
use Rattle.trace_events.specs.Outgoing.{names}
use Rattle.trace_events.specs.Work.{comes_due, unsent_copies}
use Rattle.state_tables.specs.declared.copies.Copies.{Copies}
use Rattle.state_tables.specs.declared.copies.Receiver.{Receiver}

-- ---- the table

-- the table has the delivery of this number on the link of this number
abbrev pub stands : Copies → ℕ → ℕ → Bool
stands table link n = is_member nat_eq table.unsent link n

-- of a link the copies that are to be sent there
abbrev pub copies_on : RuleSet → List Event → Option Link → List Incoming
copies_on rules past None = []
copies_on rules past (Some l) = unsent_copies rules l past

-- those of the link of this number, while it lives
abbrev pub copies_at : RuleSet → ℕ → List Event → List Incoming
copies_at rules link past = copies_on rules past (where_passes (is_live past) (link_at link past))

-- one of these deliveries has the number
abbrev pub has_delivery : ℕ → List Incoming → Bool
has_delivery n ds = list_any (λ d. n == d.number) ds

-- just these stand in the table
abbrev pub AreCopies : RuleSet → Copies → List Event → Type 0
AreCopies rules table past = (link n : ℕ) → stands table link n ≡ has_delivery n (copies_at rules link past)

-- on each link as many stand as this says
abbrev pub AreCounted : Copies → (ℕ → ℕ) → Type 0
AreCounted table counts = (link : ℕ) (ns : List ℕ) → IsDistinct nat_eq ns → ((n : ℕ) → is_among ns n ≡ stands table link n) → length ns ≡ counts link

-- ---- what an event does to it

-- the delivery that the event completes, where the address that it is for is of multicast
abbrev pub copied_by : RuleSet → List ℕ → Event → Option Incoming
copied_by rules address e = where_passes (λ d. has_multicast rules address) (completed_by e)

-- just the live links of the address's consumers, with their credit
abbrev pub AreReceiversOf : List ℕ → List Event → List Receiver → Type 0
AreReceiversOf address past receivers = (link credit : ℕ) →
    list_any (λ x. x.link == link && (x.credit == credit)) receivers ≡ is_some_and (link_at link past) (λ l. is_consumer_of address past l && (link_credit l past == credit))

-- where the event completes a delivery of multicast, those of its address
abbrev pub AreReceivers : RuleSet → List ℕ → Event → List Event → List Receiver → Type 0
AreReceivers rules address e past receivers = IfSome (copied_by rules address e) (λ d. AreReceiversOf address past receivers)

-- one of them has this link, and more credit than so many copies
abbrev pub has_room : List Receiver → ℕ → ℕ → Bool
has_room receivers link count = list_any (λ x. x.link == link && nat_lt count x.credit) receivers

-- a copy of the delivery of this number comes due to the link, of which so many are to be sent
abbrev pub comes_to : RuleSet → List ℕ → Event → List Receiver → ℕ → ℕ → ℕ → Bool
comes_to rules address e receivers count link n = is_some_and (copied_by rules address e) (λ d. n == d.number && has_room receivers link count)

-- just to these links a copy of what the event completes comes due
abbrev pub AreDue : RuleSet → Event → List Event → List ℕ → Type 0
AreDue rules e past due = (link : ℕ) → list_any (λ m. m == link) due ≡ is_some_and (link_at link past) (λ l. comes_due rules l e past)

-- a transfer to the client names the delivery of this number on the link of this number
abbrev pub names_at : ℕ → ℕ → Event → Bool
names_at link n e = is_some (out_transfer e) && is_some_and e.link (λ l. l.number == link) && names n e.note
