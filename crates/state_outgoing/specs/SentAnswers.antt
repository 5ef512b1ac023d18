-- What the entries of deliveries to clients answer, where there is one.
use Rattle.std.specs.Prelude.{◌≡◌, ◌⊎◌, ℕ, Bool, false, not, List, length, Option, Some, option_and_then, option_map}
use Rattle.amqp_perf.specs.Nested.{StateFields}
use Rattle.pairing_cert.specs.declared.note.Note.{Note}
use Rattle.pairing_cert.specs.declared.note.Note.TheVariants as notes
use Rattle.trace_events.specs.Words.{is_some_and, where_passes}
use Rattle.trace_events.specs.Event.{Event, Outgoing}
use Rattle.trace_events.specs.Outgoing.{noted_number, outgoing_at}
use Rattle.trace_events.specs.Work.{carries_closed}
use Rattle.state_outgoing.specs.Sent.{Sent, to_settle}
use Rattle.state_outgoing.specs.SentTables.{sent_in}
use Rattle.state_outgoing.specs.declared.deliveries.SentDeliveries.{SentDeliveries}

-- the delivery that the table has of a number
abbrev pub delivery_in : SentDeliveries → ℕ → Option Outgoing
delivery_in table n = option_map (λ x. x.delivery) (sent_in table n)

-- it has this delivery
abbrev pub Knows : SentDeliveries → Outgoing → Type 0
Knows table j = delivery_in table j.number ≡ Some j

-- or the delivery begins behind these events
abbrev pub KnowsOrBegins : SentDeliveries → List Event → Outgoing → Type 0
KnowsOrBegins table past j = Knows table j ⊎ (j.number ≡ length past)

-- ---- what an entry says, if there is one

-- the delivery of the entry, where its last part isn't written
abbrev pub unsent : Option Sent → Option Outgoing
unsent o = option_map (λ x. x.delivery) (where_passes (λ x. not x.is_sent) o)

-- the number of the delivery which it carries
abbrev pub carried : Option Sent → Option ℕ
carried o = option_and_then (λ x. noted_number x.delivery.note) o

abbrev pub says_sent : Option Sent → Bool
says_sent o = is_some_and o (λ x. x.is_sent)

abbrev pub decided : Option Sent → Option (Option StateFields)
decided o = option_and_then (λ x. x.decision) o

-- ---- what is to be settled, given of which deliveries from clients, by their numbers, nothing more is to be told

abbrev pub closes : (ℕ → Bool) → Note → Bool
closes does_close (notes.Pair n) = does_close n
closes does_close notes.None = false
closes does_close (notes.Told why) = false

-- the router is to settle the entry's delivery
abbrev pub is_settleable : (ℕ → Bool) → Option Sent → Bool
is_settleable does_close o = is_some_and o (λ x. to_settle x (closes does_close x.delivery.note))

-- this is said of what the deliveries to clients carry as the law says it
abbrev pub AreClosings : (ℕ → Bool) → List Event → Type 0
AreClosings does_close past = (j : Outgoing) → outgoing_at j.number past ≡ Some j → closes does_close j.note ≡ carries_closed past j
