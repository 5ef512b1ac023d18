-- What L11 and L12 compare: a disposition with the delivery whose outcome it tells, or which it settles.
use Rattle.std.specs.Prelude.{◌≡◌, ℕ, List, Option, Some, None, IfSome, option_and_then, option_map, if◌then◌else◌}
use Rattle.amqp_perf.specs.declared.descriptor.Outcome.{Outcome}
use Rattle.amqp_perf.specs.Meaning.{flag, last_id}
use Rattle.amqp_perf.specs.NestedViews.{state_view}
use Rattle.capture_form.specs.Rules.{RuleSet}
use Rattle.pairing_cert.specs.declared.note.Note.{Note}
use Rattle.pairing_cert.specs.declared.note.Note.TheVariants as notes
use Rattle.trace_events.specs.Connection.{frame_limit}
use Rattle.trace_events.specs.Disposition.{terminal_state}
use Rattle.trace_events.specs.Event.{Event, Incoming}
use Rattle.trace_events.specs.Incoming.{address_of, incoming_at, is_complete}
use Rattle.trace_events.specs.Link.{is_live}
use Rattle.trace_events.specs.Outgoing.{decision, is_sent, pairing}
use Rattle.trace_events.specs.Said.{out_disposition}
use Rattle.trace_events.specs.Settling.{is_closed}
use Rattle.trace_events.specs.Waiting.{is_gone, is_of_multicast}
use Rattle.trace_events.specs.BestVerdict.{whole_verdict}
use Rattle.trace_events.specs.Outcome.{row}
use Rattle.trace_judge.specs.Told.{told_view}
use Rattle.trace_events.specs.View.{decision_view, incoming_view, outgoing_view}
use Rattle.refusal_facts.specs.declared.outcome.Carrier.{Carrier}
use Rattle.refusal_facts.specs.declared.outcome.OutcomeFacts.{OutcomeFacts}
use Rattle.refusal_facts.specs.declared.outcome.SettlingFacts.{SettlingFacts}
use Rattle.refusal_facts.specs.declared.outcome.ToldDelivery.{ToldDelivery}

-- what the row that a note names tells of the delivery
abbrev pub row_of : RuleSet → Incoming → List Event → Note → Option (Option (List ℕ))
row_of rules d past (notes.Told why) = row rules d past why
row_of rules d past notes.None = None
row_of rules d past (notes.Pair n) = None

-- the best verdict of the copies of a multicast delivery, where each that is due has its own
abbrev pub verdict_of : RuleSet → Incoming → List Event → Option Outcome
verdict_of rules d past = if is_of_multicast rules d past then whole_verdict rules d past else None

-- how a delivery to a client stands
abbrev pub IsCarrier : List Event → Carrier → Type 0
IsCarrier past carrier =
    (carrier.is_sent ≡ is_sent (outgoing_view carrier.outgoing) past) × (carrier.is_live ≡ is_live past (outgoing_view carrier.outgoing).link)
    × (option_map decision_view carrier.decision ≡ option_map terminal_state (decision (outgoing_view carrier.outgoing) past))

-- how a delivery stands whose outcome is told
abbrev pub AreTold : RuleSet → Note → List Event → ToldDelivery → Type 0
AreTold rules note past told =
    let d = incoming_view told.delivery in
    (told.is_complete ≡ is_complete d past) × (told.is_closed ≡ is_closed past d) × (told.address.now ≡ address_of d past)
    × (told.is_multicast ≡ is_of_multicast rules d past)
    × (told.verdict ≡ verdict_of rules d past) × (told.is_gone ≡ is_gone rules d past) × (told.frame_limit ≡ frame_limit d.link.session.connection past)
    × (option_map told_view told.row ≡ row_of rules d past note)
    × (option_map (λ carrier. outgoing_view carrier.outgoing) told.carrier ≡ pairing d past) × IfSome told.carrier (IsCarrier past)

-- L11
abbrev pub AreOutcome : RuleSet → Event → List Event → OutcomeFacts → Type 0
AreOutcome rules e past facts =
    (facts.note ≡ e.note) × (option_map (λ fields. fields.first) (out_disposition e) ≡ Some facts.first)
    × (option_map last_id (out_disposition e) ≡ Some facts.last)
    × (option_map (λ fields. flag fields.settled) (out_disposition e) ≡ Some facts.is_settled)
    × (option_map (λ fields. fields.state) (out_disposition e) ≡ Some (option_map state_view facts.state))
    × (option_map (λ told. incoming_view told.delivery) facts.told ≡ option_and_then (λ n. incoming_at n past) e.told)
    × IfSome facts.told (AreTold rules e.note past)

-- L12
abbrev pub AreSettling : Event → SettlingFacts → Type 0
AreSettling e facts =
    (facts.to_settle ≡ e.settled) × (option_map (λ fields. fields.first) (out_disposition e) ≡ Some facts.first)
    × (option_map last_id (out_disposition e) ≡ Some facts.last)
    × (option_map (λ fields. flag fields.settled) (out_disposition e) ≡ Some facts.is_settled)
