-- What L4 to L7 and L9 compare: a transfer with its link, and with the delivery that it carries.
use Rattle.std.specs.Prelude.{◌≡◌, ℕ, List, Some, None, option_and_then, option_map, unwrap_or}
use Rattle.amqp_perf.specs.Meaning.{flag}
use Rattle.capture_form.specs.Rules.{RuleSet}
use Rattle.pairing_cert.specs.declared.note.Note.{Note}
use Rattle.pairing_cert.specs.declared.note.Note.TheVariants as notes
use Rattle.trace_events.specs.Credit.{begins_outgoing, delivery_count, link_credit}
use Rattle.trace_events.specs.Due.{is_unsent}
use Rattle.trace_events.specs.Event.{Event}
use Rattle.trace_events.specs.Incoming.{address_of, completion, incoming_at, is_complete}
use Rattle.trace_events.specs.Outgoing.{next_delivery_id, pairing}
use Rattle.trace_events.specs.Said.{out_transfer}
use Rattle.trace_events.specs.Waiting.{is_gone, is_of_multicast}
use Rattle.trace_events.specs.Window.{next_outgoing_id, session_window}
use Rattle.trace_events.specs.TransferClause.{carried_before, is_in_order, to_carry}
use Rattle.trace_events.specs.View.{incoming_view, link_view, outgoing_view}
use Rattle.refusal_facts.specs.declared.transfer.SendingFacts.{SendingFacts}
use Rattle.refusal_facts.specs.declared.transfer.BeginningFacts.{BeginningFacts}
use Rattle.refusal_facts.specs.declared.transfer.GoingOnFacts.{GoingOnFacts}
use Rattle.refusal_facts.specs.declared.transfer.CarryingFacts.{CarryingFacts}
use Rattle.refusal_facts.specs.declared.transfer.OrderFacts.{OrderFacts}
use Rattle.refusal_facts.specs.declared.transfer.Named.{Named}
use Rattle.refusal_facts.specs.declared.transfer.Named.TheVariants as named

-- L4: the live session and link on which it stands, and the session's window
abbrev pub AreSending : Event → List Event → SendingFacts → Type 0
AreSending e past facts =
    (facts.session ≡ e.session) × (facts.window ≡ option_map (λ s. session_window s past) e.session)
    × (facts.next_outgoing_id ≡ option_map (λ s. next_outgoing_id s past) e.session)
    × (option_map link_view facts.link ≡ e.link) × (option_map (λ fields. fields.handle) (out_transfer e) ≡ Some facts.handle)
    × (option_map (λ fields. flag fields.resume) (out_transfer e) ≡ Some facts.is_resumed)
    × (option_map (λ fields. flag fields.aborted) (out_transfer e) ≡ Some facts.is_aborted)

-- L5: the link's credit, the id that is due, and the one that is said
abbrev pub AreBeginning : Event → List Event → BeginningFacts → Type 0
AreBeginning e past facts =
    (e.link ≡ Some (link_view facts.link)) × (facts.credit ≡ link_credit (link_view facts.link) past)
    × (facts.delivery_count ≡ delivery_count (link_view facts.link) past)
    × (facts.due_id ≡ next_delivery_id facts.link.session past)
    × (option_map (λ fields. fields.delivery_id) (out_transfer e) ≡ Some facts.said_id)

-- L6: the delivery in progress, and what this transfer says
abbrev pub AreGoingOn : Event → GoingOnFacts → Type 0
AreGoingOn e facts =
    (option_map outgoing_view facts.first ≡ e.outgoing) × (facts.note ≡ e.note)
    × (option_map (λ fields. fields.delivery_id) (out_transfer e) ≡ Some facts.id)
    × (option_map (λ fields. fields.settled) (out_transfer e) ≡ Some facts.settled)

-- what stands for the delivery of a number that may not be carried; of one of which nothing can be told this says nothing
abbrev pub IsNamedAt : RuleSet → (ℕ → Type 0) → List Event → ℕ → Named → Type 0
IsNamedAt rules knows past n named.Nothing = ⊥
IsNamedAt rules knows past n (named.Carried delivery) = ⊥
IsNamedAt rules knows past n (named.Kept delivery complete gone) =
    knows n → (incoming_at n past ≡ Some (incoming_view delivery)) × (complete ≡ is_complete (incoming_view delivery) past)
    × (gone ≡ is_gone rules (incoming_view delivery) past)
IsNamedAt rules knows past n (named.Unknown number) = (number ≡ n) × (knows n → incoming_at n past ≡ None)

-- what a note names that may not be carried
abbrev pub IsNamedBy : RuleSet → (ℕ → Type 0) → List Event → Note → Named → Type 0
IsNamedBy rules knows past (notes.Pair n) stands = IsNamedAt rules knows past n stands
IsNamedBy rules knows past notes.None stands = stands ≡ named.Nothing
IsNamedBy rules knows past (notes.Told why) stands = stands ≡ named.Nothing

-- what a note names
abbrev pub IsNamed : RuleSet → (ℕ → Type 0) → List Event → Note → Named → Type 0
IsNamed rules knows past note (named.Carried delivery) = to_carry rules note past ≡ Some (incoming_view delivery)
IsNamed rules knows past note named.Nothing = (to_carry rules note past ≡ None) × IsNamedBy rules knows past note named.Nothing
IsNamed rules knows past note (named.Kept delivery complete gone) =
    (to_carry rules note past ≡ None) × IsNamedBy rules knows past note (named.Kept delivery complete gone)
IsNamed rules knows past note (named.Unknown number) =
    (to_carry rules note past ≡ None) × IsNamedBy rules knows past note (named.Unknown number)

-- L7: the delivery that the note names, with its address where it may be carried, the link, and what this transfer says
abbrev pub AreCarrying : RuleSet → (ℕ → Type 0) → Event → List Event → CarryingFacts → Type 0
AreCarrying rules knows e past facts =
    (facts.note ≡ e.note) × (e.link ≡ Some (link_view facts.link)) × IsNamed rules knows past e.note facts.named
    × (facts.begins ≡ begins_outgoing e)
    × (option_map (λ fields. unwrap_or fields.message_format 0) (out_transfer e) ≡ Some facts.format)
    × (option_map (λ fields. flag fields.settled) (out_transfer e) ≡ Some facts.is_settled)
    × (option_map (λ address. address.now) facts.address ≡ option_map (λ d. address_of d past) (to_carry rules e.note past))

-- L9: who was sent the delivery before, whether a copy is due to the link, and what the link's last delivery carries
abbrev pub AreOrder : RuleSet → Event → List Event → OrderFacts → Type 0
AreOrder rules e past facts =
    (e.link ≡ Some (link_view facts.link)) × (to_carry rules e.note past ≡ Some (incoming_view facts.delivery))
    × (facts.completion ≡ completion (incoming_view facts.delivery) past)
    × (facts.before_completion ≡ option_and_then (λ d. completion d past) (carried_before (link_view facts.link) past))
    × (facts.is_multicast ≡ is_of_multicast rules (incoming_view facts.delivery) past)
    × (option_map outgoing_view facts.carrier ≡ pairing (incoming_view facts.delivery) past)
    × (facts.is_unsent ≡ is_unsent rules (incoming_view facts.delivery) (link_view facts.link) past)
    × (option_map incoming_view facts.before ≡ carried_before (link_view facts.link) past)
    × (facts.is_in_order ≡ is_in_order (link_view facts.link) past (incoming_view facts.delivery))
