-- What L10 compares: a flow with what its session and link have come to.
use Rattle.std.specs.Prelude.{◌≡◌, ℕ, false, true, List, Option, Some, None, IfSome, option_map}
use Rattle.capture_form.specs.Rules.{RuleSet}
use Rattle.trace_events.specs.Credit.{delivery_count, given_credit, is_draining, link_credit, received_count}
use Rattle.trace_events.specs.Due.{has_unsent}
use Rattle.trace_events.specs.Event.{Event}
use Rattle.trace_events.specs.Link.{is_consumer}
use Rattle.trace_events.specs.Said.{out_flow}
use Rattle.trace_events.specs.Waiting.{has_waiting, undecided_count}
use Rattle.trace_events.specs.Window.{next_incoming_id, next_outgoing_id}
use Rattle.trace_events.specs.FlowClause.{full_credit, may_be_topped_up}
use Rattle.trace_events.specs.View.{link_view}
use Rattle.refusal_facts.specs.declared.flow.SessionNumbers.{SessionNumbers}
use Rattle.refusal_facts.specs.declared.flow.ProducerNumbers.{ProducerNumbers}
use Rattle.refusal_facts.specs.declared.flow.ConsumerNumbers.{ConsumerNumbers}
use Rattle.refusal_facts.specs.declared.flow.FlowFacts.{FlowFacts}
use Rattle.refusal_facts.specs.declared.flow.FlowLink.{FlowLink}
use Rattle.refusal_facts.specs.declared.flow.FlowLink.TheVariants.{Nothing, NotLive, Producer, Consumer}

-- the ids of a session
abbrev pub AreSessionNumbers : List Event → SessionNumbers → Type 0
AreSessionNumbers past numbers =
    (numbers.next_incoming_id ≡ next_incoming_id numbers.session past)
    × (numbers.next_outgoing_id ≡ next_outgoing_id numbers.session past)

-- the counts of a producer's link
abbrev pub AreProducerNumbers : RuleSet → List Event → ProducerNumbers → Type 0
AreProducerNumbers rules past numbers =
    (numbers.delivery_count ≡ received_count (link_view numbers.link) past)
    × (numbers.given_credit ≡ given_credit (link_view numbers.link) past)
    × (numbers.undecided ≡ undecided_count rules (link_view numbers.link) past)
    × (numbers.may_be_topped_up ≡ may_be_topped_up rules past (link_view numbers.link))
    × (numbers.full_credit ≡ full_credit rules past (link_view numbers.link))

-- the counts of a consumer's link, and what waits for it
abbrev pub AreConsumerNumbers : RuleSet → List Event → ConsumerNumbers → Type 0
AreConsumerNumbers rules past numbers =
    (numbers.delivery_count ≡ delivery_count (link_view numbers.link) past)
    × (numbers.credit ≡ link_credit (link_view numbers.link) past)
    × (numbers.is_draining ≡ is_draining (link_view numbers.link) past)
    × (numbers.has_waiting ≡ has_waiting rules (link_view numbers.link).address past)
    × (numbers.has_unsent ≡ has_unsent rules (link_view numbers.link) past)

-- the link of a flow that names this handle, if any, and its counts
abbrev pub IsFlowLink : RuleSet → Event → List Event → Option ℕ → FlowLink → Type 0
IsFlowLink rules e past handle Nothing = handle ≡ None
IsFlowLink rules e past handle (NotLive named) = (handle ≡ Some named) × (e.link ≡ None)
IsFlowLink rules e past handle (Producer numbers) =
    (e.link ≡ Some (link_view numbers.link)) × (is_consumer (link_view numbers.link) ≡ false) × AreProducerNumbers rules past numbers
IsFlowLink rules e past handle (Consumer numbers) =
    (e.link ≡ Some (link_view numbers.link)) × (is_consumer (link_view numbers.link) ≡ true) × AreConsumerNumbers rules past numbers

-- L10
abbrev pub AreFlow : RuleSet → Event → List Event → FlowFacts → Type 0
AreFlow rules e past facts =
    (out_flow e ≡ Some facts.flow) × (option_map (λ numbers. numbers.session) facts.session ≡ e.session)
    × IfSome facts.session (AreSessionNumbers past) × IsFlowLink rules e past facts.flow.handle facts.link
