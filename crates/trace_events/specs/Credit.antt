-- The credit of a link, as the counts of `flow_counts` over its own events (part 2 of the standard, section 2.6.7).
use Rattle.std.specs.Prelude.{ℕ, Bool, List, Option, Some, None, option_and_then, if◌then◌else◌, ◌==◌}
use Rattle.std.specs.List.{filter_map}
use Rattle.amqp_perf.specs.declared.flow.Flow.{Flow}
use Rattle.amqp_perf.specs.Meaning.{Meaning, AFlow, ATransfer, flag}
use Rattle.flow_counts.specs.Credit.{LinkEvent, TheirFlow, OurFlow, Begun}
use Rattle.flow_counts.specs.Credit as counts
use Rattle.flow_counts.specs.GivenCredit as given
use Rattle.trace_events.specs.Words.{is_some_and}
use Rattle.trace_events.specs.Frame.{spoken_in}
use Rattle.trace_events.specs.Event.{Event, Link, Moment, In, Out, is_on_link}

abbrev pub their_flow : Flow → LinkEvent
their_flow flow = TheirFlow flow.delivery_count flow.link_credit (flag flow.drain)

abbrev pub our_flow : Flow → LinkEvent
our_flow flow = OurFlow flow.delivery_count flow.link_credit (flag flow.drain)

-- a delivery begins with this event, from the client or to it
abbrev pub begins_incoming : Event → Bool
begins_incoming e = is_some_and e.incoming (λ d. d.number == e.number)

abbrev pub begins_outgoing : Event → Bool
begins_outgoing e = is_some_and e.outgoing (λ j. j.number == e.number)

abbrev pub in_link_event : Event → Meaning → Option LinkEvent
in_link_event e (AFlow flow) = Some (their_flow flow)
in_link_event e (ATransfer fields) = if begins_incoming e then Some Begun else None
in_link_event e _ = None

abbrev pub out_link_event : Event → Meaning → Option LinkEvent
out_link_event e (AFlow flow) = Some (our_flow flow)
out_link_event e (ATransfer fields) = if begins_outgoing e then Some Begun else None
out_link_event e _ = None

abbrev pub link_event : Event → Moment → Option LinkEvent
link_event e (In frame) = option_and_then (λ spoken. in_link_event e spoken.meaning) (spoken_in frame.body)
link_event e (Out frame) = option_and_then (λ spoken. out_link_event e spoken.meaning) (spoken_in frame.body)
link_event e _ = None

-- the link's own events, those that move its credit: flows that name it while it lives, and deliveries that begin
abbrev pub link_events : Link → List Event → List LinkEvent
link_events l past = filter_map (λ e. if is_on_link l e then link_event e e.moment else None) past

-- ---- a consumer's link

-- how many deliveries may still begin
abbrev pub link_credit : Link → List Event → ℕ
link_credit l past = counts.credit l.our_first_count (link_events l past)

abbrev pub delivery_count : Link → List Event → ℕ
delivery_count l past = counts.delivery_count l.our_first_count (link_events l past)

-- the client asks that its credit be used up
abbrev pub is_draining : Link → List Event → Bool
is_draining l past = counts.is_draining (link_events l past)

-- ---- a producer's link

-- how many deliveries the client may still begin
abbrev pub given_credit : Link → List Event → ℕ
given_credit l past = given.given_credit (link_events l past)

abbrev pub received_count : Link → List Event → ℕ
received_count l past = given.received_delivery_count l.their_first_count (link_events l past)

-- ---- both

-- how many deliveries have begun
abbrev pub begun_count : Link → List Event → ℕ
begun_count l past = given.begun_count (link_events l past)
