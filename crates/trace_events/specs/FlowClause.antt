-- L10: flows that the router writes (part 2 of the standard, sections 2.5.6, 2.6.7 and 2.7.4).
use Rattle.std.specs.Prelude.{ℕ, ◌+◌, ◌-◌, Bool, ◌&&◌, ◌||◌, not, List, is_some, nat_le, nat_lt, ◌==◌, if◌then◌else◌}
use Rattle.std.specs.Bool.{beq}
use Rattle.amqp_perf.specs.declared.flow.Flow.{Flow}
use Rattle.amqp_perf.specs.Meaning.{flag}
use Rattle.capture_form.specs.Rules.{RuleSet}
use Rattle.flow_counts.specs.Serial.{serial_add}
use Rattle.flow_counts.specs.declared.profile.TheConstants.{OUTGOING_WINDOW, INCOMING_WINDOW, CAPACITY, LOW_MARK}
use Rattle.trace_events.specs.Words.{is_some_and, is_number}
use Rattle.trace_events.specs.Event.{Event, Link}
use Rattle.trace_events.specs.declared.session.Session.{Session}
use Rattle.trace_events.specs.Link.{is_anonymous, is_consumer}
use Rattle.trace_events.specs.Window.{next_outgoing_id, next_incoming_id}
use Rattle.trace_events.specs.Credit.{link_credit, delivery_count, is_draining, given_credit, received_count}
use Rattle.trace_events.specs.Address.{has_multicast, has_consumer}
use Rattle.trace_events.specs.Waiting.{undecided_count, has_waiting}
use Rattle.trace_events.specs.Due.{has_unsent}

abbrev pub has_session_numbers : Flow → List Event → Session → Bool
has_session_numbers flow past s =
    flow.incoming_window == INCOMING_WINDOW && flow.outgoing_window == OUTGOING_WINDOW
    && flow.next_outgoing_id == next_outgoing_id s past && is_number flow.next_incoming_id (next_incoming_id s past)

-- ---- a producer's link

-- its credit and undecided deliveries have come down so far that it is to be given more, and someone may take its
-- deliveries, or an anonymous sender's deliveries say for whom they are (own rule)
abbrev pub may_be_topped_up : RuleSet → List Event → Link → Bool
may_be_topped_up rules past l =
    nat_le (given_credit l past + undecided_count rules l past) LOW_MARK
    && (is_anonymous l || has_multicast rules l.address || has_consumer l.address past)

-- the credit that fills it up
abbrev pub full_credit : RuleSet → List Event → Link → ℕ
full_credit rules past l = CAPACITY - undecided_count rules l past

abbrev pub has_producer_numbers : RuleSet → Flow → List Event → Link → Bool
has_producer_numbers rules flow past l =
    not (flag flow.drain) && is_number flow.delivery_count (received_count l past)
    && (is_number flow.link_credit (given_credit l past)
    || may_be_topped_up rules past l && is_number flow.link_credit (full_credit rules past l))

-- ---- a consumer's link

-- nothing waits for it: no delivery at its address, and no copy that is due to it
abbrev pub nothing_waits : RuleSet → List Event → Link → Bool
nothing_waits rules past l = not (has_waiting rules l.address past) && not (has_unsent rules l past)

-- its credit may be used up, since nothing waits and the client asks for it (2.6.7)
abbrev pub may_be_drained : RuleSet → List Event → Link → Bool
may_be_drained rules past l = is_draining l past && nat_lt 0 (link_credit l past) && nothing_waits rules past l

abbrev pub drained_count : List Event → Link → ℕ
drained_count past l = serial_add (delivery_count l past) (link_credit l past)

abbrev pub is_drain_answer : RuleSet → Flow → List Event → Link → Bool
is_drain_answer rules flow past l =
    may_be_drained rules past l && is_number flow.delivery_count (drained_count past l) && is_number flow.link_credit 0

abbrev pub has_consumer_numbers : RuleSet → Flow → List Event → Link → Bool
has_consumer_numbers rules flow past l =
    beq (flag flow.drain) (is_draining l past)
    && (is_number flow.delivery_count (delivery_count l past) && is_number flow.link_credit (link_credit l past)
    || is_drain_answer rules flow past l)

-- ---- both

abbrev pub has_link_numbers : RuleSet → Flow → List Event → Link → Bool
has_link_numbers rules flow past l =
    if is_consumer l then has_consumer_numbers rules flow past l else has_producer_numbers rules flow past l

-- a flow stands on a live session and has its numbers; with a handle, those of a live link too; without one, no drain
abbrev pub tells_counts : RuleSet → Event → Flow → List Event → Bool
tells_counts rules e flow past =
    is_some_and e.session (has_session_numbers flow past)
    && (if is_some flow.handle then is_some_and e.link (has_link_numbers rules flow past) else not (flag flow.drain))
