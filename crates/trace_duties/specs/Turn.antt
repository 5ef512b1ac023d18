-- In which order a router writes what is due (own rules): first the answer to the input, then outcomes, settlings, transfers,
-- answers to drains, credit for producers, and windows of sessions. It is asked of each record alone: behind the answer
-- nothing of an earlier place is due where it stands. So outcomes that no transfer causes stand in front of all transfers.
-- One that a transfer causes stands behind it at once, and the settlings that it frees stand behind that.
use Rattle.std.specs.Prelude.{Bool, true, false, ◌&&◌, ◌||◌, not, List, [], ◌∷◌, length, is_some, if◌then◌else◌, ◌==◌}
use Rattle.std.specs.List.{list_all}
use Rattle.amqp_perf.specs.declared.attach.Role.{Role}
use Rattle.amqp_perf.specs.declared.attach.Role.TheVariants.{Sender, Receiver}
use Rattle.amqp_perf.specs.declared.flow.Flow.{Flow}
use Rattle.amqp_perf.specs.Meaning.{Meaning, AFlow, ATransfer, ADisposition}
use Rattle.capture_form.specs.declared.records.Record.{Record}
use Rattle.capture_form.specs.Rules.{RuleSet}
use Rattle.trace_events.specs.Words.{is_some_and, is_none_or}
use Rattle.trace_events.specs.Frame.{spoken_in}
use Rattle.trace_events.specs.Event.{Event, Link, Incoming, Moment, Out}
use Rattle.trace_events.specs.Link.{is_consumer}
use Rattle.trace_events.specs.Incoming.{address_of, incoming_deliveries, completed_before}
use Rattle.trace_events.specs.Outgoing.{noted}
use Rattle.trace_events.specs.Waiting.{is_of_multicast, is_waiting}
use Rattle.trace_events.specs.History.{history}
use Rattle.trace_duties.specs.Pick.{eligible}
use Rattle.trace_duties.specs.Quiet.{none_is_untold, none_is_unsettled, stands_still, none_stands_still, none_waits_in_vain, copies_are_sent, none_is_undrained, none_lacks_credit}
use Rattle.trace_duties.specs.Diligent.{is_of_answer}

-- ---- nothing of the earlier places is due

-- no outcome could be told, and no delivery is to be settled
abbrev pub is_all_told : RuleSet → List Event → Bool
is_all_told rules past = none_is_untold rules past && none_is_unsettled past

-- and no transfer could be written
abbrev pub is_all_sent : RuleSet → List Event → Bool
is_all_sent rules past = is_all_told rules past && none_stands_still past && none_waits_in_vain rules past && copies_are_sent rules past

-- and no drain is to be answered
abbrev pub is_all_drained : RuleSet → List Event → Bool
is_all_drained rules past = is_all_sent rules past && none_is_undrained rules past

-- and no producer's link is to be given credit
abbrev pub is_all_credited : RuleSet → List Event → Bool
is_all_credited rules past = is_all_drained rules past && none_lacks_credit rules past

-- ---- the place of each kind

-- outcomes first, then settlings
abbrev pub disposition_in_turn : RuleSet → List Event → Role → Bool
disposition_in_turn rules past Receiver = true
disposition_in_turn rules past Sender = none_is_untold rules past

-- no delivery that waits and may begin was completed before this one
abbrev pub is_first_to_begin : RuleSet → List Event → Incoming → Bool
is_first_to_begin rules past d =
    list_all (λ other. not (is_waiting rules other past) || length (eligible (address_of other past) past) == 0 || not (completed_before other d past))
    (incoming_deliveries past)

-- where no delivery in progress may go on, one begins: a copy, or the first of those that wait
abbrev pub begins_in_turn : RuleSet → Event → List Event → Bool
begins_in_turn rules e past =
    none_stands_still past && is_none_or (noted e.note past) (λ d. is_of_multicast rules d past || is_first_to_begin rules past d)

-- then transfers: deliveries in progress go on before others begin
abbrev pub transfer_in_turn : RuleSet → Event → List Event → Bool
transfer_in_turn rules e past = is_all_told rules past && (is_some_and e.link (stands_still past) || begins_in_turn rules e past)

-- then the answers to drains, and behind them credit for producers
abbrev pub link_flow_in_turn : RuleSet → List Event → Link → Bool
link_flow_in_turn rules past l = if is_consumer l then is_all_sent rules past else is_all_drained rules past

-- then windows of sessions
abbrev pub flow_in_turn : RuleSet → Event → Flow → List Event → Bool
flow_in_turn rules e flow past =
    if is_some flow.handle then is_some_and e.link (link_flow_in_turn rules past) else is_all_credited rules past

-- nothing else is written but as an answer
abbrev pub is_in_place : RuleSet → Event → List Event → Meaning → Bool
is_in_place rules e past (ADisposition fields) = disposition_in_turn rules past fields.role
is_in_place rules e past (ATransfer fields) = transfer_in_turn rules e past
is_in_place rules e past (AFlow flow) = flow_in_turn rules e flow past
is_in_place rules e past _ = false

-- ---- all of it

-- a frame is of the answer, or stands in its place
abbrev pub stands_in_turn : RuleSet → Event → List Event → Moment → Bool
stands_in_turn rules e past (Out frame) =
    is_of_answer rules past || is_some_and (spoken_in frame.body) (λ spoken. is_in_place rules e past spoken.meaning)
stands_in_turn rules e past _ = true

abbrev pub are_in_turn : RuleSet → List Event → Bool
are_in_turn rules [] = true
are_in_turn rules (e ∷ past) = let earlier = are_in_turn rules past in stands_in_turn rules e past e.moment && earlier

-- the records of each step stand in this order
abbrev pub is_ordered : RuleSet → List Record → Bool
is_ordered rules records = are_in_turn rules (history rules records)
