-- Captures as literals, and which duties a router that wrote them neglected.
use Rattle.std.specs.Prelude.{ℕ, List, [], Bool, ◌&&◌}
use Rattle.std.specs.Fmt.{digits}
use Rattle.amqp_perf.proofs.Opened.{read, written}
use Rattle.amqp_frames.specs.Writing.{frame_octets}
use Rattle.amqp_frames.specs.Reading.{whole_frame, frame_at, sized_frame, headed_frame}
use Rattle.capture_form.specs.declared.records.Record.{Record}
use Rattle.capture_form.specs.Rules.{RuleText, no_rules}
use Rattle.trace_events.specs.Words.{is_some_and}
use Rattle.trace_events.specs.Frame.{frame_read}
use Rattle.trace_events.specs.Link.{is_live, link_at}
use Rattle.trace_events.specs.Incoming.{incoming_at}
use Rattle.trace_events.specs.Due.{is_unsent}
use Rattle.trace_events.specs.History.{history, judge}
use Rattle.trace_events.specs.TransferClause.{is_in_order}
use Rattle.trace_events.specs.Written.{spoken_octets}
use Rattle.trace_duties.specs.Diligent.{is_diligent}
use Rattle.trace_duties.specs.Order.{is_earliest}
use Rattle.trace_duties.specs.Turn.{stands_in_turn, is_ordered}
use Rattle.trace_duties.proofs.Duties.{Duty, left, neglected, is_window_left}
use Rattle.trace_events.proofs.Captures.{unmarked}

-- the reading and the writing of octets are opened here, once

unfoldable pub neglected_of : List RuleText → List Record → List Duty
unfolding frame_read whole_frame frame_at sized_frame headed_frame read digits spoken_octets frame_octets written
neglected_of rules records = neglected (unmarked rules) (history (unmarked rules) records)

unfoldable pub is_window_left_behind : List Record → ℕ → Bool
unfolding frame_read whole_frame frame_at sized_frame headed_frame read digits spoken_octets frame_octets written
is_window_left_behind records n = is_window_left n (history no_rules records)

unfoldable pub diligence_of : List RuleText → List Record → Bool
unfolding frame_read whole_frame frame_at sized_frame headed_frame read digits spoken_octets frame_octets written
diligence_of rules records = is_diligent (unmarked rules) records

-- the delivery that begins in this record is in order on the link of this number, or on one that differs from it in its address
unfoldable pub is_in_order_on : List RuleText → List Record → ℕ → ℕ → Bool
unfolding frame_read whole_frame frame_at sized_frame headed_frame read digits spoken_octets frame_octets written
is_in_order_on rules records n m = let past = history (unmarked rules) records in is_some_and (link_at n past) (λ l. is_some_and (incoming_at m past) (is_in_order l past))

unfoldable pub is_unsent_at : List RuleText → List Record → ℕ → List ℕ → ℕ → Bool
unfolding frame_read whole_frame frame_at sized_frame headed_frame read digits spoken_octets frame_octets written
is_unsent_at rules records n address m =
    let past = history (unmarked rules) records in
    is_some_and (link_at n past) (λ l. let other = record l { address = address } in is_live past other && is_some_and (incoming_at m past) (λ d. is_unsent (unmarked rules) d other past))

unfoldable pub is_in_order_at : List RuleText → List Record → ℕ → List ℕ → ℕ → Bool
unfolding frame_read whole_frame frame_at sized_frame headed_frame read digits spoken_octets frame_octets written
is_in_order_at rules records n address m =
    let past = history (unmarked rules) records in
    is_some_and (link_at n past) (λ l. is_some_and (incoming_at m past) (is_in_order (record l { address = address }) past))

-- one more record sends the earliest of what is to be sent on its link
unfoldable pub is_earliest_by : List RuleText → List Record → Record → Bool
unfolding frame_read whole_frame frame_at sized_frame headed_frame read digits spoken_octets frame_octets written
is_earliest_by rules records r = let past = history (unmarked rules) records in is_earliest (unmarked rules) (judge (unmarked rules) past r) past

-- one more record stands in turn
unfoldable pub in_turn_by : List RuleText → List Record → Record → Bool
unfolding frame_read whole_frame frame_at sized_frame headed_frame read digits spoken_octets frame_octets written
in_turn_by rules records r = let past = history (unmarked rules) records in let e = judge (unmarked rules) past r in stands_in_turn (unmarked rules) e past e.moment

-- each record of a capture does
unfoldable pub order_of : List RuleText → List Record → Bool
unfolding frame_read whole_frame frame_at sized_frame headed_frame read digits spoken_octets frame_octets written
order_of rules records = is_ordered (unmarked rules) records

-- what is left to be written, by the duties that ask for it
unfoldable pub left_of : List RuleText → List Record → List Duty
unfolding frame_read whole_frame frame_at sized_frame headed_frame read digits spoken_octets frame_octets written
left_of rules records = left (unmarked rules) (history (unmarked rules) records)
