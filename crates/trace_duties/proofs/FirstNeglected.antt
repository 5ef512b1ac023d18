-- The first of a router's duties that a history neglects, and the record where it is neglected.
use Rattle.std.specs.Prelude.{ℕ, suc, List, [], ◌∷◌, ◌+◌, ◌*◌, ◌-◌, Bool, Option, Some, None, option_map, length, take, reverse, nat_lt, if◌then◌else◌}
use Rattle.amqp_perf.proofs.Opened.{read, written}
use Rattle.amqp_frames.specs.Writing.{frame_octets}
use Rattle.amqp_frames.specs.Reading.{whole_frame, frame_at, sized_frame, headed_frame}
use Rattle.std.specs.Fmt.{digits}
use Rattle.capture_form.specs.declared.records.Record.{Record}
use Rattle.capture_form.specs.Rules.{RuleText, RuleSet}
use Rattle.trace_events.specs.Words.{or_else}
use Rattle.trace_events.specs.Frame.{Frame, frame_read}
use Rattle.trace_events.specs.Event.{Event, Moment, Out}
use Rattle.trace_events.specs.Written.{spoken_octets}
use Rattle.trace_events.specs.History.{history}
use Rattle.trace_duties.specs.Quiet.{none_waits_in_vain, none_stands_still, none_is_untold, none_lacks_credit, none_lacks_window, none_is_undrained, copies_are_sent, none_is_unsettled}
use Rattle.trace_duties.specs.Diligent.{group, up_to_input, last_answer, begin_with, is_answered, is_of_answer, is_picked, is_due_frame, is_diligent_history}
use Rattle.trace_duties.proofs.Duties.{Duty, Waiting, Progress, Outcome, Credit, Window, Drain, Copies, Settling, Answer, Pick, NothingElse}
use Rattle.trace_events.proofs.Captures.{unmarked}

-- ---- what is neglected at a moment

-- the duty, where it is not kept; else what comes behind it
abbrev where_broken : Bool → Duty → Option Duty → Option Duty
where_broken kept duty others = if kept then others else Some duty

-- at an input and at the end: the last input is answered to the end, and nothing is left to write
abbrev pub left_at : RuleSet → List Event → Option Duty
left_at rules past =
    where_broken (is_answered rules past) Answer
    (where_broken (none_waits_in_vain rules past) Waiting
    (where_broken (none_stands_still past) Progress
    (where_broken (none_is_untold rules past) Outcome
    (where_broken (none_lacks_credit rules past) Credit
    (where_broken (none_lacks_window past) Window
    (where_broken (none_is_undrained rules past) Drain
    (where_broken (copies_are_sent rules past) Copies
    (where_broken (none_is_unsettled past) Settling None))))))))

-- the frames since the last input, with this one, begin with as many of its answer
abbrev answers_so_far : RuleSet → Event → List Event → Bool
answers_so_far rules e past =
    let written = group past in
    begin_with (up_to_input past) (take (suc (length written)) (last_answer rules past)) (reverse (e ∷ written))

-- at a frame that is written: it is the next of the answer; behind the answer it goes where it is to, and is due
abbrev written_amiss : RuleSet → Event → Frame → List Event → Option Duty
written_amiss rules e frame past =
    if is_of_answer rules past then where_broken (answers_so_far rules e past) Answer None
    else where_broken (is_picked rules e past) Pick (where_broken (is_due_frame rules e frame past) NothingElse None)

abbrev neglected_at : RuleSet → Event → List Event → Moment → Option Duty
neglected_at rules e past (Out frame) = written_amiss rules e frame past
neglected_at rules e past _ = left_at rules past

-- ---- the first of all

abbrev neglected_before : RuleSet → List Event → Option (Duty × ℕ)
neglected_before rules [] = None
neglected_before rules (e ∷ past) =
    let earlier = neglected_before rules past in
    or_else earlier (option_map (λ duty. (duty, e.number)) (neglected_at rules e past e.moment))

-- the first duty that is neglected, with the number of the record where it is; at the end the number of records
abbrev pub first_neglected : RuleSet → List Event → Option (Duty × ℕ)
first_neglected rules past =
    or_else (neglected_before rules past) (option_map (λ duty. (duty, length past)) (left_at rules past))

-- of events: that, and whether the router is diligent
abbrev duties_in : RuleSet → List Event → Option (Duty × ℕ) × Bool
duties_in rules past = (first_neglected rules past, is_diligent_history rules past)

-- of a capture's records: the reading and the writing of octets are opened here, once
unfoldable pub duties_of : List RuleText → List Record → Option (Duty × ℕ) × Bool
unfolding frame_read whole_frame frame_at sized_frame headed_frame read digits spoken_octets frame_octets written
duties_of rules records = duties_in (unmarked rules) (history (unmarked rules) records)

-- ---- octets as hexadecimal digits, two for each

abbrev digit : ℕ → ℕ
digit code = if nat_lt code 58 then code - 48 else code - 55

abbrev pub hex : List ℕ → List ℕ
hex [] = []
hex (high ∷ []) = []
hex (high ∷ low ∷ more) = (digit high * 16 + digit low) ∷ hex more
