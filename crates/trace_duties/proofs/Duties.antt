-- Which of a router's duties a history neglects, each by a name.
use Rattle.std.specs.Prelude.{ℕ, List, Bool, true, ◌&&◌, ◌||◌, [], ◌∷◌, ◌++◌, replicate, if◌then◌else◌}
use Rattle.capture_form.specs.Rules.{RuleSet}
use Rattle.trace_events.specs.Words.{is_some_and}
use Rattle.trace_events.specs.Event.{Event, is_out, out_frame}
use Rattle.trace_duties.specs.Quiet.{none_waits_in_vain, none_stands_still, none_is_untold, none_lacks_credit, none_lacks_window, none_is_undrained, copies_are_sent, none_is_unsettled}
use Rattle.trace_duties.specs.Diligent.{is_answered, is_picked, is_due_frame}

pub data Duty : Type 0 where
  Waiting Progress Outcome Credit Window Drain Copies Settling Answer Pick NothingElse : Duty

-- a test of the state, before each input and at the end
abbrev pub before_inputs : (List Event → Bool) → List Event → Bool
before_inputs test [] = true
before_inputs test (e ∷ past) = let earlier = before_inputs test past in (is_out e.moment || test past) && earlier

abbrev pub always : (List Event → Bool) → List Event → Bool
always test past = test past && before_inputs test past

-- a test of each frame that is written
abbrev pub each_written : (Event → List Event → Bool) → List Event → Bool
each_written test [] = true
each_written test (e ∷ past) = let earlier = each_written test past in (if is_out e.moment then test e past else true) && earlier

abbrev pub unless : Bool → Duty → List Duty → List Duty
unless kept duty others = if kept then others else duty ∷ others

abbrev pub is_due : RuleSet → Event → List Event → Bool
is_due rules e past = is_some_and (out_frame e.moment) (λ frame. is_due_frame rules e frame past)

abbrev pub neglected : RuleSet → List Event → List Duty
neglected rules past =
    unless (always (none_waits_in_vain rules) past) Waiting
    (unless (always none_stands_still past) Progress
    (unless (always (none_is_untold rules) past) Outcome
    (unless (always (none_lacks_credit rules) past) Credit
    (unless (always none_lacks_window past) Window
    (unless (always (none_is_undrained rules) past) Drain
    (unless (always (copies_are_sent rules) past) Copies
    (unless (always none_is_unsettled past) Settling
    (unless (always (is_answered rules) past) Answer
    (unless (each_written (is_picked rules) past) Pick
    (unless (each_written (is_due rules) past) NothingElse []))))))))))

-- the window of the sessions behind n events that are all as the last one
abbrev pub is_window_left : ℕ → List Event → Bool
is_window_left n [] = true
is_window_left n (e ∷ past) = none_lacks_window (replicate n e ++ past)

-- what is left to be written
abbrev pub left : RuleSet → List Event → List Duty
left rules past =
    unless (none_is_untold rules past) Outcome
    (unless (none_is_unsettled past) Settling
    (unless (none_stands_still past) Progress
    (unless (none_waits_in_vain rules past) Waiting
    (unless (copies_are_sent rules past) Copies
    (unless (none_is_undrained rules past) Drain
    (unless (none_lacks_credit rules past) Credit
    (unless (none_lacks_window past) Window [])))))))
