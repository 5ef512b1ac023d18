-- What the producer of a multicast delivery is told: once every copy that is due has its verdict, the best of these (states:
-- part 3 of the standard, section 3.4; which one is told is an own rule).
use Rattle.std.specs.Prelude.{ℕ, Bool, true, false, ◌&&◌, ◌||◌, not, List, Option, Some, None, option_map, if◌then◌else◌}
use Rattle.std.specs.List.{list_any}
use Rattle.amqp_perf.specs.declared.descriptor.Outcome.{Outcome}
use Rattle.amqp_perf.specs.declared.descriptor.Outcome.TheVariants.{Accepted, Rejected, Released, Modified}
use Rattle.amqp_perf.specs.Router.{bare_state, delivery_failed}
use Rattle.capture_form.specs.Rules.{RuleSet}
use Rattle.trace_events.specs.Words.{is_some_and}
use Rattle.trace_events.specs.Event.{Event, Link, Incoming}
use Rattle.trace_events.specs.Link.{links}
use Rattle.trace_events.specs.Due.{is_due}
use Rattle.trace_events.specs.Waiting.{is_of_multicast}
use Rattle.trace_events.specs.CopyVerdict.{copy_verdict, awaits_verdict}

abbrev pub is_same_outcome : Outcome → Outcome → Bool
is_same_outcome Accepted Accepted = true
is_same_outcome Rejected Rejected = true
is_same_outcome Released Released = true
is_same_outcome Modified Modified = true
is_same_outcome _ _ = false

-- a copy is due to the link, and this is its verdict
abbrev pub is_verdict : RuleSet → Incoming → List Event → Outcome → Link → Bool
is_verdict rules d past outcome l = is_due rules d l past && is_some_and (copy_verdict d l past) (is_same_outcome outcome)

-- some copy has this verdict
abbrev pub has_verdict : RuleSet → Incoming → List Event → Outcome → Bool
has_verdict rules d past outcome = list_any (is_verdict rules d past outcome) (links past)

abbrev pub is_due_to_some : RuleSet → Incoming → List Event → Bool
is_due_to_some rules d past = list_any (λ l. is_due rules d l past) (links past)

-- every copy that is due has its verdict
abbrev pub has_all_verdicts : RuleSet → Incoming → List Event → Bool
has_all_verdicts rules d past = not (list_any (awaits_verdict rules d past) (links past))

-- the best of the verdicts: accepted before modified, rejected and released; accepted too where no copy is due
abbrev pub best_verdict : RuleSet → Incoming → List Event → Outcome
best_verdict rules d past =
    if not (is_due_to_some rules d past) || has_verdict rules d past Accepted then Accepted
    else if has_verdict rules d past Modified then Modified
    else if has_verdict rules d past Rejected then Rejected else Released

-- the state that tells it: modified as delivery failed, whatever its consumer said, and the others without fields
abbrev pub told_octets : Outcome → List ℕ
told_octets Modified = delivery_failed.octets
told_octets Accepted = (bare_state Accepted).octets
told_octets Rejected = (bare_state Rejected).octets
told_octets Released = (bare_state Released).octets

-- the verdict of the whole delivery: the best one, where every copy that is due has its own
abbrev pub whole_verdict : RuleSet → Incoming → List Event → Option Outcome
whole_verdict rules d past = if has_all_verdicts rules d past then Some (best_verdict rules d past) else None

-- the row of a multicast delivery: the state that tells its verdict
abbrev pub multicast_row : RuleSet → Incoming → List Event → Option (Option (List ℕ))
multicast_row rules d past =
    if is_of_multicast rules d past then option_map (λ outcome. Some (told_octets outcome)) (whole_verdict rules d past) else None
