use Rattle.std.proofs.Common.{◌≡◌, false, ◌&&◌, ◌||◌, List, take}
use Rattle.std.specs.List.{list_any}
use Rattle.capture_form.specs.Rules.{RuleSet}
use Rattle.trace_events.specs.Event.{Event}
use Rattle.trace_events.specs.Link.{is_consumer}
use Rattle.trace_events.specs.Waiting.{has_waiting}
use Rattle.trace_events.specs.View.{link_view}
use Rattle.state_answers.specs.Tables.{TellsOf}
use Rattle.due_lists.proofs.credits.has_waited.Given as goal

abbrev pub invariant-loop-link : goal.invariant-loop-link
invariant-loop-link l = (rules : RuleSet) (past : List Event) → TellsOf rules l.before past
    → l.has ≡ false || list_any (λ link. is_consumer (link_view link) && has_waiting rules (link_view link).address past) (take l.link-index l.ended)
