use Rattle.std.proofs.Common.{◌∙◌}
use Rattle.trace_law.specs.OnStack.{events}
use Rattle.trace_law.proofs.Checking.{broken-next}
use Rattle.trace_law.proofs.ask.check.BrokenByNextAsked.answer.Goals as goal

pub returns : goal.returns
returns c = c.broken_by.ensures ∙ broken-next c.args.rules.now (events c.args.past.now) c.args.rest.now c.in_ok-first.field-0.now c.in_ok-first.ensures.value
