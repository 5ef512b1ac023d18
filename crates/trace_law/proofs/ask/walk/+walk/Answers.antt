use Rattle.std.proofs.Common.{ap, subst, ◌∙◌, drop, arith}
use Rattle.trace_events.specs.History.{judge}
use Rattle.trace_law.specs.OnStack.{events}
use Rattle.trace_events.specs.View.{event_view}
use Rattle.trace_law.proofs.Checking.{events-next}
use Rattle.trace_law.proofs.ask.walk.+walk.Goals as goal

pub walk-requires : goal.walk-requires
walk-requires g t c κs within =
    (omega (arith, c.requires.ordered, c.if-from-end.false), (within.0, (within.1, (omega (arith, c.requires.ordered, c.if-from-end.false), (c.requires.within, omega (arith, c.requires.numbered))))))

pub returns : goal.returns
returns g t c =
    subst (λ past. g.Q.Asked.is_answer c.args.asked.now c.args.rules.now past (drop c.args.end c.args.records.now) c.walk.result)
    (events-next c.args.rules.now (events c.args.past.now) c.args.records.now c.args.from c.args.end c.index-records-from.result (event_view c.judge-event.result)
    c.index-records-from.is (c.judge-event.ensures ∙ ap (judge c.args.rules.now (events c.args.past.now)) c.of-entry.ensures) c.requires.within (omega (arith, c.requires.ordered, c.if-from-end.false)))
    c.walk.ensures
