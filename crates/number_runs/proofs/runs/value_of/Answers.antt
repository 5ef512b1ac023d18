use Rattle.std.proofs.Common.{IfSome, subst, sym, ◌∙◌, ◌<◌}
use Rattle.number_runs.proofs.Places.{found, missed}
use Rattle.number_runs.proofs.runs.value_of.Goals as goal

pub returns-in_err-run : goal.returns-in_err-run
returns-in_err-run g c = λ apart.
    let none = sym c.run_at.ensures ∙ c.in_err-run.was in
    c.from_residual.ensures
    ∙ sym (missed c.args.number 0 c.args.runs.now c.place.result apart (c.place.ensures.before apart) (subst (λ o. IfSome o (λ run. c.args.number < run.first)) (sym none) tt))

pub returns-then-run-number : goal.returns-then-run-number
returns-then-run-number g c = λ apart.
    sym (found c.args.number c.args.runs.now c.place.result c.in_ok-run.run' (c.place.ensures.before apart) (c.place.ensures.behind apart) (sym c.run_at.ensures ∙ c.in_ok-run.was) c.if-run-number.true)

pub returns-else-run-number : goal.returns-else-run-number
returns-else-run-number g c = λ apart.
    let some = sym c.run_at.ensures ∙ c.in_ok-run.was in
    sym (missed c.args.number 0 c.args.runs.now c.place.result apart (c.place.ensures.before apart) (subst (λ o. IfSome o (λ run. c.args.number < run.first)) (sym some) c.if-run-number.false))
