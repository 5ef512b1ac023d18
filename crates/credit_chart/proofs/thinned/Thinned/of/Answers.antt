use Rattle.std.proofs.Common.{None, subst, sym, List, Option, take}
use Rattle.std.proofs.lemmas.List.{take_all, take_more}
use Rattle.credit_chart.specs.declared.level.Level.{Level}
use Rattle.credit_chart.specs.Thinned.{AreThinned}
use Rattle.credit_chart.proofs.thinned.Thinned.of.Goals as goal

pub loop-found-preserved : goal.loop-found-preserved
loop-found-preserved c =
    let i = c.loop-found.found-index in
    subst (λ (t : List (Option Level)). AreThinned t c.push.new.self) (sym (take_more c.args.levels.now i None c.loop-found-test.true))
    (c.in_ok-push.ensures.taken (take i c.args.levels.now) c.loop-found.invariant)

pub returns : goal.returns
returns c = subst (λ (t : List (Option Level)). AreThinned t c.loop-found.thinned) (take_all c.loop-found.found-index c.args.levels.now c.loop-found-test.false) c.loop-found.invariant
