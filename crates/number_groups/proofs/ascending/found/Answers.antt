use Rattle.std.proofs.Common.{sym, subst, ◌∙◌, ◌≡◌, true, IfSome, Option, ℕ}
use Rattle.number_groups.proofs.Passing.{first-passes, none-passes}
use Rattle.number_groups.proofs.ascending.found.Goals as goal

pub returns-clause-passes : goal.returns-clause-passes
returns-clause-passes g c =
    let test = g.T.NumberTest.does_pass c.args.test.now in
    subst (λ (o : Option ℕ). IfSome o (λ n. test n ≡ true)) (sym c.first_of.ensures) (first-passes test c.args.numbers.now.keys)

pub returns-clause-none : goal.returns-clause-none
returns-clause-none g c = λ none n there. none-passes (g.T.NumberTest.does_pass c.args.test.now) c.args.numbers.now.keys (sym c.first_of.ensures ∙ none) n there
