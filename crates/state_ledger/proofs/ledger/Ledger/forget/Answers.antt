use Rattle.std.proofs.Common.{◌≡◌, sym, ◌∙◌, true, false}
use Rattle.state_ledger.proofs.ledger.Ledger.forget.Goals as goal

pub returns-then-self-clause-stand : goal.returns-then-self-clause-stand
returns-then-self-clause-stand c = λ rules records stands. (
  c.let_go_next_but_last.ensures.stand rules records stands.0,
  (
    stands.1.0,
    ((λ keeps. let never : true ≡ false = sym c.if-self.true ∙ keeps in absurd cc), c.let_go_next_but_last.ensures.last rules records stands.0 stands.1.1.1),
  ),
)
