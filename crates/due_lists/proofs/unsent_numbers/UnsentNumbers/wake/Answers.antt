use Rattle.std.proofs.Common.{◌≡◌, sym, subst, ◌∙◌, ℕ, Option, Some, true}
use Rattle.std.proofs.lemmas.Result.{on_ok_weaker}
use Rattle.due_lists.specs.UnsentNumbers.{stands}
use Rattle.due_lists.proofs.unsent_numbers.UnsentNumbers.wake.Goals as goal

same_some : (a b : ℕ) → Some a ≡ Some b → a ≡ b
same_some a b is = cc

pub returns-in-Some-clause-woken : goal.returns-in-Some-clause-woken
returns-in-Some-clause-woken c =
    on_ok_weaker c.touch_session.result
    (λ touched rules past tells s on grants live shut link completion n there copy.
    let is : ◌≡◌ {A = Option ℕ} (Some c.in-Some.session) (Some s.number) = sym c.in-Some.is ∙ c.granted.ensures rules past tells s on grants live shut in
    touched link completion n (subst (λ k. stands c.args.self.now k link ≡ true) (sym (same_some c.in-Some.session s.number is)) there) copy)
    c.touch_session.ensures.touched
