use Rattle.std.proofs.Common.{◌≡◌, sym, ◌∙◌, true, false}
use Rattle.due_lists.proofs.copies.UnsentCopies.new.Goals as goal

never : {A : Type 0} → false ≡ true → A
never is = absurd cc

pub returns : goal.returns
returns c = λ rules. record {
  are = c.new-copies.ensures rules;
  ranked = λ link n m is. let none = sym (c.new-unsent.ensures link n) ∙ is in absurd cc;
  listed = λ l d h. never h.unsent;
  stands = λ l d h. never h.unsent;
  waits = λ l d h takes. never h.unsent;
}
