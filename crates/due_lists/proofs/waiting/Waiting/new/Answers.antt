use Rattle.std.proofs.Common.{◌≡◌, Option, Some, None}
use Rattle.due_lists.proofs.waiting.Waiting.new.Goals as goal

never : {A B : Type 0} (x : A) → ◌≡◌ {A = Option A} None (Some x) → B
never x is = absurd cc

pub returns : goal.returns
returns c = λ rules. record {
  picks = c.new.ensures;
  queues = c.new-2.ensures rules;
  stands = λ l live consumer. never l live.1;
  to_try = λ d l h. never d h.found;
}
