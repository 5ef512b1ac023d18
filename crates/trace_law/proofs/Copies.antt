-- Copies that are due.
use Rattle.std.proofs.Common.{ℕ, suc, ◌≤◌, Bool, true, false, List, [], ◌∷◌, length, cond, arith}
use Rattle.capture_form.specs.Rules.{RuleSet}
use Rattle.trace_events.specs.Event.{Event, Link}
use Rattle.trace_events.specs.Due.{due_count, makes_due}

-- no more than one by each event
pub few_due : (rules : RuleSet) (l : Link) (past : List Event) → due_count rules l past ≤ length past
few_due rules l [] = omega arith
few_due rules l (e ∷ past) = by (makes_due rules l e past (due_count rules l past)) (due_count rules l past) (length past) (few_due rules l past) where
  by : (b : Bool) (n m : ℕ) → n ≤ m → cond b (suc n) n ≤ suc m
  by true n m le = omega arith
  by false n m le = omega arith
