use Rattle.std.proofs.Common.{◌≡◌, ◌||◌, ℕ, take}
use Rattle.std.specs.List.{list_any}
use Rattle.amqp_perf.specs.declared.descriptor.Outcome.{Outcome}
use Rattle.state_verdicts.specs.Verdicts.{AreMirrored, awaits_in, had_in, is_taken}
use Rattle.state_verdicts.proofs.verdicts.Verdicts.note_all.Given as goal

abbrev pub invariant-loop-verdict : goal.invariant-loop-verdict
invariant-loop-verdict l =
    ((link n : ℕ) → awaits_in l.self link n ≡ awaits_in l.fn.self link n)
    × ((n : ℕ) (outcome : Outcome) → had_in l.self n outcome ≡ (had_in l.fn.self n outcome || list_any (is_taken l.fn.self n outcome) (take l.verdict-index l.given)))
    × (AreMirrored l.fn.self → AreMirrored l.self)
    × (l.self.let_go.items ≡ l.fn.self.let_go.items)
