use Rattle.std.proofs.Common.{◌≡◌, ◌&&◌, ◌||◌, ◌==◌, ℕ, take}
use Rattle.std.specs.List.{list_any}
use Rattle.amqp_perf.specs.declared.descriptor.Outcome.{Outcome}
use Rattle.state_verdicts.specs.Verdicts.{AreMirrored, awaits_in, had_in}
use Rattle.state_verdicts.proofs.verdicts.Verdicts.await_on.Given as goal

abbrev pub invariant-loop-link : goal.invariant-loop-link
invariant-loop-link l =
    ((link n : ℕ) → awaits_in l.self link n ≡ (l.number == n && list_any (λ m. m == link) (take l.link-index l.links) || awaits_in l.fn.self link n))
    × ((n : ℕ) (outcome : Outcome) → had_in l.self n outcome ≡ had_in l.fn.self n outcome)
    × (AreMirrored l.fn.self → AreMirrored l.self)
    × (l.self.let_go.items ≡ l.fn.self.let_go.items)
