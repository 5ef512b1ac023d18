use Rattle.std.proofs.Common.{◌≡◌, ◌&&◌, ◌||◌, ◌==◌, ℕ, true, false, not, length, nat_eq}
use Rattle.number_groups.specs.Groups.{numbers}
use Rattle.amqp_perf.specs.declared.descriptor.Outcome.{Outcome}
use Rattle.amqp_perf.specs.declared.descriptor.Outcome.TheVariants.{Modified}
use Rattle.trace_events.specs.BestVerdict.{is_same_outcome}
use Rattle.state_verdicts.specs.Verdicts.{AreMirrored, awaits_in, had_in}
use Rattle.state_verdicts.proofs.verdicts.Verdicts.end_one.Given as goal

abbrev pub invariant-loop-left : goal.invariant-loop-left
invariant-loop-left l =
    (l.left ≡ length (numbers nat_eq l.self.on_link l.link))
    × ((at n : ℕ) → (l.link == at) ≡ false → awaits_in l.self at n ≡ awaits_in l.fn.self at n)
    × ((n : ℕ) → awaits_in l.self l.link n ≡ true → awaits_in l.fn.self l.link n ≡ true)
    × ((n : ℕ) (outcome : Outcome) → had_in l.self n outcome
    ≡ (had_in l.fn.self n outcome || is_same_outcome outcome Modified && (awaits_in l.fn.self l.link n && not (awaits_in l.self l.link n))))
    × (AreMirrored l.fn.self → AreMirrored l.self)
    × (l.self.let_go.items ≡ l.fn.self.let_go.items)

abbrev pub decreases-loop-left : goal.decreases-loop-left
decreases-loop-left l = l.left
