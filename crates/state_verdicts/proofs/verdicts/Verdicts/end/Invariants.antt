use Rattle.std.proofs.Common.{◌≡◌, ◌&&◌, ◌||◌, ◌==◌, ℕ, not, take}
use Rattle.std.specs.List.{list_any}
use Rattle.amqp_perf.specs.declared.descriptor.Outcome.{Outcome}
use Rattle.amqp_perf.specs.declared.descriptor.Outcome.TheVariants.{Modified}
use Rattle.trace_events.specs.BestVerdict.{is_same_outcome}
use Rattle.state_verdicts.specs.Verdicts.{AreMirrored, awaits_in, had_in}
use Rattle.state_verdicts.proofs.verdicts.Verdicts.end.Given as goal

abbrev pub invariant-loop-link : goal.invariant-loop-link
invariant-loop-link l =
    ((link n : ℕ) → awaits_in l.self link n ≡ (awaits_in l.fn.self link n && not (list_any (λ x. x.number == link) (take l.link-index l.ended))))
    × ((n : ℕ) (outcome : Outcome) → had_in l.self n outcome
    ≡ (had_in l.fn.self n outcome || is_same_outcome outcome Modified && list_any (λ x. awaits_in l.fn.self x.number n) (take l.link-index l.ended)))
    × (AreMirrored l.fn.self → AreMirrored l.self)
    × (l.self.let_go.items ≡ l.fn.self.let_go.items)
