-- Whose reason is told where workers stop.
use Rattle.std.proofs.Common.{◌≡◌, ℕ, [], ◌∷◌, Option, Some, None, Ok, Err, refl}
use Rattle.conn_engine.specs.declared.serving.Stop.{Stop}
use Rattle.conn_engine.specs.declared.serving.Stop.TheVariants as stops
use Rattle.conn_workers.specs.Faults.{first_stop}

none_stopped : first_stop {A = ℕ} (Ok 1 ∷ Ok 2 ∷ []) ≡ None
none_stopped = refl

-- a worker that was called off comes before the one that did so, and has no reason of its own
behind_one_called_off : first_stop {A = ℕ} (Ok 1 ∷ Err stops.Core ∷ []) ≡ Some stops.Core
behind_one_called_off = refl

-- of two reasons the first one's is told
first_of_two : first_stop {A = ℕ} (Err stops.Core ∷ Err stops.Memory ∷ []) ≡ Some stops.Core
first_of_two = refl

not_the_last : first_stop {A = ℕ} (Err stops.Core ∷ Err stops.Memory ∷ []) ≡ Some stops.Memory → ⊥
not_the_last e = let never : ◌≡◌ {A = Option Stop} (Some stops.Core) (Some stops.Memory) = e in cc
