-- Why a run comes to no report.
use Rattle.std.specs.Prelude.{ℕ, List, [], ◌∷◌, Option, Some, None, Result, Ok, Err}
use Rattle.core_exchange.specs.Captures.{IsOfCore}
use Rattle.conn_engine.specs.declared.serving.Stop.{Stop}
use Rattle.conn_workers.specs.declared.report.RunFault.{RunFault}
use Rattle.conn_workers.specs.declared.report.RunFault.TheVariants.{Memory, Device, Mismatch, CoreFailed}

-- the number of each fault
abbrev pub fault_number : RunFault → ℕ
fault_number Memory = 1
fault_number Device = 2
fault_number Mismatch = 3
fault_number (CoreFailed capture) = 4

-- what a fault brings: where the core refused a step, its capture
abbrev pub Brings : RunFault → Type 0
Brings Memory = Unit {0}
Brings Device = Unit {0}
Brings Mismatch = Unit {0}
Brings (CoreFailed capture) = IsOfCore capture

-- of workers in the order of their numbers, why the first of those that stopped for a reason of their own did; one that was
-- called off has none
abbrev pub first_stop : {A : Type 0} → List (Result A Stop) → Option Stop
first_stop [] = None
first_stop (Ok served ∷ results) = first_stop results
first_stop (Err stop ∷ results) = Some stop
