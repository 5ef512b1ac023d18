-- The numbers of the faults.
use Rattle.std.specs.Prelude.{ℕ}
use Rattle.amqp_perf.specs.declared.fault.PerfFault.{PerfFault}
use Rattle.amqp_perf.specs.declared.fault.PerfFault.TheVariants.{Value, NotPerformative, MissingField, WrongType, TooManyFields}

-- the number of a fault (own format)
abbrev pub number_of : PerfFault → ℕ
number_of (Value fault) = 1
number_of NotPerformative = 2
number_of (MissingField n) = 3
number_of (WrongType n) = 4
number_of TooManyFields = 5
