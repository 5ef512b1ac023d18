-- How a run ended whose router stopped.
use Rattle.std.specs.Prelude.{ℕ}
use Rattle.conn_engine.specs.declared.serving.Stop.TheVariants as stops
use Rattle.daemon_server.specs.declared.halt.Halt.{Halt}
use Rattle.daemon_server.specs.declared.halt.Halt.TheVariants as halts
use Rattle.daemon_program.specs.declared.fault.Fault.{Fault}
use Rattle.daemon_program.specs.declared.fault.Fault.TheVariants as faults
use Rattle.router_words.specs.declared.run_end.RunEnd.{RunEnd}
use Rattle.router_words.specs.declared.run_end.RunEnd.TheVariants.{CoreFailed, DeviceFault, NoMemory, NotWritten}

-- its server stopped so, when its writer had so many records (own rule)
abbrev pub outcome_of_halt : Halt → ℕ → RunEnd
outcome_of_halt halts.Memory records = NoMemory
outcome_of_halt (halts.Turn stops.Memory) records = NoMemory
outcome_of_halt (halts.Turn stops.Device) records = DeviceFault
outcome_of_halt (halts.Turn stops.Core) records = CoreFailed records
outcome_of_halt (halts.Core fault) records = CoreFailed records
outcome_of_halt (halts.NotWritten fault) records = NotWritten
outcome_of_halt halts.Stopped records = CoreFailed records

-- it stopped so (own rule)
abbrev pub outcome_after : Fault → ℕ → RunEnd
outcome_after (faults.Device error) records = DeviceFault
outcome_after (faults.Server halt) records = outcome_of_halt halt records
