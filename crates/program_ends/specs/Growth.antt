-- What of the system's faults is refused memory.
use Rattle.std.specs.Prelude.{◌≡◌, None}
use Rattle.std.specs.IoError.{error_kind, raw_os_error}
use Rattle.std.specs.declared.io.Error.{Error}
use Rattle.std.specs.declared.io.ErrorKind.TheVariants.{OutOfMemory}

-- an error of the program's own, for memory: one of the system has a number (own rule)
abbrev pub IsRefusedGrowth : Error → Type 0
IsRefusedGrowth error = (error_kind error ≡ OutOfMemory) × (raw_os_error error ≡ None)
