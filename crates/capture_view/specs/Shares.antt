-- What one record adds to the numbers of a capture.
use Rattle.std.specs.Prelude.{ℕ, List, length}
use Rattle.amqp_perf.specs.Meaning.{Meaning, ATransfer}
use Rattle.capture_view.specs.Saying.{Saying, Says}
use Rattle.capture_view.specs.Viewed.{Happening, Opened, In, Out, Lost, Broken}

-- 1 for a transfer (part 2, 2.7.5)
abbrev pub a_transfer : Meaning → ℕ
a_transfer (ATransfer fields) = 1
a_transfer _ = 0

abbrev pub transfers : Saying → ℕ
transfers (Says channel meaning rest) = a_transfer meaning
transfers _ = 0

-- the octets of a payload, which stands behind a transfer alone
abbrev pub payload : Meaning → List ℕ → ℕ
payload (ATransfer fields) rest = length rest
payload _ rest = 0

abbrev pub octets : Saying → ℕ
octets (Says channel meaning rest) = payload meaning rest
octets _ = 0

-- 1 where this happened
abbrev pub opened : Happening → ℕ
opened Opened = 1
opened _ = 0

abbrev pub inputs : Happening → ℕ
inputs (In said) = 1
inputs _ = 0

abbrev pub outputs : Happening → ℕ
outputs (Out said) = 1
outputs _ = 0

abbrev pub lost : Happening → ℕ
lost Lost = 1
lost _ = 0

abbrev pub broken : Happening → ℕ
broken Broken = 1
broken _ = 0

-- of a frame that a client sent
abbrev pub of_input : (Saying → ℕ) → Happening → ℕ
of_input f (In said) = f said
of_input f _ = 0

-- of a frame that was written
abbrev pub of_output : (Saying → ℕ) → Happening → ℕ
of_output f (Out said) = f said
of_output f _ = 0
