-- How the reading of a capture ended, and what tells it.
use Rattle.std.specs.Prelude.{ℕ, List, [], ◌++◌, codes, decimal}
use Rattle.capture_form.specs.declared.fault.FormFault.{FormFault}
use Rattle.capture_form.specs.declared.fault.FormKind.{FormKind}
use Rattle.capture_form.specs.declared.fault.FormKind.TheVariants as kinds
use Rattle.capture_words.specs.declared.ending.Ending.{Ending}
use Rattle.capture_words.specs.declared.ending.Ending.TheVariants.{Whole, Malformed, NoMemory, Unreadable}

-- the line of a fault, without its newline (own format)
abbrev pub line_of : Ending → List ℕ
line_of Whole = []
line_of (Malformed offset) = codes "malformed offset=" ++ decimal offset
line_of NoMemory = codes "no memory"
line_of (Unreadable offset) = codes "unreadable offset=" ++ decimal offset

-- the exit status (own format)
abbrev pub status_of : Ending → ℕ
status_of Whole = 0
status_of (Malformed offset) = 2
status_of NoMemory = 3
status_of (Unreadable offset) = 4

-- how it ends where this stops the reading at an offset
abbrev pub ending_at : FormKind → ℕ → Ending
ending_at kinds.Magic offset = Malformed offset
ending_at kinds.Rules offset = Malformed offset
ending_at kinds.Kind offset = Malformed offset
ending_at kinds.Note offset = Malformed offset
ending_at kinds.Length offset = Malformed offset
ending_at kinds.Truncated offset = Malformed offset
ending_at kinds.Memory offset = NoMemory
ending_at kinds.Read offset = Unreadable offset

abbrev pub ending_of : FormFault → Ending
ending_of fault = ending_at fault.kind fault.offset
