-- Why the system did not give the words.
use Rattle.std.specs.Prelude.{◌≡◌, ◌↔◌}
use Rattle.std.specs.declared.io.Error.{Error}
use Rattle.program_ends.specs.declared.unread.UnreadWords.{UnreadWords}
use Rattle.program_ends.specs.declared.unread.UnreadWords.TheVariants.{NoMemory}
use Rattle.program_ends.specs.Growth.{IsRefusedGrowth}

-- it is want of memory just where a growth was refused (own rule)
abbrev pub IsCauseOf : Error → UnreadWords → Type 0
IsCauseOf error cause = (cause ≡ NoMemory) ↔ IsRefusedGrowth error
