-- The line and the exit status that tell how a program ended.
use Rattle.std.specs.Prelude.{◌≡◌, ℕ, Bool, true, false, List, [], ◌∷◌, ◌++◌, Option, codes}
use Rattle.std.specs.Io.KnownBytes.{Appends}
use Rattle.clap.specs.declared.error.kind.ErrorKind.{ErrorKind}
use Rattle.clap.specs.declared.error.kind.ErrorKind.TheVariants.{DisplayHelp, DisplayVersion, OutOfMemory}

-- what standard output is known to hold gained the line and a newline (10), and the status is the line's (own format)
pub record TellsLine (line : List ℕ) (line_status : ℕ) (before after : Option (List ℕ)) (status : ℕ) : Type 0 where
  pub text : Appends before after (line ++ 10 ∷ [])
  pub same_status : status ≡ line_status

-- so is told that memory was refused (own format)
abbrev pub TellsNoMemory : Option (List ℕ) → Option (List ℕ) → ℕ → Type 0
TellsNoMemory before after status = TellsLine (codes "no memory") 3 before after status

-- the parser's reason to refuse words is a mistake in them: neither want of memory nor that they ask for a text (own rule)
abbrev pub is_mistake : ErrorKind → Bool
is_mistake OutOfMemory = false
is_mistake DisplayHelp = false
is_mistake DisplayVersion = false
is_mistake _ = true
