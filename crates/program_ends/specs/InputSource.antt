-- Where a program reads from.
use Rattle.std.specs.Prelude.{ℕ, List, [], ◌∷◌, Option, Some, None, if◌then◌else◌}
use Rattle.std.specs.Str.{bytes_eq}
use Rattle.program_ends.specs.declared.input_source.InputSource.{InputSource}
use Rattle.program_ends.specs.declared.input_source.InputSource.TheVariants.{StandardInput, File}

-- the file that is read; none is standard input (own format)
abbrev pub path_of : InputSource → Option (List ℕ)
path_of StandardInput = None
path_of (File path) = Some path.now

-- the file that a word names; a hyphen (45) alone names standard input (own format)
abbrev pub path_asked : Option (List ℕ) → Option (List ℕ)
path_asked None = None
path_asked (Some word) = if bytes_eq word (45 ∷ []) then None else Some word
