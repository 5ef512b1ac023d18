-- What a word that is no option names.
use Rattle.std.proofs.Common.{◌≡◌, ℕ, List, [], ◌∷◌, Some, false, refl}
use Rattle.program_ends.specs.InputSource.{path_asked}
use Rattle.program_ends.specs.Words.{is_option}

-- a word that is no option is no hyphen alone
pub asked-plain : (word : List ℕ) → is_option word ≡ false → path_asked (Some word) ≡ Some word
asked-plain [] plain = refl
asked-plain (octet ∷ octets) plain = rw plain refl
