-- The words that a program is given.
use Rattle.std.specs.Prelude.{◌==◌, ℕ, Bool, false, List, [], ◌∷◌}

-- the word begins with a hyphen (45), as an option does (own format)
abbrev pub is_option : List ℕ → Bool
is_option [] = false
is_option (octet ∷ octets) = octet == 45
