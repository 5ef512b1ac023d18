-- What the parser meets in words that are no options.
use Rattle.std.proofs.Common.{◌≡◌, ℕ, List, [], ◌∷◌, None, false, refl, bytes_eq}
use Rattle.clap.specs.Lexer.{strip_byte, without_minus}
use Rattle.program_ends.specs.Words.{is_option}

-- there is no hyphen to strip
pub strip_byte-plain : (word : List ℕ) → is_option word ≡ false → strip_byte 45 word ≡ None
strip_byte-plain [] plain = refl
strip_byte-plain (octet ∷ octets) plain = rw plain refl

pub without_minus-plain : (word : List ℕ) → is_option word ≡ false → without_minus word ≡ word
without_minus-plain [] plain = refl
without_minus-plain (octet ∷ octets) plain = rw plain refl

-- the word is not `--`
pub dashes-plain : (word : List ℕ) → is_option word ≡ false → bytes_eq word (45 ∷ 45 ∷ []) ≡ false
dashes-plain [] plain = refl
dashes-plain (octet ∷ octets) plain = rw plain refl
