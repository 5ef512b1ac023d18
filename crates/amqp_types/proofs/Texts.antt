-- What may stand in a binary, a string or a symbol.
use Rattle.std.proofs.Common.{◌≡◌, ℕ, zero, suc, ◌<◌, Bool, true, false, ltb, List, [], ◌∷◌, get_or, refl, arith}
use Rattle.std.specs.Prelude.{nat_lt}
use Rattle.std.specs.List.{list_all}
use Rattle.std.proofs.lemmas.Bool.{ltb-true, lt-ltb}
use Rattle.std.proofs.lemmas.Str.{IsUtf8-from_is_utf8, is_utf8-from_IsUtf8}
use Rattle.amqp_types.specs.declared.code.Text.{Text}
use Rattle.amqp_types.specs.declared.code.Text.TheVariants as texts
use Rattle.amqp_types.specs.Reading.{is_text}
use Rattle.amqp_types.specs.Grammar.{IsText}
use Rattle.amqp_types.proofs.Steps.{both}

abbrev is_ascii : List ℕ → Bool
is_ascii octets = list_all (λ b. nat_lt b 128) octets

ascii_found : (octets : List ℕ) → is_ascii octets ≡ true → (i : ℕ) → get_or octets i 0 < 128
ascii_found [] e i = omega arith
ascii_found (b ∷ octets) e zero = ltb-true _ _ (both (ltb b 128) (is_ascii octets) e).0
ascii_found (b ∷ octets) e (suc i) = ascii_found octets (both (ltb b 128) (is_ascii octets) e).1 i

ascii_again : (octets : List ℕ) → ((i : ℕ) → get_or octets i 0 < 128) → is_ascii octets ≡ true
ascii_again [] h = refl
ascii_again (b ∷ octets) h = rw (lt-ltb b 128 (h 0)) (ascii_again octets (λ i. h (suc i)))

pub text_found : (text : Text) (octets : List ℕ) → is_text text octets ≡ true → IsText text octets
unfolding is_text
text_found texts.Binary octets e = tt
text_found texts.Str octets e = IsUtf8-from_is_utf8 octets e
text_found texts.Symbol octets e = ascii_found octets e

pub text_again : (text : Text) (octets : List ℕ) → IsText text octets → is_text text octets ≡ true
unfolding is_text
text_again texts.Binary octets h = refl
text_again texts.Str octets h = is_utf8-from_IsUtf8 octets h
text_again texts.Symbol octets h = ascii_again octets h

is_false : (b : Bool) → ¬ (b ≡ true) → b ≡ false
is_false true h = absurd (h refl)
is_false false h = refl

pub text_refused : (text : Text) (octets : List ℕ) → ¬ (IsText text octets) → is_text text octets ≡ false
text_refused text octets h = is_false (is_text text octets) (λ e. h (text_found text octets e))
