-- An address that is no text has no consumers in a table whose keys are texts.
use Rattle.std.proofs.Common.{◌≡◌, refl, sym, subst, ◌∙◌, ℕ, Bool, true, false, cond, List, [], ◌∷◌, Some, None, string_bytes}
use Rattle.std.specs.Prelude.{String}
use Rattle.std.specs.Map.{lookup}
use Rattle.std.specs.Str.{IsUtf8, is_utf8, bytes_eq}
use Rattle.std.proofs.lemmas.Slice.Eq.{bytes_eq-Decides}
use Rattle.std.proofs.lemmas.Str.{is_utf8-from_IsUtf8, IsUtf8-from_is_utf8, IsUtf8-string_bytes}

pub is_text : (octets : List ℕ) → IsUtf8 octets → is_utf8 octets ≡ true
is_text octets h = is_utf8-from_IsUtf8 octets h

not_text_by : (octets : List ℕ) (b : Bool) → is_utf8 octets ≡ b → ¬ (IsUtf8 octets) → b ≡ false
not_text_by octets true e h = absurd (h (IsUtf8-from_is_utf8 octets e))
not_text_by octets false e h = refl

pub is_no_text : (octets : List ℕ) → ¬ (IsUtf8 octets) → is_utf8 octets ≡ false
is_no_text octets h = not_text_by octets (is_utf8 octets) refl h

pub ruleset utf8_tests = (is_text, is_no_text)

pub no-text : {Z X : Type 0} (octets : List ℕ) → is_utf8 octets ≡ false → (es : List (String Z × X)) → lookup (λ k. bytes_eq octets (string_bytes k)) es ≡ None
no-text octets none [] = refl
no-text octets none (e ∷ es) = by (bytes_eq octets (string_bytes e.0)) refl (no-text octets none es)
  where
    by : (b : Bool) → bytes_eq octets (string_bytes e.0) ≡ b → lookup (λ k. bytes_eq octets (string_bytes k)) es ≡ None → cond b (Some e.1) (lookup (λ k. bytes_eq octets (string_bytes k)) es) ≡ None
    by true is rest =
        let same = (bytes_eq-Decides octets (string_bytes e.0)).0 is in
        let never : true ≡ false = sym (is_text octets (subst IsUtf8 (sym same) (IsUtf8-string_bytes e.0))) ∙ none in
        absurd cc
    by false is rest = rest
