-- Words that are to be numbers.
use Rattle.std.proofs.Common.{◌≡◌, ◌∙◌, ◌⊎◌, inl, inr, ap, sym, subst, ℕ, ◌<◌, ◌≤◌, ◌^◌, Bool, true, false, refl, arith, List, [], ◌∷◌, Option, Some, None, Result, Ok, Err}
use Rattle.std.proofs.lemmas.Int.{ints}
use Rattle.std.specs.Prelude.{pos, ◌≤ℤ◌, FitsSigned}
use Rattle.std.specs.Int.{w64}
use Rattle.std.specs.Str.Parse.{IsNumeral, ParsesUnsigned, digits_value, signed_digits_value, starts_with_minus, without_leading_plus, without_leading_sign}
use Rattle.clap.specs.Kinds.{or_else, values_kinds}
use Rattle.clap.specs.Matches.{ReadsOne}
use Rattle.clap.specs.Values.{IsSignedIn}
use Rattle.clap.specs.ValueTests.{accepts}
use Rattle.clap.specs.declared.builder.value_parser.ValueParser.TheVariants.{Signed}
use Rattle.clap.specs.declared.error.kind.ErrorKind.TheVariants.{ValueValidation}
use Rattle.clap.proofs.KindLemmas.{value_kinds-ok, value_kinds-refused}
use Rattle.clap.proofs.ValueTestLemmas.{Accepts-accepts, accepts-Accepts}
use Rattle.program_ends.specs.Words.{is_option}
use Rattle.router_words.specs.Asking.{Spells, SpellsWithin}

-- a word that is no option has no minus
minus-plain : (word : List ℕ) → is_option word ≡ false → starts_with_minus word ≡ false
minus-plain [] plain = refl
minus-plain (octet ∷ octets) plain = plain

unsigned : (word : List ℕ) → is_option word ≡ false → without_leading_sign word ≡ without_leading_plus word
unsigned word plain = rw (minus-plain word plain) refl

signed_value : (word : List ℕ) → is_option word ≡ false → signed_digits_value 10 word ≡ pos (digits_value 10 (without_leading_plus word))
signed_value word plain = rw (minus-plain word plain) refl

-- the parser takes a number in the range
is_signed_in : (least most : ℕ) (word : List ℕ) → is_option word ≡ false → most < 2 ^ 63 → SpellsWithin least most word → IsSignedIn (pos least) (pos most) word
is_signed_in least most word plain small s =
    let value : signed_digits_value 10 word ≡ pos s.number = signed_value word plain ∙ ap pos s.spelled.1 in
    let numeral : IsNumeral 10 (without_leading_sign word) = subst (IsNumeral 10) (sym (unsigned word plain)) s.spelled.0 in
    let fits : FitsSigned w64 (pos s.number) = omega (arith, ints) in
    let from : pos least ≤ℤ pos s.number = omega (arith, ints) in
    let up_to : pos s.number ≤ℤ pos most = omega (arith, ints) in
    (numeral, subst (FitsSigned w64) (sym value) fits, subst (λ z. pos least ≤ℤ z) (sym value) from, subst (λ z. z ≤ℤ pos most) (sym value) up_to)

-- and takes no other word
is_within : (least most : ℕ) (word : List ℕ) → is_option word ≡ false → IsSignedIn (pos least) (pos most) word → SpellsWithin least most word
is_within least most word plain passed =
    let value = signed_value word plain in
    let from : pos least ≤ℤ pos (digits_value 10 (without_leading_plus word)) = subst (λ z. pos least ≤ℤ z) value passed.2 in
    let up_to : pos (digits_value 10 (without_leading_plus word)) ≤ℤ pos most = subst (λ z. z ≤ℤ pos most) value passed.3 in
    record {
      number = digits_value 10 (without_leading_plus word);
      spelled = (subst (IsNumeral 10) (unsigned word plain) passed.0, refl);
      from = omega (arith, ints);
      up_to = omega (arith, ints);
    }

-- a word is a number in the range, and is then no mistake, or it is one
pub number_cases : (least most : ℕ) (word : List ℕ) → is_option word ≡ false → most < 2 ^ 63
    → ((values_kinds false (Signed (pos least) (pos most)) (word ∷ []) ≡ []) × SpellsWithin least most word)
    ⊎ ((values_kinds false (Signed (pos least) (pos most)) (word ∷ []) ≡ ValueValidation ∷ []) × ¬ (SpellsWithin least most word))
number_cases least most word plain small = go (accepts false (Signed (pos least) (pos most)) word) refl
  where
    go : (b : Bool) → accepts false (Signed (pos least) (pos most)) word ≡ b
        → ((values_kinds false (Signed (pos least) (pos most)) (word ∷ []) ≡ []) × SpellsWithin least most word)
        ⊎ ((values_kinds false (Signed (pos least) (pos most)) (word ∷ []) ≡ ValueValidation ∷ []) × ¬ (SpellsWithin least most word))
    go true e =
        let taken = accepts-Accepts false (Signed (pos least) (pos most)) word e in
        inl (ap (λ k. or_else k []) (value_kinds-ok false (Signed (pos least) (pos most)) word taken), is_within least most word plain taken)
    go false e =
        let refused : IsSignedIn (pos least) (pos most) word → ⊥ =
        λ taken. let clash : true ≡ false = sym (Accepts-accepts false (Signed (pos least) (pos most)) word taken) ∙ e in cc in
        inr (ap (λ k. or_else k []) (value_kinds-refused false (Signed (pos least) (pos most)) word refused), λ s. refused (is_signed_in least most word plain small s))

-- what a number's word is read as
pub read_number : (E : Type 0) (G : List ℕ → Result ℕ E → Type 0) (k least most : ℕ) (word : List ℕ) (read : Option ℕ)
    → ((u : List ℕ) (x : Result ℕ E) → G u x → ParsesUnsigned k 10 u x) → most < 2 ^ k → SpellsWithin least most word → ReadsOne G word read
    → (n : ℕ) × (read ≡ Some n) × Spells word n × (least ≤ n) × (n ≤ most)
read_number E G k least most word (Some n) only fits s got =
    let parsed = only word (Ok n) got in
    let same : n ≡ s.number = parsed.1 ∙ s.spelled.1 in
    (n, refl, (parsed.0.0, sym parsed.1), omega arith, omega arith)
read_number E G k least most word None only fits s got =
    let small : digits_value 10 (without_leading_plus word) < 2 ^ k = omega arith in
    absurd (only word (Err got.0) got.1 (s.spelled.0, small))
