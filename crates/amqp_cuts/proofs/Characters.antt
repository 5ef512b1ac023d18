-- Text that lies in parts.
use Rattle.std.proofs.Common.{◌≡◌, refl, sym, ap, subst, ◌∙◌, ℕ, ◌+◌, ◌-◌, ◌≤◌, ◌<◌, Bool, true, false, ◌&&◌, List, [], ◌∷◌, ◌++◌, append_assoc, length, min, take, arith}
use Rattle.std.specs.Prelude.{nat_lt}
use Rattle.std.specs.List.{list_all}
use Rattle.std.specs.Str.{is_utf8, IsUtf8}
use Rattle.std.proofs.lemmas.List.{take_at, length-append}
use Rattle.std.proofs.lemmas.Str.{IsUtf8-append, IsUtf8-from_is_utf8, is_utf8-from_IsUtf8, IsUtf8-encode, IsUtf8-nil, IsUtf8-past_char, length-encode, len_utf8_bounds}
use Rattle.std.specs.Str.{IsAscii, IsNotAscii}
use Rattle.std.proofs.lemmas.List.Folds.{list_all-append}
use lib.Utf8.{scalar, scalars, encode, encodes}
use Rattle.amqp_types.specs.declared.code.Text.TheVariants as texts
use Rattle.amqp_types.specs.Reading.{is_text}
use Rattle.amqp_types.proofs.Steps.{both}
use Rattle.amqp_types.proofs.Texts.{text_again, text_refused}
use Rattle.amqp_cuts.proofs.Tests.{refused}
use Rattle.amqp_cuts.specs.Offsets.{window}
use Rattle.amqp_cuts.proofs.Windows.{window_len, window_take, window_split, window_empty}

-- tests that follow from each other
same_test : (a b : Bool) → (a ≡ true → b ≡ true) → (b ≡ true → a ≡ true) → a ≡ b
same_test true b f g = sym (f refl)
same_test false true f g = g refl
same_test false false f g = refl

characters_past : (cs ys : List ℕ) → IsUtf8 (encodes cs ++ ys) → IsUtf8 ys
characters_past [] ys is = is
characters_past (c ∷ cs) ys is =
    characters_past cs ys (IsUtf8-past_char (encodes (c ∷ cs) ++ ys) (encodes cs ++ ys) c is (append_assoc (encode c) (encodes cs) ys))

utf8_rest : (xs ys : List ℕ) → IsUtf8 xs → IsUtf8 (xs ++ ys) → IsUtf8 ys
utf8_rest xs ys front whole = characters_past front.0 ys (subst (λ (t : List ℕ). IsUtf8 (t ++ ys)) (sym front.1.1) whole)

-- behind some characters text goes on
pub utf8_behind : (octets : List ℕ) (at mid to : ℕ) → at ≤ mid → mid ≤ to → IsUtf8 (window octets at mid) → is_utf8 (window octets at to) ≡ is_utf8 (window octets mid to)
utf8_behind octets at mid to ge le front =
    let split = window_split octets at mid to ge le in
    ap is_utf8 split
    ∙ same_test (is_utf8 (window octets at mid ++ window octets mid to)) (is_utf8 (window octets mid to))
    (λ t. is_utf8-from_IsUtf8 (window octets mid to) (utf8_rest (window octets at mid) (window octets mid to) front (IsUtf8-from_is_utf8 (window octets at mid ++ window octets mid to) t)))
    (λ t. is_utf8-from_IsUtf8 (window octets at mid ++ window octets mid to) (IsUtf8-append (window octets at mid) (window octets mid to) front (IsUtf8-from_is_utf8 (window octets mid to) t)))

-- text begins with a character of at most four octets
first_character : (bs cs : List ℕ) → 0 < length bs → scalars cs ≡ true → encodes cs ≡ bs → (k : ℕ) × (0 < k) × (k ≤ 4) × (k ≤ length bs) × IsUtf8 (take k bs)
first_character bs [] some scalar_all is = absurd (omega (arith, some, ap length is))
first_character bs (c ∷ cs) some scalar_all is =
    let one = both (scalar c) (scalars cs) scalar_all in
    let bounds = len_utf8_bounds c in
    let len = length-encode c in
    let front : take (length (encode c)) bs ≡ encode c = ap (take (length (encode c))) (sym is) ∙ take_at (encode c) (encodes cs) (length (encode c)) refl in (
      length (encode c),
      omega (arith, bounds.0, len),
      omega (arith, bounds.1, len),
      omega (arith, ap length is, length-append (encode c) (encodes cs)),
      subst IsUtf8 (sym front) (IsUtf8-encode c one.0),
    )

-- octets that no front of up to four is text of are none
pub no_character : (bs : List ℕ) → 0 < length bs → ((k : ℕ) → 0 < k → k ≤ 4 → k ≤ length bs → IsUtf8 (take k bs) → ⊥) → is_utf8 bs ≡ false
no_character bs some none =
    refused (is_utf8 bs) (λ t.
    let is = IsUtf8-from_is_utf8 bs t in
    let first = first_character bs is.0 some is.1.0 is.1.1 in
    none first.0 first.1 first.2 first.3 first.4)

abbrev is_low : ℕ → Bool
is_low b = nat_lt b 128

pub all_low : (octets : List ℕ) → IsAscii octets → list_all (λ b. nat_lt b 128) octets ≡ true
unfolding is_text
all_low octets is = text_again texts.Symbol octets is

pub not_all_low : (octets : List ℕ) → IsNotAscii octets → list_all (λ b. nat_lt b 128) octets ≡ false
unfolding is_text
not_all_low octets is = text_refused texts.Symbol octets (λ low. omega (arith, is.1, low is.0))

-- behind some ASCII it goes on
pub ascii_behind : (octets : List ℕ) (at mid to : ℕ) → at ≤ mid → mid ≤ to → IsAscii (window octets at mid)
    → list_all (λ b. nat_lt b 128) (window octets at to) ≡ list_all (λ b. nat_lt b 128) (window octets mid to)
ascii_behind octets at mid to ge le front =
    ap (list_all is_low) (window_split octets at mid to ge le) ∙ list_all-append is_low (window octets at mid) (window octets mid to)
    ∙ ap (λ (b : Bool). b && list_all is_low (window octets mid to)) (all_low (window octets at mid) front)

-- behind anything else it does not
pub ascii_stops : (octets : List ℕ) (at mid to : ℕ) → at ≤ mid → mid ≤ to → IsNotAscii (window octets at mid) → list_all (λ b. nat_lt b 128) (window octets at to) ≡ false
ascii_stops octets at mid to ge le front =
    ap (list_all is_low) (window_split octets at mid to ge le) ∙ list_all-append is_low (window octets at mid) (window octets mid to)
    ∙ ap (λ (b : Bool). b && list_all is_low (window octets mid to)) (not_all_low (window octets at mid) front)

-- up to four octets, no front of which is text, stand where no character begins
pub across_none : (octets front : List ℕ) (at to count : ℕ) → at < to → to ≤ length octets → count ≡ min (to - at) 4
    → front ≡ window octets at (at + count) → ((k : ℕ) → 0 < k → k ≤ length front → IsUtf8 (take k front) → ⊥) → is_utf8 (window octets at to) ≡ false
across_none octets front at to count lt within few same none =
    let len = window_len octets at to within in
    let front_len : length front ≡ at + count - at = ap length same ∙ window_len octets at (at + count) (omega (arith, few, within, lt)) in
    no_character (window octets at to) (omega (arith, len, lt)) (λ k some le inside is.
    let fits : k ≤ count = omega (arith, le, inside, len, few) in
    let eq : take k (window octets at to) ≡ take k front =
    window_take octets at to k (omega (arith, inside, len)) ∙ sym (ap (take k) same ∙ window_take octets at (at + count) k (omega (arith, fits))) in
    none k some (omega (arith, fits, front_len)) (subst IsUtf8 eq is))

-- nothing left is text
pub utf8_done : (octets : List ℕ) (at to : ℕ) → to ≤ at → is_utf8 (window octets at to) ≡ true
utf8_done octets at to le = ap is_utf8 (window_empty octets at to le) ∙ is_utf8-from_IsUtf8 [] IsUtf8-nil
