-- Octets that are a number in decimal digits, from the last one on.
use Rattle.std.proofs.Common.{◌≡◌, refl, sym, ap, ◌∙◌, ℕ, ◌+◌, ◌/◌, ◌%◌, ◌<◌, ◌≤◌, ◌^◌, List, [], ◌∷◌, ◌++◌, length, Bool, true, false, nat_lt, arith}
use Rattle.std.specs.Prelude.{decimal, bytes_eq, ◌&&◌, ◌==◌}
use Rattle.std.proofs.Math.Bool.{and-true, and-false}
use Rattle.std.proofs.Math.Nat.{mod-eq_of_lt}
use Rattle.std.proofs.lemmas.Fmt.{decimal_step, decimal_digit, decimal_nonempty}
use Rattle.std.proofs.lemmas.Bool.{eq-eqb, ne_eqb, ltb-true, ltb-false}

-- the last octets are compared, and those before them
pub bytes_eq-last : (xs ys : List ℕ) (a b : ℕ) → bytes_eq (xs ++ a ∷ []) (ys ++ b ∷ []) ≡ bytes_eq xs ys && (a == b)
bytes_eq-last [] [] a b = and-true (a == b)
bytes_eq-last [] (y ∷ []) a b = and-false (a == y)
bytes_eq-last [] (y ∷ z ∷ ys) a b = and-false (a == y)
bytes_eq-last (x ∷ []) [] a b = and-false (x == b)
bytes_eq-last (x ∷ z ∷ xs) [] a b = and-false (x == b)
bytes_eq-last (x ∷ xs) (y ∷ ys) a b = at (x == y) (bytes_eq (xs ++ a ∷ []) (ys ++ b ∷ [])) (bytes_eq xs ys) (a == b) (bytes_eq-last xs ys a b)
  where
    at : (t p q r : Bool) → p ≡ q && r → t && p ≡ (t && q) && r
    at true p q r e = e
    at false p q r e = refl

bytes_eq-none : (xs : List ℕ) → bytes_eq xs [] ≡ (length xs == 0)
bytes_eq-none [] = refl
bytes_eq-none (x ∷ xs) = sym (ne_eqb (length (x ∷ xs)) 0 (λ e. omega (arith, e)))

digit : (n : ℕ) → n < 10 → decimal n ≡ (48 + n % 10) ∷ []
digit n lt = decimal_digit n lt ∙ ap (λ m. (48 + m) ∷ []) (sym (mod-eq_of_lt lt))

module _ (octets front : List ℕ) (last n : ℕ) (small : n < 2 ^ 64) (split : octets ≡ front ++ last ∷ []) where
  -- compared with digits that end so
  ends : (digits : List ℕ) → decimal n ≡ digits ++ (48 + n % 10) ∷ [] → bytes_eq octets (decimal n) ≡ bytes_eq front digits && (last == 48 + n % 10)
  ends digits e = rw (split, e) (bytes_eq-last front digits last (48 + n % 10))

  differs_by : (digits : List ℕ) → decimal n ≡ digits ++ (48 + n % 10) ∷ [] → (last ≡ 48 + n % 10 → ⊥) → bytes_eq octets (decimal n) ≡ false
  differs_by digits e ne = ends digits e ∙ ap (λ t. bytes_eq front digits && t) (ne_eqb last (48 + n % 10) ne) ∙ and-false (bytes_eq front digits)

  differs_at : (t : Bool) → nat_lt n 10 ≡ t → (last ≡ 48 + n % 10 → ⊥) → bytes_eq octets (decimal n) ≡ false
  differs_at true is ne = differs_by [] (digit n (ltb-true n 10 is)) ne
  differs_at false is ne = differs_by (decimal (n / 10)) (decimal_step n (ltb-false n 10 is) small) ne

  -- another last digit
  pub last_differs : (last ≡ 48 + n % 10 → ⊥) → bytes_eq octets (decimal n) ≡ false
  last_differs ne = differs_at (nat_lt n 10) refl ne

  agrees_by : (digits : List ℕ) → decimal n ≡ digits ++ (48 + n % 10) ∷ [] → last ≡ 48 + n % 10 → bytes_eq octets (decimal n) ≡ bytes_eq front digits
  agrees_by digits e is = ends digits e ∙ ap (λ t. bytes_eq front digits && t) (eq-eqb last (48 + n % 10) is) ∙ and-true (bytes_eq front digits)

  -- one digit
  pub last_alone : n < 10 → last ≡ 48 + n % 10 → bytes_eq octets (decimal n) ≡ (length front == 0)
  last_alone lt is = agrees_by [] (digit n lt) is ∙ bytes_eq-none front

  -- digits before it
  pub last_agrees : 10 ≤ n → last ≡ 48 + n % 10 → bytes_eq octets (decimal n) ≡ bytes_eq front (decimal (n / 10))
  last_agrees le is = agrees_by (decimal (n / 10)) (decimal_step n le small) is

-- no digit is no number
pub no_digit : (octets : List ℕ) (n : ℕ) → n < 2 ^ 64 → length octets ≡ 0 → bytes_eq octets (decimal n) ≡ false
no_digit [] n small is = none (decimal n) (decimal_nonempty n small)
  where
    none : (ds : List ℕ) → 0 < length ds → bytes_eq [] ds ≡ false
    none [] lt = absurd (omega (arith, lt))
    none (d ∷ ds) lt = refl
no_digit (o ∷ os) n small is = absurd (omega (arith, is))
