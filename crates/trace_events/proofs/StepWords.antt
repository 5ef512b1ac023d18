-- Tests that fail, and values that aren't there, in the places where steps meet them.
use Rattle.std.proofs.Common.{◌≡◌, refl, sym, ap, ◌∙◌, ℕ, suc, ◌+◌, Bool, true, false, ◌&&◌, ◌||◌, List, [], ◌∷◌, Option, Some, None, filter, find, cond, arith, if◌then◌else◌}
use Rattle.std.specs.List.{list_any, count_by}
use Rattle.std.proofs.lemmas.List.Sums.{sum_by-cons}
use Rattle.trace_events.specs.Words.{or_else}

pub and-false : (b : Bool) → b && false ≡ false
and-false true = refl
and-false false = refl

pub or-false : (b : Bool) → b || false ≡ b
or-false true = refl
or-false false = refl

pub or-true : (b : Bool) → b || true ≡ true
or-true true = refl
or-true false = refl

pub if-none : {A : Type 0} (b : Bool) → ◌≡◌ {A = Option A} (if b then None else None) None
if-none true = refl
if-none false = refl

pub or_else-none : {A : Type 0} (o : Option A) → or_else o None ≡ o
or_else-none None = refl
or_else-none (Some x) = refl

-- tests that say the same, or that are of two parts
pub filter-by : {A : Type 0} (p q : A → Bool) → ((x : A) → p x ≡ q x) → (xs : List A) → filter p xs ≡ filter q xs
filter-by p q same [] = refl
filter-by p q same (x ∷ xs) = ap (λ b. if b then x ∷ filter p xs else filter p xs) (same x) ∙ ap (λ rest. if q x then x ∷ rest else rest) (filter-by p q same xs)

pub filter-both : {A : Type 0} (p q r : A → Bool) → ((x : A) → p x ≡ q x && r x) → (xs : List A) → filter p xs ≡ filter r (filter q xs)
filter-both p q r both [] = refl
filter-both p q r both (x ∷ xs) =
    ap (λ b. if b then x ∷ filter p xs else filter p xs) (both x) ∙ (ap (λ rest. if q x && r x then x ∷ rest else rest) (filter-both p q r both xs) ∙ by (q x) refl)
  where
    by : (b : Bool) → q x ≡ b → (if b && r x then x ∷ filter r (filter q xs) else filter r (filter q xs)) ≡ filter r (if b then x ∷ filter q xs else filter q xs)
    by true is = refl
    by false is = refl

pub any-by : {A : Type 0} (p q : A → Bool) → ((x : A) → p x ≡ q x) → (xs : List A) → list_any p xs ≡ list_any q xs
any-by p q same [] = refl
any-by p q same (x ∷ xs) = ap (λ b. b || list_any p xs) (same x) ∙ ap (λ rest. q x || rest) (any-by p q same xs)

pub find-by : {A : Type 0} (p q : A → Bool) → ((x : A) → p x ≡ q x) → (xs : List A) → find p xs ≡ find q xs
find-by p q same [] = refl
find-by p q same (x ∷ xs) = ap (λ b. if b then Some x else find p xs) (same x) ∙ ap (λ rest. if q x then Some x else rest) (find-by p q same xs)

-- counting one more
one-more : (n : ℕ) → 1 + n ≡ suc n
one-more n = omega arith

none-more : (n : ℕ) → 0 + n ≡ n
none-more n = omega arith

pub count-passes : {A : Type 0} (p : A → Bool) (x : A) (xs : List A) → p x ≡ true → count_by p (x ∷ xs) ≡ suc (count_by p xs)
count-passes p x xs is = sum_by-cons (λ y. cond (p y) 1 0) x xs ∙ (ap (λ b. cond b 1 0 + count_by p xs) is ∙ one-more (count_by p xs))

pub count-fails : {A : Type 0} (p : A → Bool) (x : A) (xs : List A) → p x ≡ false → count_by p (x ∷ xs) ≡ count_by p xs
count-fails p x xs is = sum_by-cons (λ y. cond (p y) 1 0) x xs ∙ (ap (λ b. cond b 1 0 + count_by p xs) is ∙ none-more (count_by p xs))

pub count-by : {A : Type 0} (p q : A → Bool) → ((x : A) → p x ≡ q x) → (xs : List A) → count_by p xs ≡ count_by q xs
count-by p q same [] = refl
count-by p q same (x ∷ xs) =
    sum_by-cons (λ y. cond (p y) 1 0) x xs
    ∙ (ap (λ b. cond b 1 0 + count_by p xs) (same x) ∙ (ap (λ rest. cond (q x) 1 0 + rest) (count-by p q same xs) ∙ sym (sum_by-cons (λ y. cond (q y) 1 0) x xs)))
