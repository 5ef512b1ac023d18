-- The numbers of a group come in one after the other.
use Rattle.std.proofs.Common.{◌≡◌, refl, sym, ap, ◌∙◌, ◌<◌, ◌≤◌, ◌+◌, ℕ, Bool, true, false, ◌||◌, List, [], ◌∷◌, length, map, take, get_or, Option, nat_eq, ◌==◌, eqb-true, eq-eqb}
use Rattle.std.specs.List.{list_any, slice_get}
use Rattle.std.proofs.lemmas.List.{take_all}
use Rattle.std.proofs.lemmas.List.Folds.{list_any_at, list_any_more}
use Rattle.std.proofs.lemmas.Option.{slice_get-get_or}
use Rattle.trace_events.specs.Words.{is_number}

or_assoc : (a b c : Bool) → (a || b) || c ≡ a || (b || c)
or_assoc true b c = refl
or_assoc false b c = refl

or_false : (a : Bool) → a ≡ a || false
or_false true = refl
or_false false = refl

pub swapped : (m n : ℕ) → nat_eq m n ≡ (n == m)
swapped m n = by (nat_eq m n) refl (n == m) refl
  where
    by : (a : Bool) → nat_eq m n ≡ a → (b : Bool) → (n == m) ≡ b → nat_eq m n ≡ (n == m)
    by true is b other = is ∙ sym (eq-eqb n m (sym (eqb-true m n is)))
    by false is false other = is ∙ sym other
    by false is true other = let never : true ≡ false = sym (eq-eqb m n (sym (eqb-true n m other))) ∙ is in absurd cc

pub none-yet : (xs : List ℕ) (n : ℕ) (first : Bool) → first ≡ first || list_any (nat_eq n) (take 0 xs)
none-yet xs n first = or_false first

-- and so do those that stand beside each element of a list
pub nothing-yet : {A : Type 0} (p : A → Bool) (xs : List A) (first : Bool) → first ≡ first || list_any p (take 0 xs)
nothing-yet p xs first = or_false first

pub each-more : {A : Type 0} (p : A → Bool) (xs : List A) (i : ℕ) (d : A) (first now next : Bool) → i < length xs → now ≡ first || list_any p (take i xs) → next ≡ now || p (get_or xs i d)
    → next ≡ first || list_any p (take (i + 1) xs)
each-more p xs i d first now next lt was added =
    added ∙ (ap (λ b. b || p (get_or xs i d)) was ∙ (or_assoc first (list_any p (take i xs)) (p (get_or xs i d)) ∙ ap (λ b. first || b) (sym (list_any_more p xs i d lt))))

pub each-in : {A : Type 0} (p : A → Bool) (xs : List A) (i : ℕ) (first now : Bool) → length xs ≤ i → now ≡ first || list_any p (take i xs) → now ≡ first || list_any p xs
each-in p xs i first now le was = was ∙ ap (λ ys. first || list_any p ys) (take_all i xs le)

-- an element of which it holds is one of the list's
pub some-of : {A : Type 0} (p : A → Bool) (xs : List A) (i : ℕ) (d : A) → i < length xs → p (get_or xs i d) ≡ true → list_any p xs ≡ true
some-of p xs i d below is = list_any_at p xs i d below is

pub any-map : {A B : Type 0} (f : A → B) (p : B → Bool) (xs : List A) → list_any (λ x. p (f x)) xs ≡ list_any p (map f xs)
any-map f p [] = refl
any-map f p (x ∷ xs) = ap (λ b. p (f x) || b) (any-map f p xs)

pub one-more : (xs : List ℕ) (i n : ℕ) (first now next : Bool) → i < length xs → now ≡ first || list_any (nat_eq n) (take i xs) → (o : Option ℕ) → o ≡ slice_get xs i
    → next ≡ now || is_number o n → next ≡ first || list_any (nat_eq n) (take (i + 1) xs)
one-more xs i n first now next lt was o at added =
    let x = get_or xs i 0 in
    let got : is_number o n ≡ nat_eq n x = ap (λ p. is_number p n) (at ∙ slice_get-get_or xs i 0 lt) ∙ sym (swapped n x) in
    added ∙ (ap (λ b. b || is_number o n) was ∙ (ap (λ b. (first || list_any (nat_eq n) (take i xs)) || b) got
    ∙ (or_assoc first (list_any (nat_eq n) (take i xs)) (nat_eq n x) ∙ ap (λ b. first || b) (sym (list_any_more (nat_eq n) xs i 0 lt)))))

pub all-in : (xs : List ℕ) (i n : ℕ) (first now : Bool) → length xs ≤ i → now ≡ first || list_any (nat_eq n) (take i xs) → now ≡ first || list_any (nat_eq n) xs
all-in xs i n first now le was = was ∙ ap (λ ys. first || list_any (nat_eq n) ys) (take_all i xs le)

-- a group with a number at an index has one
pub some-in : (xs : List ℕ) (i : ℕ) → i < length xs → (n : ℕ) × (list_any (nat_eq n) xs ≡ true)
some-in xs i below = let n = get_or xs i 0 in (n, list_any_at (nat_eq n) xs i 0 below (eq-eqb n n refl))

-- five sets of numbers, one after the other
pub five-in : (none one two three four five p q r s t p' r' s' t' : Bool) → none ≡ false → one ≡ none || p → two ≡ one || q → three ≡ two || r → four ≡ three || s → five ≡ four || t
    → p ≡ p' → r ≡ r' → s ≡ s' → t ≡ t' → five ≡ p' || q || r' || s' || t'
five-in none one two three four five p q r s t p' r' s' t' a b c d e f g h i k = rw (f, e, d, c, b, a, g, h, i, k) refl
