-- Deliveries by their numbers.
use Rattle.std.proofs.Common.{◌≡◌, refl, sym, ap, subst, ◌∙◌, ℕ, suc, Bool, true, false, ◌&&◌, ◌||◌, not, List, [], ◌∷◌, ◌++◌, length, map, filter, nat_eq, if◌then◌else◌, ◌==◌, inl, inr, arith, eqb-true, eq-eqb}
use Rattle.std.specs.Prelude.{Contains}
use Rattle.std.specs.List.{AllByRecursion, IsDistinct}
use Rattle.std.proofs.lemmas.Cmp.{nat_eq_equiv}
use Rattle.std.proofs.lemmas.List.{length-map}
use Rattle.std.proofs.lemmas.Map.Made.{length-from_same_keys}
use Rattle.number_groups.specs.Numbers.{is_among}
use Rattle.trace_events.specs.Event.{Incoming}
use Rattle.trace_events.proofs.CopiesCounted.{HaveOwnNumbers}
use Rattle.trace_events.proofs.WaitingQueue.{contains_first, contains_later, contains_cases, contains_none}
use Rattle.state_tables.specs.Copies.{has_delivery}

-- ---- of some that leave

pub and_false : (b : Bool) → b && false ≡ false
and_false true = refl
and_false false = refl

pub and_true : (b : Bool) → b && true ≡ b
and_true true = refl
and_true false = refl

pub or_false : (b : Bool) → b || false ≡ b
or_false true = refl
or_false false = refl

-- those whose numbers pass a test are gone
pub number-left : (gone : ℕ → Bool) (n : ℕ) (ds : List Incoming) → has_delivery n (filter (λ d. not (gone d.number)) ds) ≡ has_delivery n ds && not (gone n)
number-left gone n [] = refl
number-left gone n (d ∷ ds) = by (n == d.number) refl (gone d.number) refl (number-left gone n ds)
  where
    by : (same : Bool) → (n == d.number) ≡ same → (out : Bool) → gone d.number ≡ out → has_delivery n (filter (λ d. not (gone d.number)) ds) ≡ has_delivery n ds && not (gone n)
        → has_delivery n (if not out then d ∷ filter (λ d. not (gone d.number)) ds else filter (λ d. not (gone d.number)) ds) ≡ (same || has_delivery n ds) && not (gone n)
    by true is true out rest =
        let here : gone n ≡ true = ap gone (eqb-true n d.number is) ∙ out in
        rest ∙ (ap (λ b. has_delivery n ds && not b) here ∙ (and_false (has_delivery n ds) ∙ sym (ap not here)))
    by true is false out rest =
        let here : gone n ≡ false = ap gone (eqb-true n d.number is) ∙ out in
        ap (λ b. b || has_delivery n (filter (λ d. not (gone d.number)) ds)) is ∙ sym (ap not here)
    by false is true out rest = rest
    by false is false out rest = ap (λ b. b || has_delivery n (filter (λ d. not (gone d.number)) ds)) is ∙ rest

pub number-join : (n : ℕ) (xs ys : List Incoming) → has_delivery n (xs ++ ys) ≡ has_delivery n xs || has_delivery n ys
number-join n [] ys = refl
number-join n (x ∷ xs) ys = ap (λ b. (n == x.number) || b) (number-join n xs ys) ∙ by (n == x.number)
  where
    by : (b : Bool) → b || (has_delivery n xs || has_delivery n ys) ≡ (b || has_delivery n xs) || has_delivery n ys
    by true = refl
    by false = refl

-- ---- of one that is there

pub number-of : (ds : List Incoming) (d : Incoming) → Contains ds d → has_delivery d.number ds ≡ true
number-of [] d there = contains_none d there
number-of (x ∷ xs) d there = elim (contains_cases x xs d there) [
  | inl here ↦ ap (λ b. b || has_delivery d.number xs) (eq-eqb d.number x.number (ap (λ (y : Incoming). y.number) (sym here)))
  | inr later ↦ last (d.number == x.number) (has_delivery d.number xs) (number-of xs d later)
]
  where
    last : (a b : Bool) → b ≡ true → a || b ≡ true
    last true b is = refl
    last false b is = is

pub number-from : (n : ℕ) (ds : List Incoming) → has_delivery n ds ≡ true → (d : Incoming) × (Contains ds d × (n ≡ d.number))
number-from n [] is = absurd cc
number-from n (d ∷ ds) is = by (n == d.number) refl is (number-from n ds)
  where
    by : (b : Bool) → (n == d.number) ≡ b → b || has_delivery n ds ≡ true → (has_delivery n ds ≡ true → (d : Incoming) × (Contains ds d × (n ≡ d.number)))
        → (x : Incoming) × (Contains (d ∷ ds) x × (n ≡ x.number))
    by true same any rest = (d, (contains_first d ds, eqb-true n d.number same))
    by false other any rest = let found = rest any in (found.0, (contains_later d ds found.0 found.1.0, found.1.1))

-- ---- as many numbers as deliveries

abbrev numbers : List Incoming → List ℕ
numbers ds = map (λ (d : Incoming). d.number) ds

among-numbers : (n : ℕ) (ds : List Incoming) → is_among (numbers ds) n ≡ has_delivery n ds
among-numbers n [] = refl
among-numbers n (d ∷ ds) = ap (λ b. (n == d.number) || b) (among-numbers n ds)

apart-first : (d : Incoming) (ds : List Incoming) (x : Incoming) → HaveOwnNumbers (d ∷ ds) → Contains ds x → (d.number == x.number) ≡ false
apart-first d ds x apart there = let lt = there.1 in subst (λ (y : Incoming). (d.number == y.number) ≡ false) there.2 (apart 0 (suc there.0) x (omega (arith, lt)) (omega (arith, lt)))

apart-rest : (d : Incoming) (ds : List Incoming) → HaveOwnNumbers (d ∷ ds) → HaveOwnNumbers ds
apart-rest d ds apart = λ i j x lt within. apart (suc i) (suc j) x (omega (arith, lt)) (omega (arith, within))

apart-each : (n : ℕ) (ds : List Incoming) → ((x : Incoming) → Contains ds x → (n == x.number) ≡ false) → AllByRecursion (λ y. nat_eq n y ≡ false) (numbers ds)
apart-each n [] each = tt
apart-each n (d ∷ ds) each = (each d (contains_first d ds), apart-each n ds (λ x there. each x (contains_later d ds x there)))

distinct : (ds : List Incoming) → HaveOwnNumbers ds → IsDistinct nat_eq (numbers ds)
unfolding IsDistinct
distinct [] apart = tt
distinct (d ∷ ds) apart = (apart-each d.number ds (λ x there. apart-first d ds x apart there), distinct ds (apart-rest d ds apart))

-- a list of all their numbers, each once, is as long
pub numbers-counted : (ds : List Incoming) → HaveOwnNumbers ds → (ns : List ℕ) → IsDistinct nat_eq ns → ((n : ℕ) → is_among ns n ≡ has_delivery n ds) → length ns ≡ length ds
numbers-counted ds apart ns each same =
    length-from_same_keys nat_eq_equiv ns (numbers ds) each (distinct ds apart) (λ n. same n ∙ sym (among-numbers n ds)) ∙ length-map ds (λ (d : Incoming). d.number)
