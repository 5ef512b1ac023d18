-- The deliveries of a history have numbers that fall: so a list of numbers, each once, of all that pass a test is as long as
-- there are such.
use Rattle.std.proofs.Common.{◌≡◌, refl, sym, ap, ◌∙◌, ◌<◌, ◌≤◌, ℕ, suc, Bool, true, false, ◌||◌, List, [], ◌∷◌, length, map, filter, Option, Some, None, find, nat_eq, if◌then◌else◌, ◌==◌, eqb-true, eq-eqb, ne_eqb, arith, count_by}
use Rattle.std.specs.List.{list_any, cons_option, AllByRecursion, IsDistinct}
use Rattle.std.specs.Cmp.{IsEquivalence}
use Rattle.std.proofs.lemmas.List.Sums.{length-filter}
use Rattle.std.proofs.lemmas.Map.Made.{length-from_same_keys}
use Rattle.capture_form.specs.Rules.{RuleSet}
use Rattle.trace_events.specs.Words.{is_some_and}
use Rattle.trace_events.specs.Event.{Event, Incoming}
use Rattle.trace_events.specs.Incoming.{incoming_begun, incoming_at, incoming_deliveries}
use Rattle.trace_events.proofs.Judged.{AreJudged, judged-number}
use Rattle.trace_events.proofs.LinkNumbers.{same-sym}
use Rattle.trace_events.proofs.Links.{passing}
use Rattle.state_tables.proofs.GroupLists.{any-map}

length-map : {A B : Type 0} (f : A → B) (xs : List A) → length (map f xs) ≡ length xs
length-map f [] = refl
length-map f (x ∷ xs) = ap suc (length-map f xs)

-- each number is below the one before it, and the first below this one
abbrev AreFalling : ℕ → List Incoming → Type 0
AreFalling n [] = Unit {0}
AreFalling n (d ∷ ds) = (d.number < n) × AreFalling d.number ds

falling-weaker : (n m : ℕ) (ds : List Incoming) → n ≤ m → AreFalling n ds → AreFalling m ds
falling-weaker n m [] le h = tt
falling-weaker n m (d ∷ ds) le h = (omega (arith, le, h.0), h.1)

falling-more : (n m : ℕ) (o : Option Incoming) (ds : List Incoming) → n < m → ((d : Incoming) → o ≡ Some d → d.number ≡ n) → AreFalling n ds → AreFalling m (cons_option o ds)
falling-more n m None ds lt own h = falling-weaker n m ds (omega (arith, lt)) h
falling-more n m (Some d) ds lt own h = (omega (arith, lt, own d refl), falling-weaker n d.number ds (omega (arith, own d refl)) h)

begun-number : (rules : RuleSet) (e : Event) (past : List Event) (d : Incoming) → AreJudged rules (e ∷ past) → incoming_begun e ≡ Some d → d.number ≡ length past
begun-number rules e past d are begun = eqb-true d.number e.number (passing (λ (x : Incoming). x.number == e.number) e.incoming d begun).1 ∙ judged-number rules e past are

are-falling : (rules : RuleSet) (past : List Event) → AreJudged rules past → AreFalling (length past) (incoming_deliveries past)
are-falling rules [] are = tt
are-falling rules (e ∷ past) are =
    falling-more (length past) (length (e ∷ past)) (incoming_begun e) (incoming_deliveries past) (omega arith) (λ d is. begun-number rules e past d are is) (are-falling rules past are.1)

module _ (test : Incoming → Bool) where
  any-above : (n m : ℕ) (ds : List Incoming) → AreFalling m ds → m ≤ n → list_any (λ d. n == d.number) (filter test ds) ≡ false
  any-above n m [] h le = refl
  any-above n m (d ∷ ds) h le =
      by (test d) (ne_eqb n d.number (λ same. omega (arith, same, le, h.0))) (any-above n d.number ds h.1 (omega (arith, le, h.0)))
    where
      by : (b : Bool) → (n == d.number) ≡ false → list_any (λ d. n == d.number) (filter test ds) ≡ false
          → list_any (λ d. n == d.number) (if b then d ∷ filter test ds else filter test ds) ≡ false
      by true other rest = ap (λ b. b || list_any (λ d. n == d.number) (filter test ds)) other ∙ rest
      by false other rest = rest

  any-found : (n m : ℕ) (ds : List Incoming) → AreFalling m ds → list_any (λ d. n == d.number) (filter test ds) ≡ is_some_and (find (λ d. d.number == n) ds) test
  any-found n m [] h = refl
  any-found n m (d ∷ ds) h = by (d.number == n) refl (test d) refl (any-found n d.number ds h.1)
    where
      by : (same : Bool) → (d.number == n) ≡ same → (passes : Bool) → test d ≡ passes → list_any (λ d. n == d.number) (filter test ds) ≡ is_some_and (find (λ d. d.number == n) ds) test
          → list_any (λ d. n == d.number) (if passes then d ∷ filter test ds else filter test ds) ≡ is_some_and (if same then Some d else find (λ d. d.number == n) ds) test
      by true is true passes rest = ap (λ b. b || list_any (λ d. n == d.number) (filter test ds)) (same-sym n d.number ∙ is) ∙ sym passes
      by true is false passes rest = any-above n d.number ds h.1 (omega (arith, eqb-true d.number n is)) ∙ sym passes
      by false is true passes rest = ap (λ b. b || list_any (λ d. n == d.number) (filter test ds)) (same-sym n d.number ∙ is) ∙ rest
      by false is false passes rest = rest

  abbrev numbers : List Incoming → List ℕ
  numbers ds = map (λ (d : Incoming). d.number) (filter test ds)

  apart : (n m : ℕ) (ds : List Incoming) → AreFalling m ds → m ≤ n → AllByRecursion (λ k. nat_eq n k ≡ false) (numbers ds)
  apart n m [] h le = tt
  apart n m (d ∷ ds) h le = by (test d) (ne_eqb n d.number (λ same. omega (arith, same, le, h.0))) (apart n d.number ds h.1 (omega (arith, le, h.0)))
    where
      by : (b : Bool) → nat_eq n d.number ≡ false → AllByRecursion (λ k. nat_eq n k ≡ false) (numbers ds) → AllByRecursion (λ k. nat_eq n k ≡ false) (map (λ (x : Incoming). x.number) (if b then d ∷ filter test ds else filter test ds))
      by true other rest = (other, rest)
      by false other rest = rest

  distinct : (m : ℕ) (ds : List Incoming) → AreFalling m ds → IsDistinct nat_eq (numbers ds)
  unfolding IsDistinct
  distinct m [] h = tt
  distinct m (d ∷ ds) h = by (test d) (apart d.number d.number ds h.1 (omega arith)) (distinct d.number ds h.1)
    where
      by : (b : Bool) → AllByRecursion (λ k. nat_eq d.number k ≡ false) (numbers ds) → IsDistinct nat_eq (numbers ds) → IsDistinct nat_eq (map (λ (x : Incoming). x.number) (if b then d ∷ filter test ds else filter test ds))
      by true off rest = (off, rest)
      by false off rest = rest

  counted : (ds : List Incoming) → length (numbers ds) ≡ count_by test ds
  counted ds = length-map (λ (d : Incoming). d.number) (filter test ds) ∙ length-filter test ds

nat_eq-laws : IsEquivalence nat_eq
nat_eq-laws = record {
  refl = λ n. eq-eqb n n refl;
  symm = λ m n. same-sym m n;
  congr = λ m n k same. ap (λ i. nat_eq i k) (eqb-true m n same);
}

-- a list of the numbers of all that pass
pub length-counted : (rules : RuleSet) (past : List Event) → AreJudged rules past → (test : Incoming → Bool) (ns : List ℕ) → IsDistinct nat_eq ns
    → ((n : ℕ) → list_any (nat_eq n) ns ≡ is_some_and (incoming_at n past) test) → length ns ≡ count_by test (incoming_deliveries past)
length-counted rules past are test ns each same =
    let falling = are-falling rules past are in
    length-from_same_keys nat_eq-laws ns (numbers test (incoming_deliveries past)) each (distinct test (length past) (incoming_deliveries past) falling)
    (λ n. same n ∙ (sym (any-found test n (length past) (incoming_deliveries past) falling) ∙ any-map (λ (d : Incoming). d.number) (nat_eq n) (filter test (incoming_deliveries past))))
    ∙ counted test (incoming_deliveries past)
