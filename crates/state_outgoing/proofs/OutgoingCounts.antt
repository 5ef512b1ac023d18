-- A list of the numbers, each once, of all deliveries to clients that pass a test is as long as there are such.
use Rattle.std.proofs.Common.{◌≡◌, refl, sym, ap, ◌∙◌, ◌≤◌, ℕ, suc, Bool, true, false, ◌||◌, List, [], ◌∷◌, length, map, filter, Some, find, nat_eq, if◌then◌else◌, ◌==◌, eqb-true, eq-eqb, ne_eqb, arith, count_by}
use Rattle.std.specs.List.{list_any, AllByRecursion, IsDistinct}
use Rattle.std.specs.Cmp.{IsEquivalence}
use Rattle.std.proofs.lemmas.List.Sums.{length-filter}
use Rattle.std.proofs.lemmas.Map.Made.{length-from_same_keys}
use Rattle.capture_form.specs.Rules.{RuleSet}
use Rattle.trace_events.specs.Words.{is_some_and}
use Rattle.trace_events.specs.Event.{Event, Outgoing}
use Rattle.trace_events.specs.Outgoing.{outgoing_deliveries, outgoing_at}
use Rattle.trace_events.proofs.Judged.{AreJudged}
use Rattle.trace_events.proofs.LinkNumbers.{same-sym}
use Rattle.state_tables.proofs.GroupLists.{any-map}
use Rattle.state_outgoing.proofs.OutgoingNumbers.{AreFalling, judged-falling}

length-map : {A B : Type 0} (f : A → B) (xs : List A) → length (map f xs) ≡ length xs
length-map f [] = refl
length-map f (x ∷ xs) = ap suc (length-map f xs)

module _ (test : Outgoing → Bool) where
  any-above : (n m : ℕ) (ds : List Outgoing) → AreFalling m ds → m ≤ n → list_any (λ d. n == d.number) (filter test ds) ≡ false
  any-above n m [] h le = refl
  any-above n m (d ∷ ds) h le =
      by (test d) (ne_eqb n d.number (λ same. omega (arith, same, le, h.0))) (any-above n d.number ds h.1 (omega (arith, le, h.0)))
    where
      by : (b : Bool) → (n == d.number) ≡ false → list_any (λ d. n == d.number) (filter test ds) ≡ false
          → list_any (λ d. n == d.number) (if b then d ∷ filter test ds else filter test ds) ≡ false
      by true other rest = ap (λ b. b || list_any (λ d. n == d.number) (filter test ds)) other ∙ rest
      by false other rest = rest

  any-found : (n m : ℕ) (ds : List Outgoing) → AreFalling m ds → list_any (λ d. n == d.number) (filter test ds) ≡ is_some_and (find (λ d. d.number == n) ds) test
  any-found n m [] h = refl
  any-found n m (d ∷ ds) h = by (d.number == n) refl (test d) refl (any-found n d.number ds h.1)
    where
      by : (same : Bool) → (d.number == n) ≡ same → (passes : Bool) → test d ≡ passes → list_any (λ d. n == d.number) (filter test ds) ≡ is_some_and (find (λ d. d.number == n) ds) test
          → list_any (λ d. n == d.number) (if passes then d ∷ filter test ds else filter test ds) ≡ is_some_and (if same then Some d else find (λ d. d.number == n) ds) test
      by true is true passes rest = ap (λ b. b || list_any (λ d. n == d.number) (filter test ds)) (same-sym n d.number ∙ is) ∙ sym passes
      by true is false passes rest = any-above n d.number ds h.1 (omega (arith, eqb-true d.number n is)) ∙ sym passes
      by false is true passes rest = ap (λ b. b || list_any (λ d. n == d.number) (filter test ds)) (same-sym n d.number ∙ is) ∙ rest
      by false is false passes rest = rest

  abbrev numbers : List Outgoing → List ℕ
  numbers ds = map (λ (d : Outgoing). d.number) (filter test ds)

  apart : (n m : ℕ) (ds : List Outgoing) → AreFalling m ds → m ≤ n → AllByRecursion (λ k. nat_eq n k ≡ false) (numbers ds)
  apart n m [] h le = tt
  apart n m (d ∷ ds) h le = by (test d) (ne_eqb n d.number (λ same. omega (arith, same, le, h.0))) (apart n d.number ds h.1 (omega (arith, le, h.0)))
    where
      by : (b : Bool) → nat_eq n d.number ≡ false → AllByRecursion (λ k. nat_eq n k ≡ false) (numbers ds) → AllByRecursion (λ k. nat_eq n k ≡ false) (map (λ (x : Outgoing). x.number) (if b then d ∷ filter test ds else filter test ds))
      by true other rest = (other, rest)
      by false other rest = rest

  distinct : (m : ℕ) (ds : List Outgoing) → AreFalling m ds → IsDistinct nat_eq (numbers ds)
  unfolding IsDistinct
  distinct m [] h = tt
  distinct m (d ∷ ds) h = by (test d) (apart d.number d.number ds h.1 (omega arith)) (distinct d.number ds h.1)
    where
      by : (b : Bool) → AllByRecursion (λ k. nat_eq d.number k ≡ false) (numbers ds) → IsDistinct nat_eq (numbers ds) → IsDistinct nat_eq (map (λ (x : Outgoing). x.number) (if b then d ∷ filter test ds else filter test ds))
      by true off rest = (off, rest)
      by false off rest = rest

nat_eq-laws : IsEquivalence nat_eq
nat_eq-laws = record {
  refl = λ n. eq-eqb n n refl;
  symm = λ m n. same-sym m n;
  congr = λ m n k same. ap (λ i. nat_eq i k) (eqb-true m n same);
}

pub length-counted : (rules : RuleSet) (past : List Event) → AreJudged rules past → (test : Outgoing → Bool) (ns : List ℕ) → IsDistinct nat_eq ns
    → ((n : ℕ) → list_any (nat_eq n) ns ≡ is_some_and (outgoing_at n past) test) → length ns ≡ count_by test (outgoing_deliveries past)
length-counted rules past are test ns each same =
    let ds = outgoing_deliveries past in
    let falling = judged-falling rules past are in
    length-from_same_keys nat_eq-laws ns (numbers test ds) each (distinct test (length past) ds falling)
    (λ n. same n ∙ (sym (any-found test n (length past) ds falling) ∙ any-map (λ (d : Outgoing). d.number) (nat_eq n) (filter test ds)))
    ∙ (length-map (λ (d : Outgoing). d.number) (filter test ds) ∙ length-filter test ds)
