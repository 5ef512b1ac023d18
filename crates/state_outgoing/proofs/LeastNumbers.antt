-- The least number of a list that passes: one step of a loop, and what it is of all of them.
use Rattle.std.proofs.Common.{◌≡◌, refl, sym, ap, ◌∙◌, ◌+◌, ◌<◌, ◌≤◌, ℕ, min, Bool, true, false, ◌&&◌, ◌||◌, List, [], ◌∷◌, ◌++◌, length, take, get_or, Option, Some, None, nat_eq, nat_lt, if◌then◌else◌, eqb-true, eq-eqb, ltb-false, ltb-true, arith}
use Rattle.std.specs.List.{list_any, slice_get}
use Rattle.std.proofs.lemmas.List.{take_more}
use Rattle.std.proofs.lemmas.Option.{slice_get-get_or}
use Rattle.trace_events.specs.Words.{where_passes}
use Rattle.state_outgoing.specs.Earliest.{lesser, least}

-- ---- the smaller of two

lesser-none : (o : Option ℕ) → lesser o None ≡ o
lesser-none None = refl
lesser-none (Some m) = refl

lesser-grouped : (a b c : Option ℕ) → lesser (lesser a b) c ≡ lesser a (lesser b c)
lesser-grouped None b c = refl
lesser-grouped (Some m) None c = refl
lesser-grouped (Some m) (Some n) None = refl
lesser-grouped (Some m) (Some n) (Some k) = ap Some (omega arith)

-- ---- of a list

module _ (passes : ℕ → Bool) where
  least-append : (xs ys : List ℕ) → least passes (xs ++ ys) ≡ lesser (least passes xs) (least passes ys)
  least-append [] ys = refl
  least-append (x ∷ xs) ys =
      ap (lesser (where_passes passes (Some x))) (least-append xs ys) ∙ sym (lesser-grouped (where_passes passes (Some x)) (least passes xs) (least passes ys))

  -- one more number, as at a step of a loop
  pub least-more : (xs : List ℕ) (i d : ℕ) → i < length xs → least passes (take (i + 1) xs) ≡ lesser (least passes (take i xs)) (where_passes passes (Some (get_or xs i d)))
  least-more xs i d lt =
      ap (least passes) (take_more xs i d lt) ∙ (least-append (take i xs) (get_or xs i d ∷ []) ∙ ap (lesser (least passes (take i xs))) (lesser-none (where_passes passes (Some (get_or xs i d)))))

  -- as a loop takes it from the list
  pub least-next : (ns : List ℕ) (i : ℕ) (was now : Option ℕ) → i < length ns → was ≡ least passes (take i ns) → (o : Option ℕ) → o ≡ slice_get ns i → now ≡ lesser was (where_passes passes o)
      → now ≡ least passes (take (i + 1) ns)
  least-next ns i was now lt before o at is =
      is
      ∙ (ap (λ p. lesser p (where_passes passes o)) before
      ∙ (ap (λ p. lesser (least passes (take i ns)) (where_passes passes p)) (at ∙ slice_get-get_or ns i 0 lt) ∙ sym (least-more ns i 0 lt)))

  -- it is one of the list, and passes
  abbrev pub meets : List ℕ → ℕ → Bool
  meets ns n = list_any (nat_eq n) ns && passes n

  -- and no number that does is below it
  pub record IsLeast (ns : List ℕ) (m : ℕ) : Type 0 where
    pub among : meets ns m ≡ true
    pub below : (n : ℕ) → meets ns n ≡ true → m ≤ n

  none-more : (n k : ℕ) (a : Bool) → passes k ≡ false → a && passes n ≡ false → (nat_eq n k || a) && passes n ≡ false
  none-more n k a fails rest = by (nat_eq n k) refl
    where
      by : (b : Bool) → nat_eq n k ≡ b → (b || a) && passes n ≡ false
      by true same = ap passes (eqb-true n k same) ∙ fails
      by false other = rest

  pub least-none : (ns : List ℕ) → least passes ns ≡ None → (n : ℕ) → meets ns n ≡ false
  least-none [] none n = refl
  least-none (k ∷ ns) none n = by (passes k) refl (least passes ns) refl none (least-none ns)
    where
      by : (b : Bool) → passes k ≡ b → (o : Option ℕ) → least passes ns ≡ o → lesser (if b then Some k else None) o ≡ None → (least passes ns ≡ None → (n : ℕ) → meets ns n ≡ false) → meets (k ∷ ns) n ≡ false
      by true is None rest none later = absurd cc
      by true is (Some i) rest none later = absurd cc
      by false is o rest none later = none-more n k (list_any (nat_eq n) ns) is (later (rest ∙ none) n)

  -- one more number below
  below-more : (k : ℕ) (ns : List ℕ) (m : ℕ) → (passes k ≡ true → m ≤ k) → ((n : ℕ) → meets ns n ≡ true → m ≤ n) → (n : ℕ) → meets (k ∷ ns) n ≡ true → m ≤ n
  below-more k ns m first rest n is = by (nat_eq n k) refl is
    where
      by : (b : Bool) → nat_eq n k ≡ b → (b || list_any (nat_eq n) ns) && passes n ≡ true → m ≤ n
      by true same passes_it = let here = eqb-true n k same in let le = first (ap passes (sym here) ∙ passes_it) in omega (arith, here, le)
      by false other later = rest n later

  meets-here : (k : ℕ) (ns : List ℕ) → passes k ≡ true → meets (k ∷ ns) k ≡ true
  meets-here k ns is = ap (λ b. (b || list_any (nat_eq k) ns) && passes k) (eq-eqb k k refl) ∙ is

  meets-later : (k : ℕ) (ns : List ℕ) (n : ℕ) → meets ns n ≡ true → meets (k ∷ ns) n ≡ true
  meets-later k ns n is = by (nat_eq n k) (list_any (nat_eq n) ns) (passes n) is
    where
      by : (a b c : Bool) → b && c ≡ true → (a || b) && c ≡ true
      by true true c is = is
      by true false c is = absurd cc
      by false b c is = is

  pub least-is : (ns : List ℕ) (m : ℕ) → least passes ns ≡ Some m → IsLeast ns m
  least-is [] m is = absurd cc
  least-is (k ∷ ns) m is = by (passes k) refl (least passes ns) refl is (least-is ns)
    where
      smaller : (i : ℕ) → passes k ≡ true → IsLeast ns i → (b : Bool) → nat_lt i k ≡ b → min k i ≡ m → IsLeast (k ∷ ns) m
      smaller i passed h true lt is =
          let below : i < k = ltb-true i k lt in
          let same : i ≡ m = omega (arith, is, below) in
          let low : m ≤ k = omega (arith, is) in
          record {
            among = meets-later k ns m (ap (meets ns) (sym same) ∙ h.among);
            below = below-more k ns m (λ p. low) (λ n p. let b = h.below n p in omega (arith, b, same));
          }
      smaller i passed h false ge is =
          let le : k ≤ i = ltb-false i k ge in
          let same : k ≡ m = omega (arith, is, le) in
          let low : m ≤ i = omega (arith, is) in
          record {
            among = ap (meets (k ∷ ns)) (sym same) ∙ meets-here k ns passed;
            below = below-more k ns m (λ p. omega (arith, same)) (λ n p. let b = h.below n p in omega (arith, b, low));
          }

      by : (b : Bool) → passes k ≡ b → (o : Option ℕ) → least passes ns ≡ o → lesser (if b then Some k else None) o ≡ Some m → ((i : ℕ) → least passes ns ≡ Some i → IsLeast ns i) → IsLeast (k ∷ ns) m
      by true passed None rest is later =
          let same : k ≡ m = cc in
          record {
            among = ap (meets (k ∷ ns)) (sym same) ∙ meets-here k ns passed;
            below = below-more k ns m (λ p. omega (arith, same)) (λ n p. let never : false ≡ true = sym (least-none ns rest n) ∙ p in absurd cc);
          }
      by true passed (Some i) rest is later = let same : min k i ≡ m = cc in smaller i passed (later i rest) (nat_lt i k) refl same
      by false fails o rest is later =
          let h = later m (rest ∙ is) in
          record {
            among = meets-later k ns m h.among;
            below = below-more k ns m (λ p. let never : false ≡ true = sym fails ∙ p in absurd cc) h.below;
          }
