-- A set of addresses, after one came or went.
use Rattle.std.proofs.Common.{◌≡◌, refl, sym, ap, subst, ◌∙◌, inl, inr, ℕ, ◌+◌, ◌-◌, ◌<◌, ◌≤◌, Bool, true, false, cond, ◌&&◌, ◌||◌, not, List, [], ◌∷◌, Option, Some, None, IfSome, Vec, is_some, length, take, bytes_eq, option_map, slice_index_or, slice_set, swap_remove, if◌then◌else◌, arith}
use Rattle.std.specs.Prelude.{IfNone}
use Rattle.std.proofs.lemmas.Cmp.{nat_list_eq_equiv}
use Rattle.std.proofs.lemmas.Slice.Eq.{bytes_eq-Decides}
use Rattle.std.specs.List.{list_any, slice_get}
use Rattle.std.proofs.lemmas.List.{take-set, take-take, take_all}
use Rattle.std.proofs.lemmas.List.Folds.{list_any_more}
use Rattle.std.proofs.lemmas.Option.{get_or_from_slice_get, slice_get_cases, slice_get_within}
use Rattle.std.specs.Set.{KeepsOthers}
use Rattle.indexmap.specs.IndexSet.{IndexSet, UpdatesBy, contains_by, index_set_len}

equal : (xs ys : List ℕ) → bytes_eq xs ys ≡ true → xs ≡ ys
equal xs ys is = (bytes_eq-Decides xs ys).0 is

apart : (key at xs : List ℕ) → bytes_eq key at ≡ false → bytes_eq key xs ≡ true → bytes_eq at xs ≡ false
apart key at xs other is = subst (λ ys. bytes_eq at ys ≡ false) (equal key xs is) (nat_list_eq_equiv.symm at key ∙ other)

or-cond : (a b : Bool) → cond a true b ≡ a || b
or-cond true b = refl
or-cond false b = refl

pub or-swapped : (a b : Bool) → (a || b) ≡ (b || a)
or-swapped true true = refl
or-swapped true false = refl
or-swapped false true = refl
or-swapped false false = refl

and-cond : (a b : Bool) → cond a false b ≡ b && not a
and-cond true true = refl
and-cond true false = refl
and-cond false true = refl
and-cond false false = refl

-- ---- the first so many

pub first-more : {Z : Type 0} (xs : List (Vec ℕ Z)) (i : ℕ) (k : Vec ℕ Z) → slice_get xs i ≡ Some k → (at : List ℕ)
    → list_any (λ kept. bytes_eq at kept.items) (take (i + 1) xs) ≡ list_any (λ kept. bytes_eq at kept.items) (take i xs) || bytes_eq at k.items
first-more {Z} xs i k here at =
    list_any_more (λ kept. bytes_eq at kept.items) xs i k (slice_get_within xs i k here)
    ∙ ap (λ (x : Vec ℕ Z). list_any (λ kept. bytes_eq at kept.items) (take i xs) || bytes_eq at x.items) (get_or_from_slice_get xs i k k here)

pub all-first : {Z : Type 0} (xs : List (Vec ℕ Z)) (i : ℕ) → length xs ≤ i → (at : List ℕ) → list_any (λ kept. bytes_eq at kept.items) (take i xs) ≡ list_any (λ kept. bytes_eq at kept.items) xs
all-first xs i le at = ap (list_any (λ kept. bytes_eq at kept.items)) (take_all i xs le)

-- ---- one address

module _ {S Z : Type 0} where
  abbrev pub among : IndexSet (Vec ℕ Z) S → List ℕ → Bool
  among s address = contains_by (λ kept. bytes_eq address kept.items) s

  alike : (s : IndexSet (Vec ℕ Z) S) (key at : List ℕ) → bytes_eq key at ≡ true → among s at ≡ among s key
  alike s key at same = ap (among s) (sym (equal key at same))

  changed : (s n : IndexSet (Vec ℕ Z) S) (key : List ℕ) (w : Bool) → UpdatesBy (λ a b. bytes_eq a.items b.items) (λ kept. bytes_eq key kept.items) s n w
      → (at : List ℕ) → among n at ≡ cond (bytes_eq key at) w (among s at)
  unfolding KeepsOthers
  changed s n key w updates at = by (bytes_eq key at) refl
    where
      by : (b : Bool) → bytes_eq key at ≡ b → among n at ≡ cond b w (among s at)
      by true same = alike n key at same ∙ updates.1
      by false other = updates.3 (λ kept. bytes_eq at kept.items) (λ x y. nat_list_eq_equiv.congr at x.items y.items) (λ kept is. apart key at kept.items other is)

  -- it came
  pub came : (s n : IndexSet (Vec ℕ Z) S) (own : Vec ℕ Z) (key : List ℕ) → own.items ≡ key
      → UpdatesBy (λ a b. bytes_eq a.items b.items) (λ kept. bytes_eq own.items kept.items) s n true → (at : List ℕ) → among n at ≡ bytes_eq key at || among s at
  came s n own key is updates at = changed s n own.items true updates at ∙ (or-cond (bytes_eq own.items at) (among s at) ∙ ap (λ k. bytes_eq k at || among s at) is)

  -- it went
  pub went : (s n : IndexSet (Vec ℕ Z) S) (own : Vec ℕ Z) → UpdatesBy (λ a b. bytes_eq a.items b.items) (λ kept. bytes_eq own.items kept.items) s n false
      → (at : List ℕ) → among n at ≡ among s at && not (bytes_eq own.items at)
  went s n own updates at = changed s n own.items false updates at ∙ and-cond (bytes_eq own.items at) (among s at)

  pub none-among : (s : IndexSet (Vec ℕ Z) S) → index_set_len s ≡ 0 → (at : List ℕ) → among s at ≡ false
  none-among s none at = by s.keys none
    where
      by : (xs : List (Vec ℕ Z)) → length xs ≡ 0 → list_any (λ kept. bytes_eq at kept.items) xs ≡ false
      by [] none = refl
      by (x ∷ xs) none = absurd cc

  -- ---- the one at an index goes

  module _ (s n : IndexSet (Vec ℕ Z) S) (i : ℕ) (o : Option (Vec ℕ Z)) (is : o ≡ slice_get s.keys i) where
    pub gone : IfSome o (λ k. UpdatesBy (λ a b. bytes_eq a.items b.items) (λ kept. bytes_eq k.items kept.items) s n false)
        → IfSome (option_map (λ kept. kept.items) (slice_get s.keys i)) (λ k. (at : List ℕ) → among n at ≡ among s at && not (bytes_eq k at))
    gone updates = subst (λ (p : Option (Vec ℕ Z)). IfSome (option_map (λ kept. kept.items) p) (λ k. (at : List ℕ) → among n at ≡ among s at && not (bytes_eq k at))) is (by o updates)
      where
        by : (p : Option (Vec ℕ Z)) → IfSome p (λ k. UpdatesBy (λ a b. bytes_eq a.items b.items) (λ kept. bytes_eq k.items kept.items) s n false)
            → IfSome (option_map (λ kept. kept.items) p) (λ k. (at : List ℕ) → among n at ≡ among s at && not (bytes_eq k at))
        by None updates = tt
        by (Some k) updates = went s n k updates

    pub before-same : IfSome o (λ k. n.keys ≡ swap_remove s.keys i k) → IfNone o (n.keys ≡ s.keys) → take i n.keys ≡ take i s.keys
    before-same moved stays = by o is moved stays
      where
        by : (p : Option (Vec ℕ Z)) → p ≡ slice_get s.keys i → IfSome p (λ k. n.keys ≡ swap_remove s.keys i k) → IfNone p (n.keys ≡ s.keys) → take i n.keys ≡ take i s.keys
        by None at moved stays = ap (take i) stays
        by (Some k) at moved stays =
            let below = slice_get_within s.keys i k (sym at) in
            ap (take i) moved ∙ (take-take i (length s.keys - 1) (slice_set s.keys i (slice_index_or s.keys (length s.keys - 1) k)) (omega (arith, below))
            ∙ take-set s.keys i (slice_index_or s.keys (length s.keys - 1) k))

    pub one-fewer : index_set_len n + (if is_some o then 1 else 0) ≡ index_set_len s → i < index_set_len s → index_set_len n + 1 ≡ index_set_len s
    one-fewer count below = by o is count
      where
        by : (p : Option (Vec ℕ Z)) → p ≡ slice_get s.keys i → index_set_len n + (if is_some p then 1 else 0) ≡ index_set_len s → index_set_len n + 1 ≡ index_set_len s
        by (Some k) at count = count
        by None at count =
            elim (slice_get_cases s.keys i).1 [
              | inl x ↦ let never : None ≡ Some x.0 = at ∙ x.2 in absurd cc
              | inr past ↦ let le = past.0 in absurd (omega (arith, le, below))
            ]
