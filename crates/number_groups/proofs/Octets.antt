-- What is kept under octets, after a change at one key.
use Rattle.std.proofs.Common.{◌≡◌, refl, sym, ap, subst, ◌∙◌, ℕ, Bool, true, false, cond, List, Option, Vec, bytes_eq}
use Rattle.std.proofs.lemmas.Cmp.{nat_list_eq_equiv}
use Rattle.std.proofs.lemmas.Slice.Eq.{bytes_eq-Decides}
use Rattle.std.specs.Map.{KeepsOthers}
use Rattle.indexmap.specs.IndexMap.{IndexMap, get_by, UpdatesBy}

equal : (xs ys : List ℕ) → bytes_eq xs ys ≡ true → xs ≡ ys
equal xs ys e = (bytes_eq-Decides xs ys).0 e

apart : (key at xs : List ℕ) → bytes_eq key at ≡ false → bytes_eq key xs ≡ true → bytes_eq at xs ≡ false
apart key at xs other is =
    subst (λ ys. bytes_eq at ys ≡ false) (equal key xs is) (nat_list_eq_equiv.symm at key ∙ other)

module _ {X S Z : Type 0} where
  abbrev pub under : IndexMap (Vec ℕ Z) X S → List ℕ → Option X
  under m key = get_by (λ kept. bytes_eq key kept.items) m

  pub alike : (m : IndexMap (Vec ℕ Z) X S) (key at : List ℕ) → bytes_eq key at ≡ true → under m at ≡ under m key
  alike m key at same = ap (under m) (sym (equal key at same))

  pub changed : (m n : IndexMap (Vec ℕ Z) X S) (key : List ℕ) (w : Option X) → UpdatesBy (λ a b. bytes_eq a.items b.items) (λ kept. bytes_eq key kept.items) m n w
      → (at : List ℕ) → under n at ≡ cond (bytes_eq key at) w (under m at)
  unfolding KeepsOthers
  changed m n key w updates at = by (bytes_eq key at) refl
    where
      by : (b : Bool) → bytes_eq key at ≡ b → under n at ≡ cond b w (under m at)
      by true same = alike n key at same ∙ updates.1
      by false other = updates.3 (λ kept. bytes_eq at kept.items) (λ x y. nat_list_eq_equiv.congr at x.items y.items) (λ kept is. apart key at kept.items other is)

  pub changed_owned : (m n : IndexMap (Vec ℕ Z) X S) (owned : Vec ℕ Z) (key : List ℕ) → owned.items ≡ key → (w : Option X)
      → UpdatesBy (λ a b. bytes_eq a.items b.items) (λ kept. bytes_eq owned.items kept.items) m n w → (at : List ℕ) → under n at ≡ cond (bytes_eq key at) w (under m at)
  changed_owned m n owned key is w updates at = changed m n owned.items w updates at ∙ ap (λ k. cond (bytes_eq k at) w (under m at)) is
