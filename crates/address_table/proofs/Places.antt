-- Places in an order: where one comes to stand, and where that of a link stands.
use Rattle.std.proofs.Common.{◌≡◌, ◌∙◌, refl, sym, ap, ℕ, suc, ◌+◌, ◌<◌, ◌≤◌, Bool, true, false, not, ◌||◌, cond, List, [], ◌∷◌, length, get_or, Option, Some, None, find, unwrap_or, arith, if◌then◌else◌}
use Rattle.std.specs.Prelude.{nat_lt}
use Rattle.std.specs.List.{list_any, insert, remove, position, position_or_len}
use Rattle.std.proofs.lemmas.Bool.Decides.{nat_tests}
use Rattle.address_table.specs.declared.address_links.LinkRank.{LinkRank}
use Rattle.address_table.specs.AddressLinks.{comes_before, put, is_of, without, closed_up}
use Rattle.address_table.proofs.Apart.{find_none, without_none}

one_more : (n : ℕ) → 1 + n ≡ suc n
one_more n = omega arith

at_most : (test : LinkRank → Bool) (xs : List LinkRank) → position_or_len test xs ≤ length xs
at_most test [] = omega arith
at_most test (z ∷ xs) = by (test z) (at_most test xs)
  where
    by : (b : Bool) → position_or_len test xs ≤ length xs → cond (not b) (1 + position_or_len test xs) 0 ≤ length (z ∷ xs)
    by true le = omega arith
    by false le = omega (arith, le)

-- ---- the place among those in order

put_at : (x : LinkRank) (xs : List LinkRank) → insert xs (position_or_len (comes_before x) xs) x ≡ put x xs
put_at x [] = refl
put_at x (z ∷ xs) = by (comes_before x z) (put_at x xs)
  where
    by : (b : Bool) → insert xs (position_or_len (comes_before x) xs) x ≡ put x xs
        → insert (z ∷ xs) (cond (not b) (1 + position_or_len (comes_before x) xs) 0) x ≡ (if b then x ∷ z ∷ xs else z ∷ put x xs)
    by true later = refl
    by false later = ap (λ m. insert (z ∷ xs) m x) (one_more (position_or_len (comes_before x) xs)) ∙ ap (λ rest. z ∷ rest) later

place_or_last : (n m : ℕ) (b : Bool) → nat_lt n m ≡ b → n ≤ m → unwrap_or (cond b (Some n) None) m ≡ n
place_or_last n m true e le = refl
place_or_last n m false e le = grind (arith, nat_tests)

pub put_there : (x : LinkRank) (xs : List LinkRank) → insert xs (unwrap_or (position (comes_before x) xs) (length xs)) x ≡ put x xs
put_there x xs =
    ap (λ m. insert xs m x) (place_or_last (position_or_len (comes_before x) xs) (length xs) (nat_lt (position_or_len (comes_before x) xs) (length xs)) refl (at_most (comes_before x) xs))
    ∙ put_at x xs

-- ---- the place of a link

find_at : (link : ℕ) (xs : List LinkRank) (d : LinkRank) → position_or_len (is_of link) xs < length xs → find (is_of link) xs ≡ Some (get_or xs (position_or_len (is_of link) xs) d)
find_at link [] d lt = absurd (omega (arith, lt))
find_at link (z ∷ xs) d lt = by (is_of link z) lt (find_at link xs d)
  where
    by : (b : Bool) → cond (not b) (1 + position_or_len (is_of link) xs) 0 < length (z ∷ xs)
        → (position_or_len (is_of link) xs < length xs → find (is_of link) xs ≡ Some (get_or xs (position_or_len (is_of link) xs) d))
        → (if b then Some z else find (is_of link) xs) ≡ Some (get_or (z ∷ xs) (cond (not b) (1 + position_or_len (is_of link) xs) 0) d)
    by true lt later = refl
    by false lt later = later (omega (arith, lt)) ∙ sym (ap (λ m. Some (get_or (z ∷ xs) m d)) (one_more (position_or_len (is_of link) xs)))

without_at : (link : ℕ) (xs : List LinkRank) → position_or_len (is_of link) xs < length xs → remove xs (position_or_len (is_of link) xs) ≡ without link xs
without_at link [] lt = absurd (omega (arith, lt))
without_at link (z ∷ xs) lt = by (is_of link z) lt (without_at link xs)
  where
    by : (b : Bool) → cond (not b) (1 + position_or_len (is_of link) xs) 0 < length (z ∷ xs)
        → (position_or_len (is_of link) xs < length xs → remove xs (position_or_len (is_of link) xs) ≡ without link xs)
        → remove (z ∷ xs) (cond (not b) (1 + position_or_len (is_of link) xs) 0) ≡ (if b then xs else z ∷ without link xs)
    by true lt later = refl
    by false lt later = ap (remove (z ∷ xs)) (one_more (position_or_len (is_of link) xs)) ∙ ap (λ rest. z ∷ rest) (later (omega (arith, lt)))

none_at : (link : ℕ) (xs : List LinkRank) → length xs ≤ position_or_len (is_of link) xs → list_any (is_of link) xs ≡ false
none_at link [] le = refl
none_at link (z ∷ xs) le = by (is_of link z) le (none_at link xs)
  where
    by : (b : Bool) → length (z ∷ xs) ≤ cond (not b) (1 + position_or_len (is_of link) xs) 0
        → (length xs ≤ position_or_len (is_of link) xs → list_any (is_of link) xs ≡ false) → b || list_any (is_of link) xs ≡ false
    by true le later = absurd (omega (arith, le))
    by false le later = later (omega (arith, le))

is_place : (n m i : ℕ) (b : Bool) → nat_lt n m ≡ b → cond b (Some n) None ≡ Some i → (n < m) × (n ≡ i)
is_place n m i true e is = (grind (arith, nat_tests), cc)
is_place n m i false e is = absurd cc

no_place : (n m : ℕ) (b : Bool) → nat_lt n m ≡ b → cond b (Some n) None ≡ None → m ≤ n
no_place n m true e is = absurd cc
no_place n m false e is = grind (arith, nat_tests)

module _ (link : ℕ) (xs : List LinkRank) where
  abbrev place : ℕ
  place = position_or_len (is_of link) xs

  pub found_there : (i : ℕ) (d : LinkRank) → position (is_of link) xs ≡ Some i → find (is_of link) xs ≡ Some (get_or xs i d)
  found_there i d is =
      let at = is_place place (length xs) i (nat_lt place (length xs)) refl is in
      find_at link xs d at.0 ∙ ap (λ m. Some (get_or xs m d)) at.1

  pub without_there : (i : ℕ) → position (is_of link) xs ≡ Some i → remove xs i ≡ without link xs
  without_there i is =
      let at = is_place place (length xs) i (nat_lt place (length xs)) refl is in
      ap (remove xs) (sym at.1) ∙ without_at link xs at.0

  pub found_nowhere : position (is_of link) xs ≡ None → find (is_of link) xs ≡ None
  found_nowhere is = find_none link xs (none_at link xs (no_place place (length xs) (nat_lt place (length xs)) refl is))

  pub without_nowhere : position (is_of link) xs ≡ None → xs ≡ without link xs
  without_nowhere is = sym (without_none link xs (none_at link xs (no_place place (length xs) (nat_lt place (length xs)) refl is)))

-- where no standing was taken out, none moves up
pub nothing_closed : (o : Option LinkRank) (xs : List LinkRank) → ((x : LinkRank) → o ≡ Some x → ⊥) → xs ≡ closed_up o xs
nothing_closed None xs none = refl
nothing_closed (Some x) xs none = absurd (none x refl)
