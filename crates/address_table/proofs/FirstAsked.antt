-- The first of those in order that passes a test is the one with the fewest undecided deliveries, of equal ones the one
-- that was attached first.
use Rattle.std.proofs.Common.{◌≡◌, ◌∙◌, refl, sym, ap, subst, ℕ, ◌+◌, Bool, true, false, not, ◌&&◌, List, [], ◌∷◌, Option, Some, None, find, filter, option_map, arith, if◌then◌else◌, ◌==◌}
use Rattle.std.specs.Prelude.{nat_lt, nat_le}
use Rattle.std.specs.List.{list_all, best_of}
use Rattle.std.proofs.lemmas.Bool.Decides.{nat_tests}
use Rattle.flow_counts.specs.Picks.{best}
use Rattle.address_table.specs.declared.address_links.LinkRank.{LinkRank}
use Rattle.address_table.specs.AddressLinks.{MayAsk, comes_before, put, in_order, standings, order_of}
use Rattle.address_table.proofs.Ordered.{before, total, trans}
use Rattle.address_table.proofs.Apart.{all_put, all_in_order}

both : (a b : Bool) → a && b ≡ true → (a ≡ true) × (b ≡ true)
both true b e = (refl, e)
both false b e = absurd cc

-- ---- sorted

abbrev is_sorted : List LinkRank → Bool
is_sorted [] = true
is_sorted (x ∷ xs) = list_all (comes_before x) xs && is_sorted xs

all_behind : (x z : LinkRank) (rest : List LinkRank) → comes_before x z ≡ true → list_all (comes_before z) rest ≡ true → list_all (comes_before x) rest ≡ true
all_behind x z [] first all = refl
all_behind x z (y ∷ rest) first all =
    let parts = both (comes_before z y) (list_all (comes_before z) rest) all in
    ap (λ b. b && list_all (comes_before x) rest) (trans x z y first parts.0) ∙ all_behind x z rest first parts.1

sorted_put : (x : LinkRank) (rest : List LinkRank) → is_sorted rest ≡ true → is_sorted (put x rest) ≡ true
sorted_put x [] sorted = refl
sorted_put x (z ∷ rest) sorted =
    let parts = both (list_all (comes_before z) rest) (is_sorted rest) sorted in
    by (comes_before x z) refl parts.0 (sorted_put x rest parts.1)
  where
    by : (b : Bool) → comes_before x z ≡ b → list_all (comes_before z) rest ≡ true → is_sorted (put x rest) ≡ true → is_sorted (if b then x ∷ z ∷ rest else z ∷ put x rest) ≡ true
    by true is all later = (λ i. (is i && all_behind x z rest is all i) && is_sorted (z ∷ rest)) ∙ sorted
    by false is all later = (λ i. (all_put (comes_before z) x rest ∙ (λ j. total x z is j && all j)) i && is_sorted (put x rest)) ∙ later

sorted_in_order : (xs : List LinkRank) → is_sorted (in_order xs) ≡ true
sorted_in_order [] = refl
sorted_in_order (x ∷ xs) = sorted_put x (in_order xs) (sorted_in_order xs)

-- ---- the first that passes

find_passes : (test passed : LinkRank → Bool) (xs : List LinkRank) (y : LinkRank) → list_all passed xs ≡ true → find test xs ≡ Some y → passed y ≡ true
find_passes test passed [] y all found = absurd cc
find_passes test passed (x ∷ xs) y all found =
    let parts = both (passed x) (list_all passed xs) all in
    by (test x) parts.0 (find_passes test passed xs y parts.1) found
  where
    by : (b : Bool) → passed x ≡ true → (find test xs ≡ Some y → passed y ≡ true) → (if b then Some x else find test xs) ≡ Some y → passed y ≡ true
    by true is rest found = let same : x ≡ y = cc in subst (λ s. passed s ≡ true) same is
    by false is rest found = rest found

abbrev first_of : LinkRank → Option LinkRank → LinkRank
first_of x None = x
first_of x (Some y) = if comes_before x y then x else y

stays_first : (test : LinkRank → Bool) (x : LinkRank) (xs : List LinkRank) → list_all (comes_before x) xs ≡ true → first_of x (find test xs) ≡ x
stays_first test x xs all = by (find test xs) refl
  where
    by : (o : Option LinkRank) → find test xs ≡ o → first_of x o ≡ x
    by None found = refl
    by (Some y) found = ap (λ b. if b then x else y) (find_passes test (comes_before x) xs y all found)

found_in_put : (test : LinkRank → Bool) (x : LinkRank) (rest : List LinkRank) → is_sorted rest ≡ true
    → find test (put x rest) ≡ (if test x then Some (first_of x (find test rest)) else find test rest)
found_in_put test x [] sorted = refl
found_in_put test x (z ∷ rest) sorted =
    let parts = both (list_all (comes_before z) rest) (is_sorted rest) sorted in
    by (comes_before x z) refl parts.0 (found_in_put test x rest parts.1)
  where
    goes_on : (p q : Bool) → comes_before x z ≡ false
        → (if p then Some z else (if q then Some (first_of x (find test rest)) else find test rest))
        ≡ (if q then Some (first_of x (if p then Some z else find test rest)) else (if p then Some z else find test rest))
    goes_on true true is = sym (ap (λ b. Some (if b then x else z)) is)
    goes_on true false is = refl
    goes_on false q is = refl

    by : (b : Bool) → comes_before x z ≡ b → list_all (comes_before z) rest ≡ true
        → find test (put x rest) ≡ (if test x then Some (first_of x (find test rest)) else find test rest)
        → find test (if b then x ∷ z ∷ rest else z ∷ put x rest) ≡ (if test x then Some (first_of x (find test (z ∷ rest))) else find test (z ∷ rest))
    by true is all later =
        sym (ap (λ s. if test x then Some s else find test (z ∷ rest)) (stays_first test x (z ∷ rest) ((λ i. is i && all_behind x z rest is all i))))
    by false is all later = ap (λ o. if test z then Some z else o) later ∙ goes_on (test z) (test x) is

-- ---- the best of a list, by its first

module _ (rank : ℕ → ℕ) where
  abbrev beats : ℕ → ℕ → Bool
  beats one other = nat_lt (rank one) (rank other)

  abbrev better : ℕ → Option ℕ → ℕ
  better x None = x
  better x (Some y) = if beats y x then y else x

  three : (x y z : ℕ) (a b c : Bool) → nat_lt y x ≡ a → nat_lt z y ≡ b → nat_lt z x ≡ c → a ≡ b → c ≡ a
  three x y z true true c e f g same = grind (arith, nat_tests)
  three x y z true false c e f g same = absurd cc
  three x y z false true c e f g same = absurd cc
  three x y z false false c e f g same = grind (arith, nat_tests)

  best_first : (x : ℕ) (xs : List ℕ) → best_of beats x xs ≡ better x (best beats xs)
  best_first x [] = refl
  best_first x (y ∷ ys) =
      best_first (if beats y x then y else x) ys ∙ (by (best beats ys) ∙ sym (ap (λ z. better x (Some z)) (best_first y ys)))
    where
      chosen : (z : ℕ) (a b c : Bool) → beats y x ≡ a → beats z y ≡ b → beats z x ≡ c
          → (if beats z (if a then y else x) then z else (if a then y else x)) ≡ (if beats (if b then z else y) x then (if b then z else y) else x)
      chosen z true true c e f g =
          ap (λ t. if t then z else y) f ∙ sym (ap (λ t. if t then z else x) (g ∙ three (rank x) (rank y) (rank z) true true c e f g refl))
      chosen z true false c e f g = ap (λ t. if t then z else y) f ∙ sym (ap (λ t. if t then y else x) e)
      chosen z false true c e f g = refl
      chosen z false false c e f g =
          ap (λ t. if t then z else x) (g ∙ three (rank x) (rank y) (rank z) false false c e f g refl) ∙ sym (ap (λ t. if t then y else x) e)

      by : (o : Option ℕ) → better (if beats y x then y else x) o ≡ better x (Some (better y o))
      by None = refl
      by (Some z) = chosen z (beats y x) (beats z y) (beats z x) refl refl refl

-- ---- the first that is asked and passes

module _ (undecided : ℕ → ℕ) (test : ℕ → Bool) where
  -- how many are undecided, and how many came before at least
  abbrev kept : ℕ → LinkRank → Bool
  kept k s = (s.undecided == undecided s.link) && nat_le k s.place

  weaker : (k p : ℕ) (a : Bool) → a && nat_le (k + 1) p ≡ true → a && nat_le k p ≡ true
  weaker k p true e = grind (arith, nat_tests)
  weaker k p false e = absurd cc

  all_weaker : (k : ℕ) (xs : List LinkRank) → list_all (kept (k + 1)) xs ≡ true → list_all (kept k) xs ≡ true
  all_weaker k [] all = refl
  all_weaker k (x ∷ xs) all =
      let parts = both (kept (k + 1) x) (list_all (kept (k + 1)) xs) all in
      (λ i. weaker k x.place (x.undecided == undecided x.link) parts.0 i && list_all (kept k) xs) ∙ all_weaker k xs parts.1

  itself : (n k : ℕ) → (n == n) && nat_le k k ≡ true
  itself n k = grind (arith, nat_tests)

  all_kept : (k : ℕ) (links : List ℕ) → list_all (kept k) (standings undecided k links) ≡ true
  all_kept k [] = refl
  all_kept k (c ∷ links) =
      (λ i. itself (undecided c) k i && list_all (kept k) (standings undecided (k + 1) links))
      ∙ all_weaker k (standings undecided (k + 1) links) (all_kept (k + 1) links)

  before_later : (u k c v p l w : ℕ) → (v == w) && nat_le (k + 1) p ≡ true → before u k c v p l ≡ not (nat_lt w u)
  before_later u k c v p l w e = grind (arith, nat_tests)

  passes : LinkRank → Bool
  passes s = test s.link

  first_from : (k : ℕ) (links : List ℕ)
      → option_map (λ (s : LinkRank). s.link) (find (λ s. test s.link) (in_order (standings undecided k links))) ≡ best (λ one other. nat_lt (undecided one) (undecided other)) (filter test links)
  first_from k [] = refl
  first_from k (c ∷ links) =
      ap (option_map (λ (s : LinkRank). s.link)) (found_in_put (λ s. test s.link) x others (sorted_in_order (standings undecided (k + 1) links)))
      ∙ by (test c) (find (λ s. test s.link) others) refl (first_from (k + 1) links)
    where
      x : LinkRank
      x = record { undecided = undecided c; place = k; link = c }

      others : List LinkRank
      others = in_order (standings undecided (k + 1) links)

      one_of : (y : LinkRank) → find (λ s. test s.link) others ≡ Some y → (first_of x (Some y)).link ≡ (if nat_lt (undecided y.link) (undecided c) then y.link else c)
      one_of y found =
          let is = find_passes (λ s. test s.link) (kept (k + 1)) others y (all_in_order (kept (k + 1)) (standings undecided (k + 1) links) ∙ all_kept (k + 1) links) found in
          ap (λ (b : Bool). (if b then x else y).link) (before_later (undecided c) k c y.undecided y.place y.link (undecided y.link) is) ∙ turned (nat_lt (undecided y.link) (undecided c))
        where
          turned : (b : Bool) → (if not b then x else y).link ≡ (if b then y.link else c)
          turned true = refl
          turned false = refl

      by : (b : Bool) (o : Option LinkRank) → find (λ s. test s.link) others ≡ o
          → option_map (λ (s : LinkRank). s.link) (find (λ s. test s.link) others) ≡ best (λ one other. nat_lt (undecided one) (undecided other)) (filter test links)
          → option_map (λ (s : LinkRank). s.link) (if b then Some (first_of x (find (λ s. test s.link) others)) else find (λ s. test s.link) others)
          ≡ best (λ one other. nat_lt (undecided one) (undecided other)) (if b then c ∷ filter test links else filter test links)
      by false o found rest = rest
      by true None found rest =
          ap (λ o. Some (first_of x o).link) found
          ∙ sym (ap (λ n. Some n) (best_first undecided c (filter test links)) ∙ ap (λ o. Some (better undecided c o)) (sym rest ∙ ap (option_map (λ (s : LinkRank). s.link)) found))
      by true (Some y) found rest =
          ap (λ o. Some (first_of x o).link) found
          ∙ (ap (λ n. Some n) (one_of y found)
          ∙ sym (ap (λ n. Some n) (best_first undecided c (filter test links)) ∙ ap (λ o. Some (better undecided c o)) (sym rest ∙ ap (option_map (λ (s : LinkRank). s.link)) found)))

  pub first_asked : (links : List ℕ)
      → option_map (λ (s : LinkRank). s.link) (find (λ s. test s.link) (order_of undecided links)) ≡ best (λ one other. nat_lt (undecided one) (undecided other)) (filter test links)
  first_asked links = first_from 0 links

  -- the same of an order that is kept, if it is the right one
  pub first_kept : (links : List ℕ) (kept : Option (List LinkRank)) (order : List LinkRank) → Some order ≡ kept → kept ≡ option_map (λ other. order_of undecided links) kept
      → option_map (λ (s : LinkRank). s.link) (find (λ s. test s.link) order) ≡ best (λ one other. nat_lt (undecided one) (undecided other)) (filter test links)
  first_kept links kept order is right =
      ap asked (is ∙ right ∙ ap (option_map (λ other. order_of undecided links)) (sym is)) ∙ first_asked links
    where
      asked : Option (List LinkRank) → Option ℕ
      asked None = None
      asked (Some xs) = option_map (λ (s : LinkRank). s.link) (find (λ s. test s.link) xs)

-- ---- tests that may be asked of any link

pub may_ask : (may : ℕ → Type 0) (answers : ℕ → Bool → Type 0) → ((link : ℕ) → may link) → (order : List LinkRank) → MayAsk may answers order
may_ask may answers any [] = tt
may_ask may answers any (one ∷ rest) = (any one.link, λ no. may_ask may answers any rest)
