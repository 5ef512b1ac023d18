-- The standing of one link apart from those of the others.
use Rattle.std.proofs.Common.{◌≡◌, ◌∙◌, refl, sym, ap, subst, ℕ, ◌+◌, ◌-◌, ◌<◌, ◌≤◌, Bool, true, false, not, ◌&&◌, ◌||◌, List, [], ◌∷◌, ◌++◌, length, Some, None, find, map, filter, arith, if◌then◌else◌, ◌==◌}
use Rattle.std.specs.Prelude.{nat_lt}
use Rattle.std.specs.List.{list_any, list_all}
use Rattle.std.proofs.lemmas.Bool.{eqb-true}
use Rattle.std.proofs.lemmas.Bool.Decides.{nat_tests}
use Rattle.address_table.specs.declared.address_links.LinkRank.{LinkRank}
use Rattle.address_table.specs.AddressLinks.{comes_before, put, in_order, standings, order_of, are_distinct, is_of, without, moved_up, closed_up, put_back}
use Rattle.address_table.proofs.Ordered.{before, put-put, in_order-last}

-- ---- tests of all that stand in order

swapped_or : (a b c : Bool) → a || (b || c) ≡ b || (a || c)
swapped_or true true c = refl
swapped_or true false c = refl
swapped_or false b c = refl

swapped_and : (a b c : Bool) → a && (b && c) ≡ b && (a && c)
swapped_and true b c = refl
swapped_and false true c = refl
swapped_and false false c = refl

any_put : (test : LinkRank → Bool) (x : LinkRank) (rest : List LinkRank) → list_any test (put x rest) ≡ (test x || list_any test rest)
any_put test x [] = refl
any_put test x (z ∷ rest) = by (comes_before x z) (any_put test x rest)
  where
    by : (b : Bool) → list_any test (put x rest) ≡ (test x || list_any test rest)
        → list_any test (if b then x ∷ z ∷ rest else z ∷ put x rest) ≡ (test x || (test z || list_any test rest))
    by true later = refl
    by false later = ap (λ b. test z || b) later ∙ swapped_or (test z) (test x) (list_any test rest)

any_in_order : (test : LinkRank → Bool) (xs : List LinkRank) → list_any test (in_order xs) ≡ list_any test xs
any_in_order test [] = refl
any_in_order test (x ∷ xs) = any_put test x (in_order xs) ∙ ap (λ b. test x || b) (any_in_order test xs)

pub all_put : (test : LinkRank → Bool) (x : LinkRank) (rest : List LinkRank) → list_all test (put x rest) ≡ (test x && list_all test rest)
all_put test x [] = refl
all_put test x (z ∷ rest) = by (comes_before x z) (all_put test x rest)
  where
    by : (b : Bool) → list_all test (put x rest) ≡ (test x && list_all test rest)
        → list_all test (if b then x ∷ z ∷ rest else z ∷ put x rest) ≡ (test x && (test z && list_all test rest))
    by true later = refl
    by false later = ap (λ b. test z && b) later ∙ swapped_and (test z) (test x) (list_all test rest)

pub all_in_order : (test : LinkRank → Bool) (xs : List LinkRank) → list_all test (in_order xs) ≡ list_all test xs
all_in_order test [] = refl
all_in_order test (x ∷ xs) = all_put test x (in_order xs) ∙ ap (λ b. test x && b) (all_in_order test xs)

-- ---- the one of a link, among others

neither : (a b : Bool) → a || b ≡ false → (a ≡ false) × (b ≡ false)
neither true b e = absurd cc
neither false b e = (refl, e)

both : (a b : Bool) → a && b ≡ true → (a ≡ true) × (b ≡ true)
both true b e = (refl, e)
both false b e = absurd cc

pub find_none : (link : ℕ) (xs : List LinkRank) → list_any (is_of link) xs ≡ false → find (is_of link) xs ≡ None
find_none link [] none = refl
find_none link (x ∷ xs) none =
    let apart = neither (is_of link x) (list_any (is_of link) xs) none in
    rw apart.0 (find_none link xs apart.1)

pub without_none : (link : ℕ) (xs : List LinkRank) → list_any (is_of link) xs ≡ false → without link xs ≡ xs
without_none link [] none = refl
without_none link (x ∷ xs) none =
    let apart = neither (is_of link x) (list_any (is_of link) xs) none in
    ap (λ b. if b then xs else x ∷ without link xs) apart.0 ∙ ap (λ rest. x ∷ rest) (without_none link xs apart.1)

find_put : (link : ℕ) (x : LinkRank) (rest : List LinkRank) → is_of link x ≡ true → list_any (is_of link) rest ≡ false → find (is_of link) (put x rest) ≡ Some x
find_put link x [] is none = ap (λ b. if b then Some x else None) is
find_put link x (z ∷ rest) is none =
    let apart = neither (is_of link z) (list_any (is_of link) rest) none in
    by (comes_before x z) apart.0 (find_put link x rest is apart.1)
  where
    by : (b : Bool) → is_of link z ≡ false → find (is_of link) (put x rest) ≡ Some x → find (is_of link) (if b then x ∷ z ∷ rest else z ∷ put x rest) ≡ Some x
    by true off later = ap (λ b. if b then Some x else (find (is_of link) (z ∷ rest))) is
    by false off later = ap (λ b. if b then Some z else (find (is_of link) (put x rest))) off ∙ later

without_put : (link : ℕ) (x : LinkRank) (rest : List LinkRank) → is_of link x ≡ true → list_any (is_of link) rest ≡ false → without link (put x rest) ≡ rest
without_put link x [] is none = ap (λ b. if b then [] else x ∷ []) is
without_put link x (z ∷ rest) is none =
    let apart = neither (is_of link z) (list_any (is_of link) rest) none in
    by (comes_before x z) apart.0 (without_put link x rest is apart.1)
  where
    by : (b : Bool) → is_of link z ≡ false → without link (put x rest) ≡ rest → without link (if b then x ∷ z ∷ rest else z ∷ put x rest) ≡ z ∷ rest
    by true off later = ap (λ b. if b then z ∷ rest else x ∷ without link (z ∷ rest)) is
    by false off later = ap (λ b. if b then put x rest else z ∷ without link (put x rest)) off ∙ ap (λ more. z ∷ more) later

-- ---- where all move up behind one that has left

before_moved : (u p l v q m gone : ℕ) → (p == gone) ≡ false → (q == gone) ≡ false
    → before u (if nat_lt gone p then p - 1 else p) l v (if nat_lt gone q then q - 1 else q) m ≡ before u p l v q m
before_moved u p l v q m gone e f = grind (arith, nat_tests)

put_moved : (gone : ℕ) (x : LinkRank) (rest : List LinkRank) → (x.place == gone) ≡ false → list_all (λ s. not (s.place == gone)) rest ≡ true
    → put (moved_up gone x) (map (moved_up gone) rest) ≡ map (moved_up gone) (put x rest)
put_moved gone x [] off all = refl
put_moved gone x (z ∷ rest) off all =
    let parts = both (not (z.place == gone)) (list_all (λ s. not (s.place == gone)) rest) all in
    by (comes_before x z) (before_moved x.undecided x.place x.link z.undecided z.place z.link gone off (unlike (z.place == gone) parts.0)) (put_moved gone x rest off parts.1)
  where
    unlike : (b : Bool) → not b ≡ true → b ≡ false
    unlike true e = absurd cc
    unlike false e = refl

    by : (b : Bool) → comes_before (moved_up gone x) (moved_up gone z) ≡ b → put (moved_up gone x) (map (moved_up gone) rest) ≡ map (moved_up gone) (put x rest)
        → put (moved_up gone x) (moved_up gone z ∷ map (moved_up gone) rest) ≡ map (moved_up gone) (if b then x ∷ z ∷ rest else z ∷ put x rest)
    by true is later = ap (λ b. if b then moved_up gone x ∷ moved_up gone z ∷ map (moved_up gone) rest else moved_up gone z ∷ put (moved_up gone x) (map (moved_up gone) rest)) is
    by false is later =
        ap (λ b. if b then moved_up gone x ∷ moved_up gone z ∷ map (moved_up gone) rest else moved_up gone z ∷ put (moved_up gone x) (map (moved_up gone) rest)) is
        ∙ ap (λ more. moved_up gone z ∷ more) later

in_order_moved : (gone : ℕ) (xs : List LinkRank) → list_all (λ s. not (s.place == gone)) xs ≡ true → in_order (map (moved_up gone) xs) ≡ map (moved_up gone) (in_order xs)
in_order_moved gone [] all = refl
in_order_moved gone (x ∷ xs) all =
    let parts = both (not (x.place == gone)) (list_all (λ s. not (s.place == gone)) xs) all in
    ap (put (moved_up gone x)) (in_order_moved gone xs parts.1)
    ∙ put_moved gone x (in_order xs) (unlike (x.place == gone) parts.0) (all_in_order (λ s. not (s.place == gone)) xs ∙ parts.1)
  where
    unlike : (b : Bool) → not b ≡ true → b ≡ false
    unlike true e = absurd cc
    unlike false e = refl

-- ---- links as they were attached

any_standings : (undecided : ℕ → ℕ) (link k : ℕ) (links : List ℕ) → list_any (is_of link) (standings undecided k links) ≡ list_any (λ x. x == link) links
any_standings undecided link k [] = refl
any_standings undecided link k (c ∷ links) = ap (λ b. (c == link) || b) (any_standings undecided link (k + 1) links)

pub none_without : (link : ℕ) (links : List ℕ) → list_any (λ x. x == link) (filter (λ on. not (on == link)) links) ≡ false
none_without link [] = refl
none_without link (c ∷ links) = by (c == link) refl (none_without link links)
  where
    by : (b : Bool) → (c == link) ≡ b → list_any (λ x. x == link) (filter (λ on. not (on == link)) links) ≡ false
        → list_any (λ x. x == link) (if not b then c ∷ filter (λ on. not (on == link)) links else filter (λ on. not (on == link)) links) ≡ false
    by true is later = later
    by false is later = ap (λ b. b || list_any (λ x. x == link) (filter (λ on. not (on == link)) links)) is ∙ later

pub filter_none : (link : ℕ) (links : List ℕ) → list_any (λ x. x == link) links ≡ false → filter (λ on. not (on == link)) links ≡ links
filter_none link [] none = refl
filter_none link (c ∷ links) none =
    let apart = neither (c == link) (list_any (λ x. x == link) links) none in
    ap (λ b. if not b then c ∷ filter (λ on. not (on == link)) links else filter (λ on. not (on == link)) links) apart.0
    ∙ ap (λ rest. c ∷ rest) (filter_none link links apart.1)

standings_last : (undecided : ℕ → ℕ) (k : ℕ) (links : List ℕ) (link : ℕ)
    → standings undecided k (links ++ link ∷ []) ≡ standings undecided k links ++ record { undecided = undecided link; place = k + length links; link = link } ∷ []
standings_last undecided k [] link = ap (λ n. record { undecided = undecided link; place = n; link = link } ∷ []) (omega arith)
standings_last undecided k (c ∷ links) link =
    ap (λ more. record { undecided = undecided c; place = k; link = c } ∷ more)
    (standings_last undecided (k + 1) links link
    ∙ ap (λ n. standings undecided (k + 1) links ++ record { undecided = undecided link; place = n; link = link } ∷ []) (omega arith))

places_above : (undecided : ℕ → ℕ) (gone k : ℕ) (links : List ℕ) → gone < k → list_all (λ s. not (s.place == gone)) (standings undecided k links) ≡ true
places_above undecided gone k [] lt = refl
places_above undecided gone k (c ∷ links) lt =
    ap (λ b. not b && list_all (λ s. not (s.place == gone)) (standings undecided (k + 1) links)) (above k gone lt)
    ∙ places_above undecided gone (k + 1) links (omega (arith, lt))
  where
    above : (k gone : ℕ) → gone < k → (k == gone) ≡ false
    above k gone lt = grind (arith, nat_tests)

moved_place : (gone k : ℕ) → gone ≤ k → k ≡ (if nat_lt gone (k + 1) then k + 1 - 1 else k + 1)
moved_place gone k le = grind (arith, nat_tests)

moved_standings : (undecided : ℕ → ℕ) (gone k : ℕ) (links : List ℕ) → gone ≤ k → standings undecided k links ≡ map (moved_up gone) (standings undecided (k + 1) links)
moved_standings undecided gone k [] le = refl
moved_standings undecided gone k (c ∷ links) le =
    ap (λ n. record { undecided = undecided c; place = n; link = c } ∷ standings undecided (k + 1) links) (moved_place gone k le)
    ∙ ap (λ more. moved_up gone (record { undecided = undecided c; place = k + 1; link = c }) ∷ more) (moved_standings undecided gone (k + 1) links (omega (arith, le)))

stays_place : (gone k : ℕ) → k < gone → k ≡ (if nat_lt gone k then k - 1 else k)
stays_place gone k lt = grind (arith, nat_tests)

module _ (undecided later : ℕ → ℕ) (link : ℕ) (off : (x : ℕ) → (x == link) ≡ false → later x ≡ undecided x) where
  pub standings_off : (k : ℕ) (links : List ℕ) → list_any (λ x. x == link) links ≡ false → standings later k links ≡ standings undecided k links
  standings_off k [] none = refl
  standings_off k (c ∷ links) none =
      let apart = neither (c == link) (list_any (λ x. x == link) links) none in
      λ i. record { undecided = off c apart.0 i; place = k; link = c } ∷ standings_off (k + 1) links apart.1 i

-- ---- the one of the link apart

record Apart (undecided : ℕ → ℕ) (link : ℕ) (links : List ℕ) (k : ℕ) : Type 0 where
  place : ℕ
  others : List LinkRank
  behind : k ≤ place
  together : (later : ℕ → ℕ) → ((x : ℕ) → (x == link) ≡ false → later x ≡ undecided x)
      → in_order (standings later k links) ≡ put (record { undecided = later link; place = place; link = link }) (in_order others)
  none : list_any (is_of link) others ≡ false
  alone : list_all (λ s. not (s.place == place)) others ≡ true
  closed : standings undecided k (filter (λ on. not (on == link)) links) ≡ map (moved_up place) others

module _ (undecided : ℕ → ℕ) (link : ℕ) where
  apart_first : (c k : ℕ) (links : List ℕ) → (c == link) ≡ true → list_any (λ x. x == c) links ≡ false → Apart undecided link (c ∷ links) k
  apart_first c k links is none =
      let same : c ≡ link = eqb-true c link is in
      let nowhere : list_any (λ x. x == link) links ≡ false = subst (λ n. list_any (λ x. x == n) links ≡ false) same none in
      record {
        place = k;
        others = standings undecided (k + 1) links;
        behind = omega arith;
        together = λ later off.
            (λ i. put (record { undecided = later (same i); place = k; link = same i }) (in_order (standings_off undecided later link off (k + 1) links nowhere i)));
        none = any_standings undecided link (k + 1) links ∙ nowhere;
        alone = places_above undecided k (k + 1) links (omega arith);
        closed = ap (λ b. standings undecided k (if not b then c ∷ filter (λ on. not (on == link)) links else filter (λ on. not (on == link)) links)) is
            ∙ (ap (standings undecided k) (filter_none link links nowhere) ∙ moved_standings undecided k k links (omega arith));
      }

  apart_later : (c k : ℕ) (links : List ℕ) → (c == link) ≡ false → Apart undecided link links (k + 1) → Apart undecided link (c ∷ links) k
  apart_later c k links other rest = record {
    place = rest.place;
    others = record { undecided = undecided c; place = k; link = c } ∷ rest.others;
    behind = let at = rest.behind in omega (arith, at);
    together = λ later off.
        ap (put (record { undecided = later c; place = k; link = c })) (rest.together later off)
        ∙ (put-put (record { undecided = later c; place = k; link = c }) (record { undecided = later link; place = rest.place; link = link }) (in_order rest.others)
        ∙ ap (λ n. put (record { undecided = later link; place = rest.place; link = link }) (put (record { undecided = n; place = k; link = c }) (in_order rest.others))) (off c other));
    none = ap (λ b. b || list_any (is_of link) rest.others) other ∙ rest.none;
    alone = ap (λ b. not b && list_all (λ s. not (s.place == rest.place)) rest.others) (below k rest.place rest.behind) ∙ rest.alone;
    closed = ap (λ b. standings undecided k (if not b then c ∷ filter (λ on. not (on == link)) links else filter (λ on. not (on == link)) links)) other
        ∙ (λ i. record { undecided = undecided c; place = stays_place rest.place k (let at = rest.behind in omega (arith, at)) i; link = c } ∷ rest.closed i);
  }
    where
      below : (k place : ℕ) → k + 1 ≤ place → (k == place) ≡ false
      below k place le = grind (arith, nat_tests)

  apart : (links : List ℕ) (k : ℕ) → are_distinct links ≡ true → list_any (λ x. x == link) links ≡ true → Apart undecided link links k
  apart [] k distinct there = absurd cc
  apart (c ∷ links) k distinct there =
      let parts = both (not (list_any (λ other. other == c) links)) (are_distinct links) distinct in
      by (c == link) refl there (unlike (list_any (λ other. other == c) links) parts.0) (apart links (k + 1) parts.1)
    where
      unlike : (b : Bool) → not b ≡ true → b ≡ false
      unlike true e = absurd cc
      unlike false e = refl

      by : (b : Bool) → (c == link) ≡ b → b || list_any (λ x. x == link) links ≡ true → list_any (λ other. other == c) links ≡ false
          → (list_any (λ x. x == link) links ≡ true → Apart undecided link links (k + 1)) → Apart undecided link (c ∷ links) k
      by true is there none rest = apart_first c k links is none
      by false is there none rest = apart_later c k links is (rest there)

-- ---- what happens to the order of the links of an address

module _ (undecided later : ℕ → ℕ) (link : ℕ) (off : (x : ℕ) → (x == link) ≡ false → later x ≡ undecided x) where
  pub order_same : (links : List ℕ) → list_any (λ x. x == link) links ≡ false → order_of undecided links ≡ order_of later links
  order_same links none = sym (ap in_order (standings_off undecided later link off 0 links none))

  pub order_joined : (links : List ℕ) → list_any (λ x. x == link) links ≡ false → later link ≡ 0
      → put (record { undecided = 0; place = length links; link = link }) (order_of undecided links) ≡ order_of later (links ++ link ∷ [])
  order_joined links none zero =
      sym (ap in_order (standings_last later 0 links link)
      ∙ (in_order-last (standings later 0 links) (record { undecided = later link; place = 0 + length links; link = link })
      ∙ (λ i. put (record { undecided = zero i; place = from_zero (length links) i; link = link }) (in_order (standings_off undecided later link off 0 links none i)))))
    where
      from_zero : (n : ℕ) → 0 + n ≡ n
      from_zero n = omega arith

  off_same : (x : ℕ) → (x == link) ≡ false → undecided x ≡ undecided x
  off_same x other = refl

  none_in_order : (links : List ℕ) → list_any (λ x. x == link) links ≡ false → list_any (is_of link) (order_of undecided links) ≡ false
  none_in_order links none = any_in_order (is_of link) (standings undecided 0 links) ∙ (any_standings undecided link 0 links ∙ none)

  itself : (link == link) ≡ true
  itself = grind (arith, nat_tests)

  pub order_stood : (links : List ℕ) → are_distinct links ≡ true
      → put_back (later link) (find (is_of link) (order_of undecided links)) (without link (order_of undecided links)) ≡ order_of later links
  order_stood links distinct = by (list_any (λ x. x == link) links) refl
    where
      by : (b : Bool) → list_any (λ x. x == link) links ≡ b
          → put_back (later link) (find (is_of link) (order_of undecided links)) (without link (order_of undecided links)) ≡ order_of later links
      by false none =
          (λ i. put_back (later link) (find_none link (order_of undecided links) (none_in_order links none) i) (without_none link (order_of undecided links) (none_in_order links none) i))
          ∙ order_same links none
      by true there =
          let a = apart undecided link links 0 distinct there in
          let x : LinkRank = record { undecided = undecided link; place = a.place; link = link } in
          let none : list_any (is_of link) (in_order a.others) ≡ false = any_in_order (is_of link) a.others ∙ a.none in
          let was = a.together undecided off_same in
          (λ i. put_back (later link) (find (is_of link) (was i)) (without link (was i)))
          ∙ ((λ i. put_back (later link) (find_put link x (in_order a.others) itself none i) (without_put link x (in_order a.others) itself none i))
          ∙ sym (a.together later off))

  pub order_left : (links : List ℕ) → are_distinct links ≡ true
      → closed_up (find (is_of link) (order_of undecided links)) (without link (order_of undecided links)) ≡ order_of later (filter (λ on. not (on == link)) links)
  order_left links distinct = by (list_any (λ x. x == link) links) refl
    where
      by : (b : Bool) → list_any (λ x. x == link) links ≡ b
          → closed_up (find (is_of link) (order_of undecided links)) (without link (order_of undecided links)) ≡ order_of later (filter (λ on. not (on == link)) links)
      by false none =
          (λ i. closed_up (find_none link (order_of undecided links) (none_in_order links none) i) (without_none link (order_of undecided links) (none_in_order links none) i))
          ∙ (order_same links none ∙ sym (ap (order_of later) (filter_none link links none)))
      by true there =
          let a = apart undecided link links 0 distinct there in
          let x : LinkRank = record { undecided = undecided link; place = a.place; link = link } in
          let none : list_any (is_of link) (in_order a.others) ≡ false = any_in_order (is_of link) a.others ∙ a.none in
          let was = a.together undecided off_same in
          (λ i. closed_up (find (is_of link) (was i)) (without link (was i)))
          ∙ ((λ i. closed_up (find_put link x (in_order a.others) itself none i) (without_put link x (in_order a.others) itself none i))
          ∙ (sym (in_order_moved a.place a.others a.alone)
          ∙ (ap in_order (sym a.closed) ∙ order_same (filter (λ on. not (on == link)) links) (none_without link links))))
