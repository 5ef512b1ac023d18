-- What happens to the links of consumers, and to the lines of their addresses.
use Rattle.std.proofs.Common.{◌≡◌, ◌∙◌, refl, sym, ap, subst, ℕ, Bool, true, false, cond, not, ◌&&◌, ◌||◌, List, [], ◌∷◌, ◌++◌, length, Option, Some, None, option_map, find, filter, ◌⊎◌, inl, inr, arith, bytes_eq, if◌then◌else◌, ◌==◌}
use Rattle.std.specs.List.{list_any, list_all}
use Rattle.std.proofs.lemmas.Bool.{eqb-true}
use Rattle.std.proofs.lemmas.Bool.Decides.{nat_tests}
use Rattle.std.proofs.lemmas.Slice.Eq.{bytes_eq-Decides}
use Rattle.flow_counts.specs.Picks.{Consumer, attached, balanced_rank, is_at}
use Rattle.address_table.specs.declared.address_links.LinkRank.{LinkRank}
use Rattle.address_table.specs.AddressLinks.{are_distinct, Line, IsLine, at_first, emptied, joined, left, order_of, stood, put, put_back, closed_up, is_of, without}
use Rattle.address_table.proofs.Apart.{none_without, order_same, order_joined, order_stood, order_left}

same_address : (xs ys : List ℕ) → bytes_eq xs ys ≡ true → xs ≡ ys
same_address xs ys e = (bytes_eq-Decides xs ys).0 e

-- ---- lists without a link

neither : (a b : Bool) → a || b ≡ false → (a ≡ false) × (b ≡ false)
neither true b e = absurd cc
neither false b e = (refl, e)

both : (a b : Bool) → a && b ≡ true → (a ≡ true) × (b ≡ true)
both true b e = (refl, e)
both false b e = absurd cc

-- one that fails a test that all pass is not among them
not_there : (test : ℕ → Bool) (link : ℕ) (links : List ℕ) → list_all test links ≡ true → test link ≡ false → list_any (λ x. x == link) links ≡ false
not_there test link [] all fails = refl
not_there test link (c ∷ links) all fails =
    let parts = both (test c) (list_all test links) all in
    by (c == link) refl parts.0 (not_there test link links parts.1 fails)
  where
    by : (b : Bool) → (c == link) ≡ b → test c ≡ true → list_any (λ x. x == link) links ≡ false → b || list_any (λ x. x == link) links ≡ false
    by true is passes rest = let never : true ≡ false = sym passes ∙ (ap test (eqb-true c link is) ∙ fails) in absurd cc
    by false is passes rest = rest

module _ (test later : ℕ → Bool) (link : ℕ) (off : (x : ℕ) → (x == link) ≡ false → later x ≡ test x) where
  all_off : (links : List ℕ) → list_any (λ x. x == link) links ≡ false → list_all later links ≡ list_all test links
  all_off [] none = refl
  all_off (c ∷ links) none =
      let apart = neither (c == link) (list_any (λ x. x == link) links) none in
      λ i. off c apart.0 i && all_off links apart.1 i

all_last : (test : ℕ → Bool) (links : List ℕ) (link : ℕ) → list_all test links ≡ true → test link ≡ true → list_all test (links ++ link ∷ []) ≡ true
all_last test [] link all passes = ap (λ b. b && true) passes
all_last test (c ∷ links) link all passes =
    let parts = both (test c) (list_all test links) all in
    ap (λ b. b && list_all test (links ++ link ∷ [])) parts.0 ∙ all_last test links link parts.1 passes

all_filter : (test keep : ℕ → Bool) (links : List ℕ) → list_all test links ≡ true → list_all test (filter keep links) ≡ true
all_filter test keep [] all = refl
all_filter test keep (c ∷ links) all =
    let parts = both (test c) (list_all test links) all in
    by (keep c) parts.0 (all_filter test keep links parts.1)
  where
    by : (b : Bool) → test c ≡ true → list_all test (filter keep links) ≡ true → list_all test (if b then c ∷ filter keep links else filter keep links) ≡ true
    by true passes rest = ap (λ b. b && list_all test (filter keep links)) passes ∙ rest
    by false passes rest = rest

any_last : (test : ℕ → Bool) (links : List ℕ) (link : ℕ) → list_any test links ≡ false → test link ≡ false → list_any test (links ++ link ∷ []) ≡ false
any_last test [] link none fails = ap (λ b. b || false) fails
any_last test (c ∷ links) link none fails =
    let apart = neither (test c) (list_any test links) none in
    ap (λ b. b || list_any test (links ++ link ∷ [])) apart.0 ∙ any_last test links link apart.1 fails

any_filter : (test keep : ℕ → Bool) (links : List ℕ) → list_any test links ≡ false → list_any test (filter keep links) ≡ false
any_filter test keep [] none = refl
any_filter test keep (c ∷ links) none =
    let apart = neither (test c) (list_any test links) none in
    by (keep c) apart.0 (any_filter test keep links apart.1)
  where
    by : (b : Bool) → test c ≡ false → list_any test (filter keep links) ≡ false → list_any test (if b then c ∷ filter keep links else filter keep links) ≡ false
    by true fails rest = ap (λ b. b || list_any test (filter keep links)) fails ∙ rest
    by false fails rest = rest

unlike : (b : Bool) → not b ≡ true → b ≡ false
unlike true e = absurd cc
unlike false e = refl

pub turned : (a b : ℕ) (c : Bool) → (a == b) ≡ c → (b == a) ≡ c
turned a b c e = sym (by a b) ∙ e
  where
    by : (a b : ℕ) → (a == b) ≡ (b == a)
    by a b = grind (arith, nat_tests)

distinct_last : (links : List ℕ) (link : ℕ) → are_distinct links ≡ true → list_any (λ x. x == link) links ≡ false → are_distinct (links ++ link ∷ []) ≡ true
distinct_last [] link distinct none = refl
distinct_last (c ∷ links) link distinct none =
    let parts = both (not (list_any (λ other. other == c) links)) (are_distinct links) distinct in
    let apart = neither (c == link) (list_any (λ x. x == link) links) none in
    (λ i. not (any_last (λ other. other == c) links link (unlike (list_any (λ other. other == c) links) parts.0) (turned c link false apart.0) i) && are_distinct (links ++ link ∷ []))
    ∙ distinct_last links link parts.1 apart.1

distinct_filter : (keep : ℕ → Bool) (links : List ℕ) → are_distinct links ≡ true → are_distinct (filter keep links) ≡ true
distinct_filter keep [] distinct = refl
distinct_filter keep (c ∷ links) distinct =
    let parts = both (not (list_any (λ other. other == c) links)) (are_distinct links) distinct in
    by (keep c) (unlike (list_any (λ other. other == c) links) parts.0) (distinct_filter keep links parts.1)
  where
    by : (b : Bool) → list_any (λ other. other == c) links ≡ false → are_distinct (filter keep links) ≡ true → are_distinct (if b then c ∷ filter keep links else filter keep links) ≡ true
    by true none rest = (λ i. not (any_filter (λ other. other == c) keep links none i) && are_distinct (filter keep links)) ∙ rest
    by false none rest = rest

-- ---- orders that are kept or not

-- if an order is kept, it is this one
abbrev Keeps : Option (List LinkRank) → List LinkRank → Type 0
Keeps kept right = kept ≡ option_map (λ order. right) kept

moved : (change : List LinkRank → List LinkRank) (kept : Option (List LinkRank)) (before behind : List LinkRank) → change before ≡ behind
    → Keeps kept before → Keeps (option_map change kept) behind
moved change None before behind step is = refl
moved change (Some order) before behind step is = ap (option_map change) is ∙ ap (λ xs. Some xs) step

kept_if : (b : Bool) (kept : Option (List LinkRank)) (right : List LinkRank) → Keeps kept right → Keeps (if b then kept else None) right
kept_if true kept right is = is
kept_if false kept right is = refl

same_order : (kept : Option (List LinkRank)) (before behind : List LinkRank) → before ≡ behind → Keeps kept before → Keeps kept behind
same_order None before behind same is = refl
same_order (Some order) before behind same is = is ∙ ap (λ xs. Some xs) same

-- a line is right, too, where it is as if there had been none
emptied_is : (consumer : ℕ → Option Consumer) (address : List ℕ) (line : Line) → IsLine consumer address line → IsLine consumer address (emptied line)
emptied_is consumer address ([], order) is = (refl, refl, refl)
emptied_is consumer address (link ∷ links, order) is = is

-- a line without links is as if there had been none, and one with links stays
pub as_none : (line : Line) → line.0 ≡ [] → ([], Some []) ≡ emptied line
as_none ([], order) none = refl
as_none (link ∷ links, order) none = absurd cc

pub not_emptied : (line : Line) → (line.0 ≡ [] → ⊥) → line ≡ emptied line
not_emptied ([], order) some = absurd (some refl)
not_emptied (link ∷ links, order) some = refl

-- ---- one consumer changes

module _ (consumer later : ℕ → Option Consumer) (link : ℕ) (off : (x : ℕ) → (x == link) ≡ false → later x ≡ consumer x) where
  abbrev undecided : ℕ → ℕ
  undecided x = balanced_rank (consumer x)

  abbrev undecided_later : ℕ → ℕ
  undecided_later x = balanced_rank (later x)

  undecided_off : (x : ℕ) → (x == link) ≡ false → undecided_later x ≡ undecided x
  undecided_off x other = ap balanced_rank (off x other)

  at_off : (address : List ℕ) (x : ℕ) → (x == link) ≡ false → is_at address (later x) ≡ is_at address (consumer x)
  at_off address x other = ap (is_at address) (off x other)

  -- a line without the link stays right
  elsewhere : (address : List ℕ) (line : Line) → is_at address (consumer link) ≡ false → IsLine consumer address line → IsLine later address line
  elsewhere address line away is =
      let none = not_there (λ x. is_at address (consumer x)) link line.0 is.0 away in (
        all_off (λ x. is_at address (consumer x)) (λ x. is_at address (later x)) link (at_off address) line.0 none ∙ is.0,
        is.1,
        same_order line.1 _ _ (order_same undecided undecided_later link undecided_off line.0 none) is.2,
      )

  joins : (is_ordered : Bool) (address : List ℕ) (line : Line) → is_at address (consumer link) ≡ false → is_at address (later link) ≡ true → undecided_later link ≡ 0
      → IsLine consumer address line → IsLine later address (joined is_ordered link line)
  joins is_ordered address line away here zero is =
      let none = not_there (λ x. is_at address (consumer x)) link line.0 is.0 away in (
        all_last (λ x. is_at address (later x)) line.0 link (all_off (λ x. is_at address (consumer x)) (λ x. is_at address (later x)) link (at_off address) line.0 none ∙ is.0) here,
        distinct_last line.0 link is.1 none,
        moved (put (at_first link (length line.0))) (if is_ordered then line.1 else None) (order_of undecided line.0) _
            (order_joined undecided undecided_later link undecided_off line.0 none zero) (kept_if is_ordered line.1 _ is.2),
      )

  leaves : (address : List ℕ) (line : Line) → IsLine consumer address line → IsLine later address (left link line)
  leaves address line is =
      let others : List ℕ = filter (λ on. not (on == link)) line.0 in (
        all_off (λ x. is_at address (consumer x)) (λ x. is_at address (later x)) link (at_off address) others (none_without link line.0)
            ∙ all_filter (λ x. is_at address (consumer x)) (λ on. not (on == link)) line.0 is.0,
        distinct_filter (λ on. not (on == link)) line.0 is.1,
        moved (λ order. closed_up (find (is_of link) order) (without link order)) line.1 (order_of undecided line.0) _
            (order_left undecided undecided_later link undecided_off line.0 is.1) is.2,
      )

  stands : (address : List ℕ) (line : Line) → ((x : ℕ) → is_at address (later x) ≡ is_at address (consumer x)) → IsLine consumer address line
      → IsLine later address (stood link (undecided_later link) line)
  stands address line same is = (
    all_same line.0 ∙ is.0,
    is.1,
    moved (λ order. put_back (undecided_later link) (find (is_of link) order) (without link order)) line.1 (order_of undecided line.0) _
        (order_stood undecided undecided_later link undecided_off line.0 is.1) is.2,
  )
    where
      all_same : (links : List ℕ) → list_all (λ x. is_at address (later x)) links ≡ list_all (λ x. is_at address (consumer x)) links
      all_same [] = refl
      all_same (c ∷ links) = λ i. same c i && all_same links i

  -- ---- the lines of all addresses, where that of one changes with the consumer

  module _ (address : List ℕ) (lines changed : List ℕ → Line) (are : (at : List ℕ) → IsLine consumer at (lines at)) where
    away_from : (at : List ℕ) → bytes_eq at address ≡ false → consumer link ≡ None ⊎ ((c : Consumer) × (consumer link ≡ Some c) × (c.address ≡ address)) → is_at at (consumer link) ≡ false
    away_from at other (inl none) = ap (is_at at) none
    away_from at other (inr some) = ap (is_at at) some.1 ∙ (ap (bytes_eq at) some.2 ∙ other)

    pub lines_joined : (is_ordered : Bool) → ((at : List ℕ) → changed at ≡ (if bytes_eq at address then joined is_ordered link (lines at) else lines at))
        → consumer link ≡ None → (pre_settled : Bool) → later link ≡ Some (attached address pre_settled) → (at : List ℕ) → IsLine later at (changed at)
    lines_joined is_ordered change none pre_settled some at = subst (IsLine later at) (sym (change at)) (by (bytes_eq at address) refl)
      where
        by : (b : Bool) → bytes_eq at address ≡ b → IsLine later at (if b then joined is_ordered link (lines at) else lines at)
        by true is = joins is_ordered at (lines at) (ap (is_at at) none) (ap (is_at at) some ∙ is) (ap balanced_rank some) (are at)
        by false other = elsewhere at (lines at) (away_from at other (inl none)) (are at)

    pub lines_left : ((at : List ℕ) → changed at ≡ (if bytes_eq at address then emptied (left link (lines at)) else lines at))
        → (c : Consumer) → consumer link ≡ Some c → c.address ≡ address → (at : List ℕ) → IsLine later at (changed at)
    lines_left change c some here at = subst (IsLine later at) (sym (change at)) (by (bytes_eq at address) refl)
      where
        by : (b : Bool) → bytes_eq at address ≡ b → IsLine later at (if b then emptied (left link (lines at)) else lines at)
        by true is = emptied_is later at (left link (lines at)) (leaves at (lines at) (are at))
        by false other = elsewhere at (lines at) (away_from at other (inr (c, some, here))) (are at)

    pub lines_stood : (n : ℕ) → ((at : List ℕ) → changed at ≡ (if bytes_eq at address then stood link n (lines at) else lines at))
        → (c d : Consumer) → consumer link ≡ Some c → later link ≡ Some d → d.address ≡ c.address → c.address ≡ address → d.undecided ≡ n
        → (at : List ℕ) → IsLine later at (changed at)
    lines_stood n change c d some next kept here counted at = subst (IsLine later at) (sym (change at)) (by (bytes_eq at address) refl)
      where
        same : (x : ℕ) (b : Bool) → (x == link) ≡ b → is_at at (later x) ≡ is_at at (consumer x)
        same x true is =
            let on = eqb-true x link is in
            ap (λ y. is_at at (later y)) on ∙ (ap (is_at at) next ∙ (ap (bytes_eq at) kept ∙ sym (ap (λ y. is_at at (consumer y)) on ∙ ap (is_at at) some)))
        same x false other = at_off at x other

        by : (b : Bool) → bytes_eq at address ≡ b → IsLine later at (if b then stood link n (lines at) else lines at)
        by true is = subst (λ (m : ℕ). IsLine later at (stood link m (lines at))) (ap balanced_rank next ∙ counted) (stands at (lines at) (λ x. same x (x == link) refl) (are at))
        by false other = elsewhere at (lines at) (away_from at other (inr (c, some, here))) (are at)

-- ---- nothing changes

pub lines_same : (consumer later : ℕ → Option Consumer) (lines changed : List ℕ → Line) → ((x : ℕ) → later x ≡ consumer x) → ((at : List ℕ) → changed at ≡ lines at)
    → ((at : List ℕ) → IsLine consumer at (lines at)) → (at : List ℕ) → IsLine later at (changed at)
lines_same consumer later lines changed same kept are at =
    let consumers : consumer ≡ later = λ i x. sym (same x) i in
    subst (λ (these : ℕ → Option Consumer). IsLine these at (changed at)) consumers (subst (λ (line : Line). IsLine consumer at line) (sym (kept at)) (are at))

-- ---- by what a map of the links has at each

module _ (consumer later : ℕ → Option Consumer) (link : ℕ) (now : Option Consumer) (updates : (x : ℕ) → later x ≡ cond (link == x) now (consumer x)) where
  pub others_kept : (x : ℕ) → (x == link) ≡ false → later x ≡ consumer x
  others_kept x other = updates x ∙ ap (λ b. cond b now (consumer x)) (turned x link false other)

  pub changed_here : later link ≡ now
  changed_here = updates link ∙ ap (λ b. cond b now (consumer link)) itself
    where
      itself : (link == link) ≡ true
      itself = grind (arith, nat_tests)
