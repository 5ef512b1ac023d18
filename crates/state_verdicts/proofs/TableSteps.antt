-- What the steps of the table do to its numbers.
use Rattle.std.proofs.Common.{◌≡◌, refl, sym, ap, ◌∙◌, ℕ, ◌+◌, ◌-◌, ◌≤◌, ◌<◌, Bool, true, false, ◌&&◌, ◌||◌, not, List, [], ◌∷◌, length, map, take, get_or, Some, None, inl, inr, nat_eq, ◌==◌, arith, eqb-true, eq-eqb}
use Rattle.std.specs.Prelude.{Contains}
use Rattle.std.specs.List.{AllByRecursion, IsDistinct, list_any, slice_get}
use Rattle.std.proofs.lemmas.Cmp.{nat_eq_equiv}
use Rattle.std.proofs.lemmas.List.Folds.{list_any_more}
use Rattle.std.proofs.lemmas.Map.Made.{length-le_from_is_member}
use Rattle.number_groups.specs.Numbers.{is_among}
use Rattle.trace_events.proofs.WaitingQueue.{contains_first, contains_later, contains_cases, contains_none}

pub and_false : (b : Bool) → b && false ≡ false
and_false true = refl
and_false false = refl

pub and_true : (b : Bool) → b && true ≡ b
and_true true = refl
and_true false = refl

pub or_false : (b : Bool) → b || false ≡ b
or_false true = refl
or_false false = refl

pub and_swapped : (a b : Bool) → a && b ≡ b && a
and_swapped true true = refl
and_swapped true false = refl
and_swapped false true = refl
and_swapped false false = refl

-- two answers that follow from each other are the same
pub both-ways : (a b : Bool) → (a ≡ true → b ≡ true) → (b ≡ true → a ≡ true) → a ≡ b
both-ways true b there back = sym (there refl)
both-ways false true there back = back refl
both-ways false false there back = refl

-- ---- what a test finds in a list

module _ {X : Type 0} (test : X → Bool) where
  pub any-gives : (xs : List X) (x : X) → Contains xs x → test x ≡ true → list_any test xs ≡ true
  any-gives [] x there is = contains_none x there
  any-gives (y ∷ xs) x there is = elim (contains_cases y xs x there) [
    | inl same ↦ ap (λ b. b || list_any test xs) (ap test same ∙ is)
    | inr later ↦ last (test y) (list_any test xs) (any-gives xs x later is)
  ]
    where
      last : (a b : Bool) → b ≡ true → a || b ≡ true
      last true b is = refl
      last false b is = is

  pub any-from : (xs : List X) → list_any test xs ≡ true → (x : X) × (Contains xs x × (test x ≡ true))
  any-from [] is = absurd cc
  any-from (y ∷ xs) is = by (test y) refl is (any-from xs)
    where
      by : (b : Bool) → test y ≡ b → b || list_any test xs ≡ true → (list_any test xs ≡ true → (x : X) × (Contains xs x × (test x ≡ true))) → (x : X) × (Contains (y ∷ xs) x × (test x ≡ true))
      by true passes any rest = (y, (contains_first y xs, passes))
      by false passes any rest = let found = rest any in (found.0, (contains_later y xs found.0 found.1.0, found.1.1))

-- of what is made of each element
pub any-map : {A B : Type 0} (f : A → B) (test : B → Bool) (xs : List A) → list_any (λ x. test (f x)) xs ≡ list_any test (map f xs)
any-map f test [] = refl
any-map f test (x ∷ xs) = ap (λ b. test (f x) || b) (any-map f test xs)

-- ---- one element more

-- of those that come in, and of those that go
module _ {X : Type 0} (test : X → Bool) (xs : List X) (i : ℕ) (x : X) (below : i < length xs) where
  abbrev it : Bool
  it = test (get_or xs i x)

  pub one-comes : (old now then_ : Bool) → now ≡ (old || list_any test (take i xs)) → then_ ≡ (now || it) → then_ ≡ (old || list_any test (take (i + 1) xs))
  one-comes old now then_ was moved = moved ∙ (ap (λ b. b || it) was ∙ (by old (list_any test (take i xs)) it ∙ ap (λ b. old || b) (sym (list_any_more test xs i x below))))
    where
      by : (a b c : Bool) → (a || b) || c ≡ a || (b || c)
      by true b c = refl
      by false b c = refl

  pub one-goes : (old now then_ : Bool) → now ≡ (old && not (list_any test (take i xs))) → then_ ≡ (now && not it) → then_ ≡ (old && not (list_any test (take (i + 1) xs)))
  one-goes old now then_ was moved = moved ∙ (ap (λ b. b && not it) was ∙ (by old (list_any test (take i xs)) it ∙ ap (λ b. old && not b) (sym (list_any_more test xs i x below))))
    where
      by : (a b c : Bool) → (a && not b) && not c ≡ a && not (b || c)
      by false b c = refl
      by true true c = refl
      by true false c = refl

-- a number joins the delivery's, for one link more
pub one-awaited : (links : List ℕ) (i : ℕ) (x : ℕ) → i < length links → (link : ℕ) (of old now then_ : Bool) → now ≡ (of && list_any (λ m. m == link) (take i links) || old)
    → then_ ≡ (get_or links i x == link && of || now) → then_ ≡ (of && list_any (λ m. m == link) (take (i + 1) links) || old)
one-awaited links i x below link of old now then_ was moved =
    moved
    ∙ (ap (λ b. get_or links i x == link && of || b) was
    ∙ (by of (list_any (λ m. m == link) (take i links)) (get_or links i x == link) old
    ∙ ap (λ b. of && b || old) (sym (list_any_more (λ (m : ℕ). m == link) links i x below))))
  where
    by : (a b c d : Bool) → c && a || (a && b || d) ≡ a && (b || c) || d
    by true true true d = refl
    by true true false d = refl
    by true false true d = refl
    by true false false d = refl
    by false b true d = refl
    by false b false d = refl

-- it joins the other way round
pub mirrored-joined : (a b was on of_now on_now : Bool) → of_now ≡ (a && b || was) → was ≡ on → on_now ≡ (b && a || on) → of_now ≡ on_now
mirrored-joined a b was on of_now on_now of same is = of ∙ (ap (λ x. x || was) (and_swapped a b) ∙ (ap (λ x. b && a || x) same ∙ sym is))

-- a link more ends: what awaited its verdict there before has it
module _ {X : Type 0} (number : X → ℕ) (links : List X) (i : ℕ) (x : X) (below : i < length links) (awaits : ℕ → Bool) where
  abbrev this : ℕ
  this = number (get_or links i x)

  abbrev some : Bool
  some = list_any (λ y. awaits (number y)) (take i links)

  had_already : list_any (λ y. number y == this) (take i links) ≡ true → awaits this ≡ true → some ≡ true
  had_already ended waits =
      let y = any-from (λ (y : X). number y == this) (take i links) ended in
      any-gives (λ (y : X). awaits (number y)) (take i links) y.0 y.1.0 (ap awaits (eqb-true (number y.0) this y.1.1) ∙ waits)

  pub one-modified : (is old now then_ left : Bool) → now ≡ (old || is && some) → left ≡ (awaits this && not (list_any (λ y. number y == this) (take i links)))
      → then_ ≡ (now || is && left) → then_ ≡ (old || is && list_any (λ y. awaits (number y)) (take (i + 1) links))
  one-modified is old now then_ left was stays moved =
      moved
      ∙ (ap (λ b. b || is && left) was
      ∙ (ap (λ b. (old || is && some) || is && b) stays
      ∙ (by old is some (awaits this) (list_any (λ y. number y == this) (take i links)) (λ ended waits. had_already ended waits)
      ∙ ap (λ b. old || is && b) (sym (list_any_more (λ (y : X). awaits (number y)) links i x below)))))
    where
      by : (o m s w e : Bool) → (e ≡ true → w ≡ true → s ≡ true) → (o || m && s) || m && (w && not e) ≡ o || m && (s || w)
      by true m s w e told = refl
      by false false s w e told = refl
      by false true true w e told = refl
      by false true false false e told = refl
      by false true false true false told = refl
      by false true false true true told = absurd (let never : false ≡ true = told refl refl in cc)

-- ---- one number less

apart : (n : ℕ) (ns : List ℕ) → is_among ns n ≡ false → AllByRecursion (λ y. nat_eq n y ≡ false) ns
apart n [] off = tt
apart n (m ∷ ns) off = by (nat_eq n m) refl off (apart n ns)
  where
    by : (b : Bool) → nat_eq n m ≡ b → b || is_among ns n ≡ false → (is_among ns n ≡ false → AllByRecursion (λ y. nat_eq n y ≡ false) ns) → (nat_eq n m ≡ false) × AllByRecursion (λ y. nat_eq n y ≡ false) ns
    by true is off rest = absurd cc
    by false is off rest = (is, rest off)

added-distinct : (n : ℕ) (ns : List ℕ) → is_among ns n ≡ false → IsDistinct nat_eq ns → IsDistinct nat_eq (n ∷ ns)
unfolding IsDistinct
added-distinct n ns off each = (apart n ns off, each)

pub first-there : (ns : List ℕ) (n : ℕ) → Some n ≡ slice_get ns 0 → is_among ns n ≡ true
first-there [] n is = absurd cc
first-there (m ∷ ns) n is = let same : n ≡ m = cc in ap (λ b. b || is_among ns n) (eq-eqb n m same)

none-first : (ns : List ℕ) → None ≡ slice_get ns 0 → length ns ≡ 0
none-first [] is = refl
none-first (m ∷ ns) is = absurd cc

pub one-fewer : (old new : List ℕ) (number count : ℕ) → IsDistinct nat_eq new → Some number ≡ slice_get old 0 → ((n : ℕ) → is_among new n ≡ (is_among old n && not (number == n))) → count ≡ length new
    → count ≤ length old - 1
one-fewer old new number count each first left is =
    let gone : is_among new number ≡ false = left number ∙ (ap (λ b. is_among old number && not b) (eq-eqb number number refl) ∙ and_false (is_among old number)) in
    let le : length (number ∷ new) ≤ length old = length-le_from_is_member nat_eq_equiv (number ∷ new) old (added-distinct number new gone each) within in
    omega (arith, le, is)
  where
    of_left : (b : Bool) (n : ℕ) → is_among new n ≡ (is_among old n && b) → is_among new n ≡ true → is_among old n ≡ true
    of_left true n is there = sym (and_true (is_among old n)) ∙ (sym is ∙ there)
    of_left false n is there = let never : true ≡ false = sym there ∙ (is ∙ and_false (is_among old n)) in absurd cc

    by : (n : ℕ) → (b : Bool) → nat_eq n number ≡ b → b || is_among new n ≡ true → is_among old n ≡ true
    by n true same there = ap (is_among old) (eqb-true n number same) ∙ first-there old number first
    by n false other there = of_left (not (number == n)) n (left n) there

    within : (n : ℕ) → is_among (number ∷ new) n ≡ true → is_among old n ≡ true
    within n there = by n (nat_eq n number) refl there

pub none-fewer : (old : List ℕ) (count : ℕ) → None ≡ slice_get old 0 → count ≡ length old → count ≤ length old - 1
none-fewer old count first is = let none = none-first old first in omega (arith, none, is)

-- ---- a link where nothing is left

pub empty-among : (ns : List ℕ) (n : ℕ) → length ns ≡ 0 → is_among ns n ≡ false
empty-among [] n none = refl
empty-among (m ∷ ns) n none = absurd (omega (arith, none))

pub cleared : (link at : ℕ) (old new : ℕ → Bool) (n : ℕ) → ((link == at) ≡ false → new n ≡ old n) → (link ≡ at → new n ≡ false) → new n ≡ (old n && not (link == at))
cleared link at old new n others own = by (link == at) refl
  where
    by : (b : Bool) → (link == at) ≡ b → new n ≡ (old n && not b)
    by true same = own (eqb-true link at same) ∙ sym (and_false (old n))
    by false other = others other ∙ sym (and_true (old n))

-- ---- a verdict more of what awaited one there

-- a: it awaited one at first, l: it still did, c: it does now
pub step-modified : (is old now then_ a l c : Bool) → now ≡ (old || is && (a && not l)) → then_ ≡ (now || is && (l && not c)) → (c ≡ true → l ≡ true) → (l ≡ true → a ≡ true)
    → then_ ≡ (old || is && (a && not c))
step-modified is old now then_ a l c was moved within before = moved ∙ (ap (λ b. b || is && (l && not c)) was ∙ by old is a l c within before)
  where
    by : (o m a l c : Bool) → (c ≡ true → l ≡ true) → (l ≡ true → a ≡ true) → (o || m && (a && not l)) || m && (l && not c) ≡ o || m && (a && not c)
    by true m a l c within before = refl
    by false false a l c within before = refl
    by false true false true c within before = absurd (let never : false ≡ true = before refl in cc)
    by false true false false c within before = refl
    by false true true true true within before = refl
    by false true true true false within before = refl
    by false true true false true within before = absurd (let never : false ≡ true = within refl in cc)
    by false true true false false within before = refl

-- of one that goes: f: it is the first, which awaits
pub gone-modified : (is old awaits here after : Bool) → (here ≡ true → awaits ≡ true) → after ≡ (awaits && not here) → old || (here && is) ≡ old || is && (awaits && not after)
gone-modified is old awaits here after told left = ap (λ b. old || b) (by is awaits here told ∙ ap (λ b. is && (awaits && not b)) (sym left))
  where
    by : (m a h : Bool) → (h ≡ true → a ≡ true) → h && m ≡ m && (a && not (a && not h))
    by m false true told = absurd (let never : false ≡ true = told refl in cc)
    by true false false told = refl
    by false false false told = refl
    by true true true told = refl
    by false true true told = refl
    by true true false told = refl
    by false true false told = refl

pub same-modified : (is old awaits after : Bool) → after ≡ awaits → old ≡ old || is && (awaits && not after)
same-modified is old awaits after same = by old is awaits ∙ ap (λ b. old || is && (awaits && not b)) (sym same)
  where
    by : (o m a : Bool) → o ≡ o || m && (a && not a)
    by true m a = refl
    by false true true = refl
    by false true false = refl
    by false false a = refl
