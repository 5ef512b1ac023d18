-- What a number's place among runs says of its value.
use Rattle.std.proofs.Common.{◌≡◌, refl, sym, ap, ◌∙◌, ℕ, zero, suc, ◌+◌, ◌-◌, ◌<◌, ◌≤◌, Bool, true, false, ◌&&◌, List, [], ◌∷◌, Option, Some, None, IfSome, IsSomeAnd, ◌↔◌, true≢false, is_none, take, drop, length, nat_le, nat_lt, slice_get, slice_index_or, if◌then◌else◌, arith, subst}
use Rattle.std.specs.List.Sorted.{IsPartitionPoint, IsPartitionedBy}
use Rattle.std.proofs.lemmas.Bool.Decides.{nat_tests}
use Rattle.std.proofs.lemmas.Option.{get_or_from_slice_get}
use Rattle.number_runs.specs.declared.run.Run.{Run}
use Rattle.number_runs.specs.Runs.{AreApart, BeginBehind, EndBefore, EndFrom, encloses, value_in}

leq : (a b : ℕ) → nat_le a b ≡ true → a ≤ b
leq a b is = grind (arith, nat_tests)

less : (a b : ℕ) → nat_le a b ≡ false → b < a
less a b is = grind (arith, nat_tests)

leq-true : (a b : ℕ) → a ≤ b → nat_le a b ≡ true
leq-true a b is = grind (arith, nat_tests)

leq-false : (a b : ℕ) → b < a → nat_le a b ≡ false
leq-false a b is = grind (arith, nat_tests)

lt : (a b : ℕ) → nat_lt a b ≡ true → a < b
lt a b is = grind (arith, nat_tests)

not-lt : (a b : ℕ) → nat_lt a b ≡ false → b ≤ a
not-lt a b is = grind (arith, nat_tests)

lt-true : (a b : ℕ) → a < b → nat_lt a b ≡ true
lt-true a b is = grind (arith, nat_tests)

both : (a b : Bool) → a && b ≡ true → (a ≡ true) × (b ≡ true)
both true b is = (refl, is)
both false b is = absurd cc

and-false : (a b : Bool) → b ≡ false → a && b ≡ false
and-false true b is = is
and-false false b is = refl

module _ {V : Type 0} where
  -- ---- whether a run encloses a number

  pub inside : (run : Run V) (n : ℕ) → encloses run n ≡ true → (run.first ≤ n) × (n ≤ run.last)
  inside run n is = let parts = both (nat_le run.first n) (nat_le n run.last) is in (leq run.first n parts.0, leq n run.last parts.1)

  pub enclosed : (run : Run V) (n : ℕ) → run.first ≤ n → n ≤ run.last → encloses run n ≡ true
  enclosed run n from to = ap (λ b. b && nat_le n run.last) (leq-true run.first n from) ∙ leq-true n run.last to

  pub past : (run : Run V) (n : ℕ) → run.last < n → encloses run n ≡ false
  past run n is = and-false (nat_le run.first n) (nat_le n run.last) (leq-false n run.last is)

  pub early : (run : Run V) (n : ℕ) → n < run.first → encloses run n ≡ false
  early run n is = ap (λ b. b && nat_le n run.last) (leq-false run.first n is)

  -- ---- the value of a number

  pub at_run : (run : Run V) (runs : List (Run V)) (n : ℕ) → encloses run n ≡ true → value_in (run ∷ runs) n ≡ Some run.value
  at_run run runs n is = ap (λ b. if b then Some run.value else value_in runs n) is

  pub beyond : (run : Run V) (runs : List (Run V)) (n : ℕ) → encloses run n ≡ false → value_in (run ∷ runs) n ≡ value_in runs n
  beyond run runs n is = ap (λ b. if b then Some run.value else value_in runs n) is

  -- none before the first run
  pub none_from : (from : ℕ) (runs : List (Run V)) (n : ℕ) → AreApart from runs → n < from → value_in runs n ≡ None
  none_from from [] n apart low = refl
  none_from from (run ∷ runs) n apart low =
      let begins = apart.0 in
      let ends = apart.1 in
      beyond run runs n (early run n (omega (arith, begins, low)))
      ∙ none_from (run.last + 1) runs n apart.2 (omega (arith, begins, ends, low))

  pub none_behind : (number : ℕ) (runs : List (Run V)) (n : ℕ) → BeginBehind number runs → n ≤ number → value_in runs n ≡ None
  none_behind number [] n behind low = refl
  none_behind number (run ∷ runs) n behind low =
      let begins = behind.0 in
      beyond run runs n (early run n (omega (arith, begins, low))) ∙ none_behind number runs n behind.1 low

  -- the run at the place begins with the number or before it
  pub found : (number : ℕ) (runs : List (Run V)) (place : ℕ) (run : Run V) → EndBefore number (take place runs) → EndFrom number (drop place runs)
      → slice_get runs place ≡ Some run → run.first ≤ number → value_in runs number ≡ Some run.value
  found number [] place run before from at begins = absurd cc
  found number (r ∷ runs) zero run before from at begins =
      let same : r ≡ run = cc in
      subst (λ x. value_in (r ∷ runs) number ≡ Some x.value) same (at_run r runs number (enclosed r number (subst (λ x. x.first ≤ number) (sym same) begins) from.0))
  found number (r ∷ runs) (suc place) run before from at begins =
      beyond r runs number (past r number before.0) ∙ found number runs place run before.1 from at begins

  -- it begins behind it, or there is none
  pub missed : (number from : ℕ) (runs : List (Run V)) (place : ℕ) → AreApart from runs → EndBefore number (take place runs)
      → IfSome (slice_get runs place) (λ run. number < run.first) → value_in runs number ≡ None
  missed number from [] place apart before begins = refl
  missed number from (r ∷ runs) zero apart before begins =
      let ends = apart.1 in
      beyond r runs number (early r number begins) ∙ none_from (r.last + 1) runs number apart.2 (omega (arith, begins, ends))
  missed number from (r ∷ runs) (suc place) apart before begins =
      beyond r runs number (past r number before.0) ∙ missed number (r.last + 1) runs place apart.2 before.1 begins

  all_behind : (number from : ℕ) (runs : List (Run V)) → AreApart from runs → number < from → BeginBehind number runs
  all_behind number from [] apart low = tt
  all_behind number from (r ∷ runs) apart low =
      let begins = apart.0 in
      let ends = apart.1 in
      (omega (arith, begins, low), all_behind number (r.last + 1) runs apart.2 (omega (arith, begins, ends, low)))

  pub behind_place : (number from : ℕ) (runs : List (Run V)) (place : ℕ) → AreApart from runs
      → IfSome (slice_get runs place) (λ run. number < run.first) → BeginBehind number (drop place runs)
  behind_place number from [] zero apart begins = tt
  behind_place number from [] (suc place) apart begins = tt
  behind_place number from (r ∷ runs) zero apart begins =
      let ends = apart.1 in (begins, all_behind number (r.last + 1) runs apart.2 (omega (arith, begins, ends)))
  behind_place number from (r ∷ runs) (suc place) apart begins = behind_place number (r.last + 1) runs place apart.2 begins

  -- ---- the place itself

  ends_from : (from : ℕ) (runs : List (Run V)) → AreApart from runs → (j : ℕ) (d : Run V) → j < length runs → from ≤ (slice_index_or runs j d).last
  ends_from from [] apart j d within = absurd (omega (arith, within))
  ends_from from (r ∷ runs) apart zero d within = let begins = apart.0 in let ends = apart.1 in omega (arith, begins, ends)
  ends_from from (r ∷ runs) apart (suc j) d within =
      let begins = apart.0 in
      let ends = apart.1 in
      let later = ends_from (r.last + 1) runs apart.2 j d (omega (arith, within)) in omega (arith, begins, ends, later)

  pub rising : (from : ℕ) (runs : List (Run V)) → AreApart from runs → (i j : ℕ) (d : Run V) → i ≤ j → j < length runs
      → (slice_index_or runs i d).last ≤ (slice_index_or runs j d).last
  rising from [] apart i j d le within = absurd (omega (arith, within))
  rising from (r ∷ runs) apart zero zero d le within = omega arith
  rising from (r ∷ runs) apart zero (suc j) d le within = let later = ends_from (r.last + 1) runs apart.2 j d (omega (arith, within)) in omega (arith, later)
  rising from (r ∷ runs) apart (suc i) zero d le within = absurd (omega (arith, le))
  rising from (r ∷ runs) apart (suc i) (suc j) d le within = rising (r.last + 1) runs apart.2 i j d (omega (arith, le)) (omega (arith, within))

  pub before_place : (number : ℕ) (runs : List (Run V)) (place : ℕ) → place ≤ length runs → ((k : ℕ) (d : Run V) → k < place → (slice_index_or runs k d).last < number)
      → EndBefore number (take place runs)
  before_place number [] zero within each = tt
  before_place number [] (suc place) within each = tt
  before_place number (r ∷ runs) zero within each = tt
  before_place number (r ∷ runs) (suc place) within each =
      (each 0 r (omega arith), before_place number runs place (omega (arith, within)) (λ k d lt. each (suc k) d (omega (arith, lt))))

  pub from_place : (number : ℕ) (runs : List (Run V)) (place : ℕ) → ((k : ℕ) (d : Run V) → place ≤ k → k < length runs → number ≤ (slice_index_or runs k d).last)
      → EndFrom number (drop place runs)
  from_place number [] zero each = tt
  from_place number [] (suc place) each = tt
  from_place number (r ∷ runs) zero each = (each 0 r (omega arith) (omega arith), from_place number runs zero (λ k d le within. each (suc k) d (omega arith) (omega (arith, within))))
  from_place number (r ∷ runs) (suc place) each = from_place number runs place (λ k d le within. each (suc k) d (omega (arith, le)) (omega (arith, within)))

  pub parted : (number from : ℕ) (runs : List (Run V)) → AreApart from runs → IsPartitionedBy (λ run. nat_lt run.last number) runs
  parted number from runs apart i j d le within is =
      let low = lt (slice_index_or runs j d).last number is in
      let rise = rising from runs apart i j d le within in
      lt-true (slice_index_or runs i d).last number (omega (arith, low, rise))

  module _ (number : ℕ) (runs : List (Run V)) (place : ℕ)
      (point : IsPartitionPoint (λ (run : Run V). nat_lt run.last number ≡ true) (λ (run : Run V). nat_lt run.last number ≡ false) runs place) where
    pub point-before : place ≤ length runs → EndBefore number (take place runs)
    point-before within = before_place number runs place within (λ k d below. lt (slice_index_or runs k d).last number (point.0 k d (omega arith) below))

    pub point-from : EndFrom number (drop place runs)
    point-from = from_place number runs place (λ k d le within. not-lt (slice_index_or runs k d).last number (point.1 k d le within))

  -- behind all of them
  pub all_before : (number : ℕ) (runs : List (Run V)) (run : Run V) → AreApart 0 runs → slice_get runs (length runs - 1) ≡ Some run → run.last < number
      → EndBefore number (take (length runs) runs)
  all_before number runs run apart is low =
      before_place number runs (length runs) (omega arith)
      (λ k d below. let rise = rising 0 runs apart k (length runs - 1) d (omega (arith, below)) (omega (arith, below)) in
      let last : (slice_index_or runs (length runs - 1) d).last ≡ run.last = ap (λ (r : Run V). r.last) (get_or_from_slice_get runs (length runs - 1) run d is) in
      omega (arith, rise, last, low))

  -- ---- whether the run at the place begins with the number or before it

  pub not_begun : (number : ℕ) (o : Option (Run V)) → (false ≡ true ↔ IsSomeAnd o (λ run. run.first ≤ number)) → IfSome o (λ run. number < run.first)
  not_begun number None is = tt
  not_begun number (Some run) is = by (nat_le run.first number) refl
    where
      by : (b : Bool) → nat_le run.first number ≡ b → number < run.first
      by true begun = absurd (true≢false (sym (is.1 (leq run.first number begun))))
      by false later = less run.first number later

  pub taken : (number : ℕ) (runs : List (Run V)) (place : ℕ) → EndBefore number (take place runs) → EndFrom number (drop place runs)
      → IsSomeAnd (slice_get runs place) (λ run. run.first ≤ number) → is_none (value_in runs number) ≡ false
  taken number runs place before from begins = by (slice_get runs place) refl begins
    where
      by : (o : Option (Run V)) → slice_get runs place ≡ o → IsSomeAnd o (λ run. run.first ≤ number) → is_none (value_in runs number) ≡ false
      by None is begins = absurd begins
      by (Some run) is begins = ap is_none (found number runs place run before from is begins)
