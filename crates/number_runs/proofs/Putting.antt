-- One number more has a value: what the runs say then, and that they are apart as before.
use Rattle.std.proofs.Common.{◌≡◌, refl, sym, ap, subst, ◌∙◌, ℕ, zero, suc, ◌+◌, ◌-◌, IsSomeAnd, slice_index_or, ◌<◌, ◌≤◌, Bool, true, false, ◌==◌, List, [], ◌∷◌, ◌++◌, Option, Some, take, drop, set, slice_get, if◌then◌else◌, arith}
use Rattle.std.proofs.lemmas.Bool.Decides.{nat_tests}
use Rattle.number_runs.specs.declared.run.Run.{Run}
use Rattle.number_runs.specs.Runs.{AreApart, BeginBehind, BeginsBeside, EndBefore, EndsBeside, HasBefore, HasBehind, Puts, encloses, value_in}
use Rattle.number_runs.proofs.Places.{at_run, beyond, enclosed, inside}

other : (a b : ℕ) → a < b → (b == a) ≡ false
other a b is = grind (arith, nat_tests)

higher : (a b : ℕ) → a < b → (a == b) ≡ false
higher a b is = grind (arith, nat_tests)

one : (a b : ℕ) → (a == b) ≡ true → a ≡ b
one a b is = grind (arith, nat_tests)

apart-from : (a b : ℕ) → (a == b) ≡ false → (a ≡ b) → ⊥
apart-from a b is same = grind (arith, nat_tests)

module _ {V : Type 0} (number : ℕ) (value : V) where
  abbrev alone : Run V
  alone = record { first = number; last = number; value = value }

  -- the number has the value, and from this number on the runs are apart
  pub record Is (from : ℕ) (old new : List (Run V)) : Type 0 where
    pub puts : Puts number value old new
    pub apart : AreApart from new

  own : (n : ℕ) (o : Option V) → (number == n) ≡ true → (if number == n then Some value else o) ≡ Some value
  own n o is = ap (λ b. if b then Some value else o) is

  unlike : (n : ℕ) (o : Option V) → (number == n) ≡ false → (if number == n then Some value else o) ≡ o
  unlike n o is = ap (λ b. if b then Some value else o) is

  -- a run before the number changes nothing
  under : (from : ℕ) (run : Run V) (old new : List (Run V)) → AreApart from (run ∷ old) → run.last < number → Is (run.last + 1) old new → Is from (run ∷ old) (run ∷ new)
  under from run old new apart low is = record { puts = puts; apart = (apart.0, apart.1, is.apart) }
    where
      by : (n : ℕ) (b : Bool) → encloses run n ≡ b → value_in (run ∷ new) n ≡ (if number == n then Some value else value_in (run ∷ old) n)
      by n true in' =
          let to = (inside run n in').1 in
          at_run run new n in' ∙ sym (unlike n (value_in (run ∷ old) n) (other n number (omega (arith, low, to))) ∙ at_run run old n in')
      by n false out =
          beyond run new n out ∙ (is.puts n ∙ ap (λ o. if number == n then Some value else o) (sym (beyond run old n out)))

      puts : Puts number value (run ∷ old) (run ∷ new)
      puts n = by n (encloses run n) refl

  -- ---- in a run of its own

  alone-apart : (from : ℕ) (runs : List (Run V)) → AreApart from runs → BeginBehind number runs → AreApart (number + 1) runs
  alone-apart from [] apart behind = tt
  alone-apart from (run ∷ runs) apart behind = let begins = behind.0 in (omega (arith, begins), apart.1, apart.2)

  alone-first : (from : ℕ) (runs : List (Run V)) → AreApart from runs → from ≤ number → BeginBehind number runs → Is from runs (alone ∷ runs)
  alone-first from runs apart low behind = record { puts = puts; apart = (low, omega arith, alone-apart from runs apart behind) }
    where
      by : (n : ℕ) (b : Bool) → (number == n) ≡ b → value_in (alone ∷ runs) n ≡ (if number == n then Some value else value_in runs n)
      by n true same =
          let is : number ≡ n = one number n same in
          at_run alone runs n (enclosed alone n (omega (arith, is)) (omega (arith, is))) ∙ sym (own n (value_in runs n) same)
      by n false unlike-n = beyond alone runs n (outside (encloses alone n) refl) ∙ sym (unlike n (value_in runs n) unlike-n)
        where
          outside : (b : Bool) → encloses alone n ≡ b → encloses alone n ≡ false
          outside false is = is
          outside true is = let bounds = inside alone n is in let from' = bounds.0 in let to = bounds.1 in absurd (apart-from number n unlike-n (omega (arith, from', to)))

      puts : Puts number value runs (alone ∷ runs)
      puts n = by n (number == n) refl

  pub inserted : (from : ℕ) (runs : List (Run V)) (place : ℕ) → AreApart from runs → from ≤ number → EndBefore number (take place runs) → BeginBehind number (drop place runs)
      → Is from runs (take place runs ++ alone ∷ drop place runs)
  inserted from [] zero apart low before behind = alone-first from [] apart low behind
  inserted from [] (suc place) apart low before behind = alone-first from [] apart low tt
  inserted from (run ∷ runs) zero apart low before behind = alone-first from (run ∷ runs) apart low behind
  inserted from (run ∷ runs) (suc place) apart low before behind =
      let ends = before.0 in
      under from run runs _ apart ends (inserted (run.last + 1) runs place apart.2 (omega (arith, ends)) before.1 behind)

  -- ---- in the run that ends before it

  abbrev longer : Run V → Run V
  longer run = record run { last = number }

  longer-first : (from : ℕ) (run : Run V) (runs : List (Run V)) → AreApart from (run ∷ runs) → run.last + 1 ≡ number → run.value ≡ value → BeginBehind number runs
      → Is from (run ∷ runs) (longer run ∷ runs)
  longer-first from run runs apart beside same behind =
      let ends = apart.1 in
      record { puts = puts; apart = (apart.0, omega (arith, ends, beside), alone-apart (run.last + 1) runs apart.2 behind) }
    where
      begins : run.first ≤ run.last
      begins = apart.1

      outside : (n : ℕ) → encloses run n ≡ false → (number == n) ≡ false → (b : Bool) → encloses (longer run) n ≡ b → encloses (longer run) n ≡ false
      outside n out unlike-n false is = is
      outside n out unlike-n true is =
          let bounds = inside (longer run) n is in
          let from' = bounds.0 in
          let to = bounds.1 in
          let far : run.last < n = after n (encloses run n) refl out from' in
          absurd (apart-from number n unlike-n (omega (arith, to, far, beside)))
        where
          after : (n : ℕ) (b : Bool) → encloses run n ≡ b → encloses run n ≡ false → run.first ≤ n → run.last < n
          after n b is out low = grind (arith, nat_tests)

      by : (n : ℕ) (a b : Bool) → (number == n) ≡ a → encloses run n ≡ b → value_in (longer run ∷ runs) n ≡ (if number == n then Some value else value_in (run ∷ runs) n)
      by n true b own-n is =
          let same-n : number ≡ n = one number n own-n in
          at_run (longer run) runs n (enclosed (longer run) n (omega (arith, begins, beside, same-n)) (omega (arith, same-n))) ∙ (ap (λ (v : V). Some v) same ∙ sym (own n (value_in (run ∷ runs) n) own-n))
      by n false true unlike-n is =
          let bounds = inside run n is in
          let from' = bounds.0 in
          let to = bounds.1 in
          at_run (longer run) runs n (enclosed (longer run) n from' (omega (arith, to, beside))) ∙ sym (unlike n (value_in (run ∷ runs) n) unlike-n ∙ at_run run runs n is)
      by n false false unlike-n out =
          beyond (longer run) runs n (outside n out unlike-n (encloses (longer run) n) refl) ∙ sym (unlike n (value_in (run ∷ runs) n) unlike-n ∙ beyond run runs n out)

      puts : Puts number value (run ∷ runs) (longer run ∷ runs)
      puts n = by n (number == n) (encloses run n) refl refl

  pub lengthened : (from : ℕ) (runs : List (Run V)) (at : ℕ) (run : Run V) → slice_get runs at ≡ Some run → run.last + 1 ≡ number → run.value ≡ value
      → AreApart from runs → EndBefore number (take (suc at) runs) → BeginBehind number (drop (suc at) runs) → Is from runs (set runs at (longer run))
  lengthened from [] at run is beside same apart before behind = absurd cc
  lengthened from (r ∷ runs) zero run is beside same apart before behind =
      let eq : run ≡ r = cc in
      subst (λ x. Is from (r ∷ runs) (longer x ∷ runs)) (sym eq)
      (longer-first from r runs apart (subst (λ x. x.last + 1 ≡ number) eq beside) (subst (λ x. x.value ≡ value) eq same) behind)
  lengthened from (r ∷ runs) (suc at) run is beside same apart before behind =
      under from r runs _ apart before.0 (lengthened (r.last + 1) runs at run is beside same apart.2 before.1 behind)

  -- ---- in the run that begins behind it

  abbrev earlier : Run V → Run V
  earlier run = record run { first = number }

  earlier-first : (from : ℕ) (run : Run V) (runs : List (Run V)) → AreApart from (run ∷ runs) → from ≤ number → number + 1 ≡ run.first → run.value ≡ value
      → Is from (run ∷ runs) (earlier run ∷ runs)
  earlier-first from run runs apart low beside same =
      let ends = apart.1 in
      record { puts = puts; apart = (low, omega (arith, ends, beside), apart.2) }
    where
      begins : run.first ≤ run.last
      begins = apart.1

      before : (n : ℕ) → encloses run n ≡ false → n ≤ run.last → n < run.first
      before n out to = grind (arith, nat_tests)

      outside : (n : ℕ) → encloses run n ≡ false → (number == n) ≡ false → (b : Bool) → encloses (earlier run) n ≡ b → encloses (earlier run) n ≡ false
      outside n out unlike-n false is = is
      outside n out unlike-n true is =
          let bounds = inside (earlier run) n is in
          let from' = bounds.0 in
          let near : n < run.first = before n out bounds.1 in
          absurd (apart-from number n unlike-n (omega (arith, from', near, beside)))

      by : (n : ℕ) (a b : Bool) → (number == n) ≡ a → encloses run n ≡ b → value_in (earlier run ∷ runs) n ≡ (if number == n then Some value else value_in (run ∷ runs) n)
      by n true b own-n is =
          let same-n : number ≡ n = one number n own-n in
          at_run (earlier run) runs n (enclosed (earlier run) n (omega (arith, same-n)) (omega (arith, begins, beside, same-n))) ∙ (ap (λ (v : V). Some v) same ∙ sym (own n (value_in (run ∷ runs) n) own-n))
      by n false true unlike-n is =
          let bounds = inside run n is in
          let from' = bounds.0 in
          let to = bounds.1 in
          at_run (earlier run) runs n (enclosed (earlier run) n (omega (arith, from', beside)) to) ∙ sym (unlike n (value_in (run ∷ runs) n) unlike-n ∙ at_run run runs n is)
      by n false false unlike-n out =
          beyond (earlier run) runs n (outside n out unlike-n (encloses (earlier run) n) refl) ∙ sym (unlike n (value_in (run ∷ runs) n) unlike-n ∙ beyond run runs n out)

      puts : Puts number value (run ∷ runs) (earlier run ∷ runs)
      puts n = by n (number == n) (encloses run n) refl refl

  pub begun : (from : ℕ) (runs : List (Run V)) (place : ℕ) (run : Run V) → slice_get runs place ≡ Some run → number + 1 ≡ run.first → run.value ≡ value
      → AreApart from runs → from ≤ number → EndBefore number (take place runs) → Is from runs (set runs place (earlier run))
  begun from [] place run is beside same apart low before = absurd cc
  begun from (r ∷ runs) zero run is beside same apart low before =
      let eq : run ≡ r = cc in
      subst (λ x. Is from (r ∷ runs) (earlier x ∷ runs)) (sym eq)
      (earlier-first from r runs apart low (subst (λ x. number + 1 ≡ x.first) eq beside) (subst (λ x. x.value ≡ value) eq same))
  begun from (r ∷ runs) (suc place) run is beside same apart low before =
      let ends = before.0 in
      under from r runs _ apart ends (begun (r.last + 1) runs place run is beside same apart.2 (omega (arith, ends)) before.1)

  -- ---- in both, as one

  abbrev joined : Run V → Run V → Run V
  joined run next = record run { last = next.last }

  joined-first : (from : ℕ) (run next : Run V) (runs : List (Run V)) → AreApart from (run ∷ next ∷ runs) → run.last + 1 ≡ number → run.value ≡ value
      → number + 1 ≡ next.first → next.value ≡ value → Is from (run ∷ next ∷ runs) (joined run next ∷ runs)
  joined-first from run next runs apart ends same begins same-next =
      record { puts = puts; apart = (apart.0, omega (arith, fits, fits-next, ends, begins), apart.2.2) }
    where
      fits : run.first ≤ run.last
      fits = apart.1

      fits-next : next.first ≤ next.last
      fits-next = apart.2.1

      between : (n : ℕ) → encloses run n ≡ false → encloses next n ≡ false → run.first ≤ n → n ≤ next.last → number ≡ n
      between n out out-next low high = grind (arith, nat_tests)

      outside : (n : ℕ) → encloses run n ≡ false → encloses next n ≡ false → (number == n) ≡ false → (b : Bool) → encloses (joined run next) n ≡ b → encloses (joined run next) n ≡ false
      outside n out out-next unlike-n false is = is
      outside n out out-next unlike-n true is =
          let bounds = inside (joined run next) n is in absurd (apart-from number n unlike-n (between n out out-next bounds.0 bounds.1))

      some : {x y : V} → x ≡ y → ◌≡◌ {A = Option V} (Some x) (Some y)
      some is = ap (λ v. Some v) is

      by : (n : ℕ) (a b c : Bool) → (number == n) ≡ a → encloses run n ≡ b → encloses next n ≡ c
          → value_in (joined run next ∷ runs) n ≡ (if number == n then Some value else value_in (run ∷ next ∷ runs) n)
      by n true b c own-n is is-next =
          let same-n : number ≡ n = one number n own-n in
          at_run (joined run next) runs n (enclosed (joined run next) n (omega (arith, fits, ends, same-n)) (omega (arith, fits-next, begins, same-n)))
          ∙ (some same ∙ sym (own n (value_in (run ∷ next ∷ runs) n) own-n))
      by n false true c unlike-n is is-next =
          let bounds = inside run n is in
          let from' = bounds.0 in
          let to = bounds.1 in
          at_run (joined run next) runs n (enclosed (joined run next) n from' (omega (arith, to, ends, begins, fits-next)))
          ∙ sym (unlike n (value_in (run ∷ next ∷ runs) n) unlike-n ∙ at_run run (next ∷ runs) n is)
      by n false false true unlike-n out is-next =
          let bounds = inside next n is-next in
          let from' = bounds.0 in
          let to = bounds.1 in
          at_run (joined run next) runs n (enclosed (joined run next) n (omega (arith, from', begins, ends, fits)) to)
          ∙ (some (same ∙ sym same-next) ∙ sym (unlike n (value_in (run ∷ next ∷ runs) n) unlike-n ∙ (beyond run (next ∷ runs) n out ∙ at_run next runs n is-next)))
      by n false false false unlike-n out out-next =
          beyond (joined run next) runs n (outside n out out-next unlike-n (encloses (joined run next) n) refl)
          ∙ sym (unlike n (value_in (run ∷ next ∷ runs) n) unlike-n ∙ (beyond run (next ∷ runs) n out ∙ beyond next runs n out-next))

      puts : Puts number value (run ∷ next ∷ runs) (joined run next ∷ runs)
      puts n = by n (number == n) (encloses run n) (encloses next n) refl refl refl

  pub closed : (from : ℕ) (runs : List (Run V)) (at : ℕ) (run next : Run V) → slice_get runs at ≡ Some run → slice_get runs (suc at) ≡ Some next → run.last + 1 ≡ number → run.value ≡ value
      → number + 1 ≡ next.first → next.value ≡ value → AreApart from runs → EndBefore number (take (suc at) runs)
      → Is from runs (take (suc at) (set runs at (joined run next)) ++ drop (suc (suc at)) (set runs at (joined run next)))
  closed from [] at run next is is-next ends same begins same-next apart before = absurd cc
  closed from (r ∷ []) zero run next is is-next ends same begins same-next apart before = absurd cc
  closed from (r ∷ s ∷ runs) zero run next is is-next ends same begins same-next apart before =
      let eq : run ≡ r = cc in
      let eq-next : next ≡ s = cc in
      subst (λ x. Is from (r ∷ s ∷ runs) (joined x next ∷ runs)) (sym eq)
      (subst (λ y. Is from (r ∷ s ∷ runs) (joined r y ∷ runs)) (sym eq-next)
      (joined-first from r s runs apart (subst (λ x. x.last + 1 ≡ number) eq ends) (subst (λ x. x.value ≡ value) eq same)
      (subst (λ x. number + 1 ≡ x.first) eq-next begins) (subst (λ x. x.value ≡ value) eq-next same-next)))
  closed from (r ∷ runs) (suc at) run next is is-next ends same begins same-next apart before =
      under from r runs _ apart before.0 (closed (r.last + 1) runs at run next is is-next ends same begins same-next apart.2 before.1)

  -- ---- at the place that the code found

  -- what is read at an index where something stands
  read : (P : Run V → Type 0) (runs : List (Run V)) (at : ℕ) (run : Run V) → IsSomeAnd (slice_get runs at) P → run ≡ slice_index_or runs at run → slice_get runs at ≡ Some run
  read P [] at run some is = absurd some
  read P (r ∷ runs) zero run some is = ap (λ x. Some x) (sym is)
  read P (r ∷ runs) (suc at) run some is = read P runs at run some is

  holds : (P : Run V → Type 0) (runs : List (Run V)) (at : ℕ) (run : Run V) → IsSomeAnd (slice_get runs at) P → run ≡ slice_index_or runs at run → P run
  holds P runs at run some is = subst (λ o. IsSomeAnd o P) (read P runs at run some is) some

  after_it : (place : ℕ) → 0 < place → suc (place - 1) ≡ place
  after_it place is = omega (arith, is)

  module _ (runs : List (Run V)) (place : ℕ) (apart : AreApart 0 runs) (before : EndBefore number (take place runs)) (behind : BeginBehind number (drop place runs)) where
    pub put_alone : Is 0 runs (take place runs ++ alone ∷ drop place runs)
    put_alone = inserted 0 runs place apart (omega arith) before behind

    pub put_before : HasBehind number value place runs → (run : Run V) → run ≡ slice_index_or runs place run → Is 0 runs (set runs place (earlier run))
    put_before has run is =
        let beside = holds (BeginsBeside number value) runs place run has is in
        begun 0 runs place run (read (BeginsBeside number value) runs place run has is) beside.0 beside.1 apart (omega arith) before

    module _ (has : HasBefore number value place runs) (run : Run V) (is : run ≡ slice_index_or runs (place - 1) run) where
      next-to : suc (place - 1) ≡ place
      next-to = after_it place has.0

      beside : EndsBeside number value run
      beside = holds (EndsBeside number value) runs (place - 1) run has.1 is

      there : slice_get runs (place - 1) ≡ Some run
      there = read (EndsBeside number value) runs (place - 1) run has.1 is

      before-next : EndBefore number (take (suc (place - 1)) runs)
      before-next = subst (λ n. EndBefore number (take n runs)) (sym next-to) before

      pub put_behind : Is 0 runs (set runs (place - 1) (longer run))
      put_behind = lengthened 0 runs (place - 1) run there beside.0 beside.1 apart before-next (subst (λ n. BeginBehind number (drop n runs)) (sym next-to) behind)

      pub put_between : HasBehind number value place runs → (next : Run V) → next ≡ slice_index_or runs place next
          → Is 0 runs (take place (set runs (place - 1) (joined run next)) ++ drop (suc place) (set runs (place - 1) (joined run next)))
      put_between has-next next is-next =
          let beside-next = holds (BeginsBeside number value) runs place next has-next is-next in
          let there-next = read (BeginsBeside number value) runs place next has-next is-next in
          subst (λ n. Is 0 runs (take n (set runs (place - 1) (joined run next)) ++ drop (suc n) (set runs (place - 1) (joined run next)))) next-to
          (closed 0 runs (place - 1) run next there (ap (slice_get runs) next-to ∙ there-next) beside.0 beside.1 beside-next.0 beside-next.1 apart before-next)
