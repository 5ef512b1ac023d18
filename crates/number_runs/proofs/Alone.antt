-- Where no run beside a number has the value, neither number beside it has.
use Rattle.std.proofs.Common.{◌≡◌, inl, inr, refl, sym, ap, ◌∙◌, ℕ, zero, suc, ◌+◌, ◌-◌, ◌<◌, ◌≤◌, Bool, true, false, List, [], ◌∷◌, Option, Some, None, IsSomeAnd, take, drop, length, slice_get, arith, subst}
use Rattle.number_runs.specs.declared.run.Run.{Run}
use Rattle.number_runs.specs.Runs.{AreApart, BeginBehind, EndBefore, EndsBeside, HasBefore, HasBehind, NeedsRun, encloses, value_in}
use Rattle.number_runs.proofs.Places.{at_run, beyond, inside, none_behind, none_from, past}

module _ {V : Type 0} (number : ℕ) (value : V) where
  some : {x y : V} → ◌≡◌ {A = Option V} (Some x) (Some y) → x ≡ y
  some is = cc

  none : {x : V} {o : Option V} → o ≡ None → o ≡ Some x → ⊥
  none is has = cc

  -- the number before it
  before_it : (from : ℕ) (runs : List (Run V)) (place n : ℕ) → place ≤ length runs → AreApart from runs → EndBefore number (take place runs) → BeginBehind number (drop place runs)
      → ((at : ℕ) (run : Run V) → place ≡ suc at → slice_get runs at ≡ Some run → EndsBeside number value run → ⊥) → n + 1 ≡ number → value_in runs n ≡ Some value → ⊥
  before_it from [] place n within apart before behind lacks next has = absurd cc
  before_it from (r ∷ runs) zero n within apart before behind lacks next has = none (none_behind number (r ∷ runs) n behind (omega (arith, next))) has
  before_it from (r ∷ runs) (suc place) n within apart before behind lacks next has =
      by (encloses r n) refl
      (before_it (r.last + 1) runs place n (omega (arith, within)) apart.2 before.1 behind (λ at run e. lacks (suc at) run (ap suc e)) next)
    where
      ends : r.last < number
      ends = before.0

      last : (place : ℕ) (runs : List (Run V)) → place ≤ length runs → AreApart (r.last + 1) runs → EndBefore number (take place runs) → n ≤ r.last → zero ≡ place
      last zero runs within apart before high = refl
      last (suc place) [] within apart before high = absurd (omega (arith, within))
      last (suc place) (s ∷ runs) within apart before high =
          let begins = apart.0 in
          let fits = apart.1 in
          let low = before.0 in
          absurd (omega (arith, begins, fits, low, high, next))

      by : (b : Bool) → encloses r n ≡ b → (value_in runs n ≡ Some value → ⊥) → ⊥
      by true is later =
          let high = (inside r n is).1 in
          lacks zero r (ap suc (sym (last place runs (omega (arith, within)) apart.2 before.1 high))) refl (omega (arith, ends, high, next), some (sym (at_run r runs n is) ∙ has))
      by false out later = later (sym (beyond r runs n out) ∙ has)

  -- the number behind it
  behind_it : (from : ℕ) (runs : List (Run V)) (place n : ℕ) → AreApart from runs → EndBefore number (take place runs) → BeginBehind number (drop place runs)
      → (HasBehind number value place runs → ⊥) → number + 1 ≡ n → value_in runs n ≡ Some value → ⊥
  behind_it from [] place n apart before behind lacks next has = absurd cc
  behind_it from (r ∷ runs) zero n apart before behind lacks next has = by (encloses r n) refl
    where
      begins : number < r.first
      begins = behind.0

      fits : r.first ≤ r.last
      fits = apart.1

      by : (b : Bool) → encloses r n ≡ b → ⊥
      by true is =
          let low = (inside r n is).0 in
          lacks (omega (arith, begins, low, next), some (sym (at_run r runs n is) ∙ has))
      by false out = none (beyond r runs n out ∙ none_from (r.last + 1) runs n apart.2 (omega (arith, begins, fits, next))) has
  behind_it from (r ∷ runs) (suc place) n apart before behind lacks next has =
      let ends = before.0 in
      behind_it (r.last + 1) runs place n apart.2 before.1 behind lacks next (sym (beyond r runs n (past r n (omega (arith, ends, next)))) ∙ has)

  has_before : (runs : List (Run V)) (place at : ℕ) (run : Run V) → place ≡ suc at → slice_get runs at ≡ Some run → EndsBeside number value run → HasBefore number value place runs
  has_before runs place at run is found ends =
      let same : at ≡ place - 1 = omega (arith, is) in
      (omega (arith, is), subst (λ o. IsSomeAnd o (EndsBeside number value)) (sym (ap (slice_get runs) (sym same) ∙ found)) ends)

  -- neither of them
  pub needs_run : (runs : List (Run V)) (place : ℕ) → place ≤ length runs → AreApart 0 runs → EndBefore number (take place runs) → BeginBehind number (drop place runs)
      → (HasBefore number value place runs → ⊥) → (HasBehind number value place runs → ⊥) → NeedsRun number value runs
  needs_run runs place within apart before behind no-before no-behind n (inl next) =
      before_it 0 runs place n within apart before behind (λ at run is found ends. no-before (has_before runs place at run is found ends)) next
  needs_run runs place within apart before behind no-before no-behind n (inr next) =
      behind_it 0 runs place n apart before behind no-behind next
