-- How many events a capture has, and at which of its records a history is broken.
use Rattle.std.proofs.Common.{◌≡◌, refl, sym, ap, ◌∙◌, ℕ, ◌+◌, ◌<◌, List, [], ◌∷◌, length, take, Option, Some, None, arith, add-one, add-zero}
use Rattle.capture_form.specs.declared.records.Record.{Record}
use Rattle.capture_form.specs.Rules.{RuleSet}
use Rattle.trace_events.specs.declared.clause.Clause.{Clause}
use Rattle.trace_events.specs.Event.{Event}
use Rattle.trace_events.specs.History.{judge, continued, history}
use Rattle.trace_events.specs.Clauses.{first_broken, broken_clause}
use Rattle.trace_events.proofs.Lawful.{first_broken-continued}

module _ (rules : RuleSet) where
  length-continued : (past : List Event) (rs : List Record) → length (continued rules past rs) ≡ length past + length rs
  length-continued past [] = sym (add-zero (length past))
  length-continued past (r ∷ rs) = omega (arith, length-continued (judge rules past r ∷ past) rs)

  pub length-history : (rs : List Record) → length (history rules rs) ≡ length rs
  length-history rs = omega (arith, length-continued [] rs)

-- what a broken record is found at: it is the last of those up to it
pub record IsBrokenAt (rules : RuleSet) (past : List Event) (rs : List Record) (number : ℕ) (clause : Clause) : Type 0 where
  pub place : ℕ
  pub within : place < length rs
  pub counted : number ≡ length past + place
  pub broken : first_broken rules (continued rules past (take (place + 1) rs)) ≡ Some (number, clause)

broken_at-head : (rules : RuleSet) (past : List Event) (r : Record) (rs : List Record) (number : ℕ) (clause : Clause) (o : Option Clause)
    → broken_clause rules (judge rules past r) past ≡ o
    → first_broken rules past ≡ None → first_broken rules (continued rules (judge rules past r ∷ past) rs) ≡ Some (number, clause)
    → (first_broken rules (judge rules past r ∷ past) ≡ None → IsBrokenAt rules (judge rules past r ∷ past) rs number clause) → IsBrokenAt rules past (r ∷ rs) number clause
broken_at-head rules past r rs number clause (Some c) is lawful e later =
    let here : first_broken rules (judge rules past r ∷ past) ≡ Some (length past, c) = rw (lawful, is) refl in
    let same : ◌≡◌ {A = Option (ℕ × Clause)} (Some (length past, c)) (Some (number, clause)) = sym (first_broken-continued rules (judge rules past r ∷ past) rs (length past, c) here) ∙ e in
    let pair : ◌≡◌ {A = ℕ × Clause} (length past, c) (number, clause) = cc in
    record { place = 0; within = omega arith; counted = ap (λ (x : ℕ × Clause). x.0) (sym pair) ∙ sym (add-zero (length past)); broken = here ∙ same }
broken_at-head rules past r rs number clause None is lawful e later =
    let h = later (rw (lawful, is) refl) in
    record { place = h.place + 1; within = omega (arith, h.within); counted = omega (arith, h.counted); broken = rw (add-one (h.place + 1)) h.broken }

-- a history that is broken is broken at one of its records
pub broken_at : (rules : RuleSet) (past : List Event) (rs : List Record) (number : ℕ) (clause : Clause) → first_broken rules past ≡ None
    → first_broken rules (continued rules past rs) ≡ Some (number, clause) → IsBrokenAt rules past rs number clause
broken_at rules past [] number clause lawful e = absurd cc
broken_at rules past (r ∷ rs) number clause lawful e =
    broken_at-head rules past r rs number clause (broken_clause rules (judge rules past r) past) refl lawful e (λ h. broken_at rules (judge rules past r ∷ past) rs number clause h e)
