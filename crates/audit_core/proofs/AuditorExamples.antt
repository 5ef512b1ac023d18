-- What the words for an auditor say, at small captures.
use Rattle.std.proofs.Common.{◌≡◌, ℕ, true, false, [], ◌∷◌, Option, Some, None, Err, is_some, refl, sym, ap, ◌∙◌, inl, inr, arith}
use Rattle.capture_form.specs.declared.records.Record.{Record}
use Rattle.capture_form.specs.Rules.{RuleSet, no_rules}
use Rattle.trace_events.specs.declared.clause.Clause.{Clause}
use Rattle.trace_events.specs.declared.clause.Clause.TheVariants.{L1, L2}
use Rattle.trace_events.specs.declared.tally.Tally.{Tally}
use Rattle.trace_events.specs.Clauses.{first_broken}
use Rattle.trace_events.specs.Verdict.{tally_of}
use Rattle.trace_events.specs.Written.{written_open}
use Rattle.trace_events.proofs.Captures.{opened, broken_of}
use Rattle.trace_events.proofs.Made.{write}
use Rattle.trace_events.specs.History.{history}
use Rattle.state_ledger.specs.Ledger.{broken_behind}
use Rattle.audit_core.specs.declared.auditor.Auditor.{Auditor}
use Rattle.audit_core.specs.declared.verdict.Refusal.TheVariants.{Broken, Memory}
use Rattle.audit_core.specs.Auditor.{Agrees, Follows, StandsFor, IsBrokenBehind, IsRefusalBehind}
use Rattle.capture_form.specs.declared.fault.FormKind.TheVariants as kinds
use Rattle.audit_core.specs.declared.verdict.Verdict.TheVariants.{Accepted, Refused, Malformed, NoMemory, Unreadable}
use Rattle.audit_core.specs.Verdict.{WantsMemory, AnswersCapture, AcceptsUnlessRefused, is_sure}

-- the router's open on a connection that nobody opened
abbrev unasked : Record
unasked = write 0 written_open

broken_unasked : broken_behind no_rules [] unasked ≡ Some L1
unfolding broken_of
broken_unasked = refl

first_unasked : first_broken no_rules (history no_rules (unasked ∷ [])) ≡ Some (0, L1)
unfolding broken_of
first_unasked = refl

some_is_none : (x : ℕ × Clause) → ◌≡◌ {A = Option (ℕ × Clause)} (Some x) None → ⊥
some_is_none x e = cc

-- ---- agreeing

module _ (auditor : Auditor) (rules : RuleSet) where
  -- what stands for a lawful record, and has not stopped, follows it
  follows : StandsFor auditor rules (opened 0 ∷ []) → auditor.refusal ≡ None → Follows auditor rules (opened 0 ∷ [])
  follows stands runs = record { stands = stands; counted = stands.1.1.0; lawful = refl; runs = runs }

  -- it has another number of records
  fewer : auditor.ledger.tally ≡ tally_of [] → Follows auditor rules (opened 0 ∷ []) → ⊥
  fewer counts f = absurd (omega (arith, ap (λ (t : Tally). t.records) (sym counts ∙ f.counted)))

  -- one of them breaks a clause
  broken : Follows auditor no_rules (unasked ∷ []) → ⊥
  broken f = some_is_none (0, L1) (sym first_unasked ∙ f.lawful)

  -- it has stopped
  ended : auditor.refusal ≡ Some Memory → Follows auditor rules (opened 0 ∷ []) → ⊥
  ended stopped f = let runs : Some Memory ≡ None = sym stopped ∙ f.runs in absurd cc

  -- what follows it and keeps all agrees with it; what forgets does not, nor what does not follow it
  agrees : Follows auditor rules (opened 0 ∷ []) → auditor.ledger.forgets ≡ false → Agrees auditor rules (opened 0 ∷ [])
  agrees follows keeps = record { follows = follows; keeps = keeps }

  forgets : auditor.ledger.forgets ≡ true → Agrees auditor rules (opened 0 ∷ []) → ⊥
  forgets is a = let never : true ≡ false = sym is ∙ a.keeps in absurd cc

  of_another : auditor.ledger.tally ≡ tally_of [] → Agrees auditor rules (opened 0 ∷ []) → ⊥
  of_another counts a = fewer counts a.follows

-- ---- refusing

refused : IsRefusalBehind no_rules [] unasked (Broken 0 L1)
refused = (refl, broken_unasked)

-- another number, another clause, and a record that breaks none
other_number : IsRefusalBehind no_rules [] unasked (Broken 1 L1) → ⊥
other_number why = absurd (omega (arith, why.0))

other_clause : IsRefusalBehind no_rules [] unasked (Broken 0 L2) → ⊥
other_clause why = let same : Some L1 ≡ Some L2 = sym broken_unasked ∙ why.1 in absurd cc

not_broken : IsRefusalBehind no_rules [] (opened 0) (Broken 0 L1) → ⊥
not_broken why = let never : ◌≡◌ {A = Option Clause} None (Some L1) = why.1 in absurd cc

-- some clause, whichever is named; no other number, and no record that breaks none
broken_by_another : IsBrokenBehind no_rules [] unasked (Broken 0 L2)
broken_by_another = (refl, ap is_some broken_unasked)

broken_elsewhere : IsBrokenBehind no_rules [] unasked (Broken 1 L1) → ⊥
broken_elsewhere why = absurd (omega (arith, why.0))

unbroken : IsBrokenBehind no_rules [] (opened 0) (Broken 0 L1) → ⊥
unbroken why = let never : false ≡ true = why.1 in absurd cc

-- ---- being sure

sure_that_keeps : is_sure false (Refused 0 L1) ≡ true
sure_that_keeps = refl

not_sure_of_a_refusal : is_sure true (Refused 0 L1) ≡ false
not_sure_of_a_refusal = refl

sure_of_others : (tally : Tally) → (is_sure true (Accepted tally) ≡ true) × (is_sure true (Malformed 0 kinds.Magic) ≡ true) × (is_sure true (NoMemory 5) ≡ true) × (is_sure true (Unreadable 0) ≡ true)
sure_of_others tally = (refl, refl, refl, refl)

-- ---- wanting memory

-- for the second record, behind one that meets the clauses
second : WantsMemory (record { rules = no_rules; records = opened 0 ∷ unasked ∷ [] })
second = inr (1, omega arith, refl)

-- a capture without rules and records is never refused for want of memory
never_of_nothing : AnswersCapture (record { rules = no_rules; records = [] }) (Err Memory) → ⊥
never_of_nothing (inl rules) = absurd (omega (arith, rules))
never_of_nothing (inr place) = absurd (omega (arith, place.1))

-- ---- accepting, unless memory was refused

module _ (tally other : Tally) where
  same_tally : AcceptsUnlessRefused tally (Accepted tally)
  same_tally = refl

  no_memory : AcceptsUnlessRefused tally (NoMemory 5)
  no_memory = tt

  other_tally : (other ≡ tally → ⊥) → AcceptsUnlessRefused tally (Accepted other) → ⊥
  other_tally differ is = differ is

  refusing : AcceptsUnlessRefused tally (Refused 0 L1) → ⊥
  refusing is = is

  malformed : AcceptsUnlessRefused tally (Malformed 0 kinds.Magic) → ⊥
  malformed is = is

  unreadable : AcceptsUnlessRefused tally (Unreadable 0) → ⊥
  unreadable is = is
