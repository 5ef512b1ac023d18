-- What a lawful history says of each frame that was written.
use Rattle.std.proofs.Common.{◌≡◌, refl, sym, ap, ◌∙◌, List, [], ◌∷◌, Bool, true, false, not, Option, Some, None}
use Rattle.std.specs.Prelude.{find, cond, option_map}
use Rattle.std.specs.List.{AllByRecursion}
use Rattle.capture_form.specs.Rules.{RuleSet}
use Rattle.trace_events.specs.declared.clause.Clause.{Clause}
use Rattle.trace_events.specs.declared.clause.Clause.TheVariants.{L1, L2, L3, L4, L5, L6, L7, L8, L9, L10, L11, L12, L13, L14}
use Rattle.trace_events.specs.Words.{or_else}
use Rattle.trace_events.specs.Frame.{Frame, Spoken, spoken_in}
use Rattle.trace_events.specs.Event.{Event, Out}
use Rattle.trace_events.specs.Clauses.{first_broken, broken_clause, broken_at, broken_by, spoken_meets, clauses}

-- ---- a lawful history is lawful before each event, and each event breaks nothing

or_else-none : {A : Type 0} (o p : Option A) → or_else o p ≡ None → (o ≡ None) × (p ≡ None)
or_else-none None p e = (refl, e)
or_else-none (Some x) p e = absurd cc

map-none : {A B : Type 0} (f : A → B) (o : Option A) → option_map f o ≡ None → o ≡ None
map-none f None e = refl
map-none f (Some x) e = absurd cc

pub lawful-past : (rules : RuleSet) (e : Event) (past : List Event) → first_broken rules (e ∷ past) ≡ None → first_broken rules past ≡ None
lawful-past rules e past lawful = (or_else-none (first_broken rules past) _ lawful).0

pub lawful-here : (rules : RuleSet) (e : Event) (past : List Event) → first_broken rules (e ∷ past) ≡ None → broken_clause rules e past ≡ None
lawful-here rules e past lawful =
    map-none (λ clause. (e.number, clause)) (broken_clause rules e past) (or_else-none (first_broken rules past) _ lawful).1

-- ---- so it meets each clause

failing : {A : Type 0} (test : A → Bool) (x : A) (xs : List A) (b : Bool) → test x ≡ b → cond b (Some x) (find test xs) ≡ None
    → (test x ≡ false) × (find test xs ≡ None)
failing test x xs true is e = absurd cc
failing test x xs false is e = (is, e)

none-pass : {A : Type 0} (test : A → Bool) (xs : List A) → find test xs ≡ None → AllByRecursion (λ x. test x ≡ false) xs
none-pass test [] e = tt
none-pass test (x ∷ xs) e =
    let h = failing test x xs (test x) refl e in (h.0, none-pass test xs h.1)

not-false : (b : Bool) → not b ≡ false → b ≡ true
not-false true e = refl
not-false false e = sym e

each-clause : (test : Clause → Bool) → AllByRecursion (λ c. not (test c) ≡ false) clauses → (c : Clause) → test c ≡ true
each-clause test h L1 = not-false (test L1) h.0
each-clause test h L2 = not-false (test L2) h.1.0
each-clause test h L3 = not-false (test L3) h.1.1.0
each-clause test h L4 = not-false (test L4) h.1.1.1.0
each-clause test h L5 = not-false (test L5) h.1.1.1.1.0
each-clause test h L6 = not-false (test L6) h.1.1.1.1.1.0
each-clause test h L7 = not-false (test L7) h.1.1.1.1.1.1.0
each-clause test h L8 = not-false (test L8) h.1.1.1.1.1.1.1.0
each-clause test h L9 = not-false (test L9) h.1.1.1.1.1.1.1.1.0
each-clause test h L10 = not-false (test L10) h.1.1.1.1.1.1.1.1.1.0
each-clause test h L11 = not-false (test L11) h.1.1.1.1.1.1.1.1.1.1.0
each-clause test h L12 = not-false (test L12) h.1.1.1.1.1.1.1.1.1.1.1.0
each-clause test h L13 = not-false (test L13) h.1.1.1.1.1.1.1.1.1.1.1.1.0
each-clause test h L14 = not-false (test L14) h.1.1.1.1.1.1.1.1.1.1.1.1.1.0

module _ (rules : RuleSet) (e : Event) (past : List Event) (lawful : first_broken rules (e ∷ past) ≡ None) (frame : Frame)
    (written : e.moment ≡ Out frame) (spoken : Spoken) (says : spoken_in frame.body ≡ Some spoken) where
  unbroken : find (λ clause. not (spoken_meets rules e frame past spoken clause)) clauses ≡ None
  unbroken =
      sym (ap (broken_by rules e frame past) says) ∙ (sym (ap (broken_at rules e past) written) ∙ lawful-here rules e past lawful)

  pub met : (c : Clause) → spoken_meets rules e frame past spoken c ≡ true
  met = each-clause (spoken_meets rules e frame past spoken)
      (none-pass (λ clause. not (spoken_meets rules e frame past spoken clause)) clauses unbroken)
