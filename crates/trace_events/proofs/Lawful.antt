-- The law of a capture as records are added.
use Rattle.std.proofs.Common.{◌≡◌, refl, sym, ap, ◌∙◌, ℕ, List, [], ◌∷◌, ◌++◌, true, Option, Some, None}
use Rattle.std.specs.Prelude.{is_none}
use Rattle.capture_form.specs.declared.records.Record.{Record}
use Rattle.capture_form.specs.Rules.{RuleSet}
use Rattle.trace_events.specs.declared.clause.Clause.{Clause}
use Rattle.trace_events.specs.Words.{or_else}
use Rattle.trace_events.specs.Event.{Event}
use Rattle.trace_events.specs.History.{judge, continued, history}
use Rattle.trace_events.specs.Clauses.{first_broken, broken_clause, is_lawful}

pub continued-append : (rules : RuleSet) (past : List Event) (rs qs : List Record)
    → continued rules past (rs ++ qs) ≡ continued rules (continued rules past rs) qs
continued-append rules past [] qs = refl
continued-append rules past (r ∷ rs) qs = continued-append rules (judge rules past r ∷ past) rs qs

-- one more record is one more event
pub history-push : (rules : RuleSet) (rs : List Record) (r : Record)
    → history rules (rs ++ r ∷ []) ≡ judge rules (history rules rs) r ∷ history rules rs
history-push rules rs r = continued-append rules [] rs (r ∷ [])

or_else-some : {A : Type 0} (o p : Option A) (x : A) → o ≡ Some x → or_else o p ≡ Some x
or_else-some None p x e = absurd cc
or_else-some (Some y) p x e = e

-- what is broken stays the first that is
pub first_broken-continued : (rules : RuleSet) (past : List Event) (rs : List Record) (x : ℕ × Clause)
    → first_broken rules past ≡ Some x → first_broken rules (continued rules past rs) ≡ Some x
first_broken-continued rules past [] x e = e
first_broken-continued rules past (r ∷ rs) x e =
    first_broken-continued rules (judge rules past r ∷ past) rs x (or_else-some (first_broken rules past) _ x e)

-- records that are added later never change the verdict on those before: what was broken stays so
pub broken-stays : (rules : RuleSet) (rs qs : List Record) (x : ℕ × Clause)
    → first_broken rules (history rules rs) ≡ Some x → first_broken rules (history rules (rs ++ qs)) ≡ Some x
broken-stays rules rs qs x e =
    ap (first_broken rules) (continued-append rules [] rs qs) ∙ first_broken-continued rules (history rules rs) qs x e

unbroken : (rules : RuleSet) (rs qs : List Record) (o : Option (ℕ × Clause)) → first_broken rules (history rules rs) ≡ o
    → is_lawful rules (rs ++ qs) ≡ true → is_none o ≡ true
unbroken rules rs qs None is lawful = refl
unbroken rules rs qs (Some x) is lawful =
    let later : first_broken rules (history rules (rs ++ qs)) ≡ Some x = broken-stays rules rs qs x is in
    sym (ap is_none later) ∙ lawful

-- and the first records of a lawful capture are lawful
pub lawful-before : (rules : RuleSet) (rs qs : List Record) → is_lawful rules (rs ++ qs) ≡ true → is_lawful rules rs ≡ true
lawful-before rules rs qs lawful = unbroken rules rs qs (first_broken rules (history rules rs)) refl lawful

-- a lawful capture stays so by a record that breaks no clause
pub lawful-push : (rules : RuleSet) (rs : List Record) (r : Record) → first_broken rules (history rules rs) ≡ None
    → broken_clause rules (judge rules (history rules rs) r) (history rules rs) ≡ None → first_broken rules (history rules (rs ++ r ∷ [])) ≡ None
lawful-push rules rs r before now = ap (first_broken rules) (history-push rules rs r) ∙ rw (before, now) refl

none-is : {A : Type 0} (o : Option A) → is_none o ≡ true → o ≡ None
none-is None e = refl
none-is (Some x) e = absurd cc

-- in a lawful capture nothing is broken
pub unbroken-of : (rules : RuleSet) (rs : List Record) → is_lawful rules rs ≡ true → first_broken rules (history rules rs) ≡ None
unbroken-of rules rs lawful = none-is (first_broken rules (history rules rs)) lawful
