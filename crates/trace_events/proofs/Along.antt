-- Going along a history, and steps on the way.
use Rattle.std.proofs.Common.{◌≡◌, refl, Bool, true, false, ◌&&◌, List, [], ◌∷◌, Option, Some, None, IsSomeAnd, option_and_then, if◌then◌else◌}
use Rattle.capture_form.specs.declared.records.Record.{Record}
use Rattle.capture_form.specs.Rules.{RuleSet}
use Rattle.trace_events.specs.Words.{is_some_and}
use Rattle.trace_events.specs.Event.{Event}
use Rattle.trace_events.specs.History.{judge, continued, history, moment_of, placed, heard, faulted}

-- what holds of no events, and of one more record's where it held before, holds of a history
along_from : (rules : RuleSet) (P : List Event → Type 0) → ((past : List Event) (r : Record) → P past → P (judge rules past r ∷ past)) → (past : List Event) (rs : List Record) → P past → P (continued rules past rs)
along_from rules P more past [] h = h
along_from rules P more past (r ∷ rs) h = along_from rules P more (judge rules past r ∷ past) rs (more past r h)

pub along : (rules : RuleSet) (P : List Event → Type 0) → P [] → ((past : List Event) (r : Record) → P past → P (judge rules past r ∷ past)) → (rs : List Record) → P (history rules rs)
along rules P none more rs = along_from rules P more [] rs none

-- a record in its place, before the deliveries that it is of
abbrev pub standing : RuleSet → List Event → Record → Event
standing rules past r = faulted rules past (heard past (placed past r.connection (moment_of r.what) r.note))

pub if_some : {A : Type 0} (b : Bool) (o : Option A) (x : A) → (if b then o else None) ≡ Some x → (b ≡ true) × (o ≡ Some x)
if_some true o x e = (refl, e)
if_some false o x e = absurd cc

pub and_then_some : {A B : Type 0} (f : A → Option B) (o : Option A) (y : B) → option_and_then f o ≡ Some y → (x : A) × (o ≡ Some x) × (f x ≡ Some y)
and_then_some f None y e = absurd cc
and_then_some f (Some x) y e = (x, refl, e)

pub some_passes : {A : Type 0} (test : A → Bool) (o : Option A) → is_some_and o test ≡ true → (x : A) × (o ≡ Some x) × (test x ≡ true)
some_passes test None e = absurd cc
some_passes test (Some x) e = (x, refl, e)

pub some_such : {A : Type 0} (P : A → Type 0) (o : Option A) → IsSomeAnd o P → (x : A) × (o ≡ Some x) × P x
some_such P None h = absurd h
some_such P (Some x) h = (x, refl, h)

pub and_first : (a b : Bool) → (a && b) ≡ true → a ≡ true
and_first true b e = refl
and_first false b e = absurd cc

pub and_last : (a b : Bool) → (a && b) ≡ true → b ≡ true
and_last true b e = e
and_last false b e = absurd cc
