-- Fields fit their table exactly where there are not too many and none is at fault.
use Rattle.std.proofs.Common.{◌≡◌, refl, sym, ◌∙◌, ℕ, ◌+◌, ◌≤◌, Bool, true, false, not, ◌&&◌, cond, List, [], ◌∷◌, length, Option, Some, None, inl, inr, arith}
use Rattle.std.specs.Option.{option_or}
use Rattle.amqp_types.specs.Part.{Seen}
use Rattle.amqp_types.specs.Typed.{says_null}
use Rattle.amqp_perf.specs.declared.fault.PerfFault.{PerfFault}
use Rattle.amqp_perf.specs.declared.fault.PerfFault.TheVariants.{MissingField, WrongType}
use Rattle.amqp_perf.specs.declared.table.Field.{Field}
use Rattle.amqp_perf.specs.Tables.{accepts}
use Rattle.amqp_perf.specs.FieldPlaces.{missing, first, others}
use Rattle.amqp_perf.specs.Fields.{field_fault, fits_field, all_fit, first_fault}
use Rattle.amqp_perf.specs.Grammar.{IsField, AreFields}

field_by : (n : ℕ) (f : Field) (p : Seen) (null mandatory ok : Bool) → says_null p.part ≡ null → f.is_mandatory ≡ mandatory → accepts f.field_type p ≡ ok
    → field_fault n f p ≡ None → IsField f p
field_by n f p true true ok is must fits e = let h : field_fault n f p ≡ Some (MissingField n) = rw (is, must) refl in absurd cc
field_by n f p true false ok is must fits e = inl (is, must)
field_by n f p false mandatory true is must fits e = inr (is, fits)
field_by n f p false mandatory false is must fits e = let h : field_fault n f p ≡ Some (WrongType n) = rw (is, fits) refl in absurd cc

is_field : (n : ℕ) (f : Field) (p : Seen) → field_fault n f p ≡ None → IsField f p
is_field n f p e = field_by n f p (says_null p.part) f.is_mandatory (accepts f.field_type p) refl refl refl e

no_fault : (n : ℕ) (f : Field) (p : Seen) → IsField f p → field_fault n f p ≡ None
no_fault n f p (inl h) = rw (h.0, h.1) refl
no_fault n f p (inr h) = rw (h.0, h.1) refl

neither : (a b : Option PerfFault) → option_or a b ≡ None → (a ≡ None) × (b ≡ None)
neither None b e = (refl, e)
neither (Some fault) b e = absurd cc

optional_by : (n : ℕ) (f : Field) (mandatory : Bool) → f.is_mandatory ≡ mandatory → field_fault n f missing ≡ None → f.is_mandatory ≡ false
optional_by n f true must e = let h : field_fault n f missing ≡ Some (MissingField n) = rw must refl in absurd cc
optional_by n f false must e = must

pub are_fields : (n : ℕ) (fs : List Field) (ps : List Seen) → length ps ≤ length fs → first_fault n fs ps ≡ None → AreFields fs ps
unfolding first_fault
are_fields n [] [] few e = tt
are_fields n [] (p ∷ ps) few e = absurd (omega arith)
are_fields n (f ∷ fs) [] few e =
    let h = neither (field_fault n f missing) (first_fault (n + 1) fs []) e in
    (optional_by n f f.is_mandatory refl h.0, are_fields (n + 1) fs [] (omega arith) h.1)
are_fields n (f ∷ fs) (p ∷ ps) few e =
    let h = neither (field_fault n f p) (first_fault (n + 1) fs ps) e in
    (is_field n f p h.0, are_fields (n + 1) fs ps (omega arith) h.1)

pub no_faults : (n : ℕ) (fs : List Field) (ps : List Seen) → AreFields fs ps → first_fault n fs ps ≡ None
unfolding first_fault
no_faults n [] [] h = refl
no_faults n [] (p ∷ ps) h = absurd h
no_faults n (f ∷ fs) [] h = rw (h.0, no_faults (n + 1) fs [] h.1) refl
no_faults n (f ∷ fs) (p ∷ ps) h = rw (no_fault n f p h.0, no_faults (n + 1) fs ps h.1) refl

pub not_too_many : (fs : List Field) (ps : List Seen) → AreFields fs ps → length ps ≤ length fs
not_too_many [] [] h = omega arith
not_too_many [] (p ∷ ps) h = absurd h
not_too_many (f ∷ fs) [] h = omega arith
not_too_many (f ∷ fs) (p ∷ ps) h = omega (arith, not_too_many fs ps h.1)

fitting_by : (n : ℕ) (f : Field) (p : Seen) (null mandatory ok : Bool) → says_null p.part ≡ null → f.is_mandatory ≡ mandatory → accepts f.field_type p ≡ ok
    → cond null (not mandatory) ok ≡ true → field_fault n f p ≡ None
fitting_by n f p true true ok is must fits e = absurd cc
fitting_by n f p true false ok is must fits e = rw (is, must) refl
fitting_by n f p false mandatory true is must fits e = rw (is, fits) refl
fitting_by n f p false mandatory false is must fits e = absurd cc

both_true : (a b : Bool) → (a && b) ≡ true → (a ≡ true) × (b ≡ true)
both_true true b e = (refl, e)
both_true false b e = absurd cc

fit_from : (n : ℕ) (so_far : Bool) (fs : List Field) (ps : List Seen) → all_fit so_far fs ps ≡ true → (so_far ≡ true) × (first_fault n fs ps ≡ None)
unfolding all_fit first_fault
fit_from n so_far [] ps e = (e, refl)
fit_from n so_far (f ∷ fs) ps e =
    let rest = fit_from (n + 1) (so_far && fits_field f (first ps)) fs (others ps) e in
    let here = both_true so_far (fits_field f (first ps)) rest.0 in
    (here.0, rw (fitting_by n f (first ps) (says_null (first ps).part) f.is_mandatory (accepts f.field_type (first ps)) refl refl refl here.1, rest.1) refl)

-- values that fit all their fields have no fault
pub none_at_fault : (fs : List Field) (ps : List Seen) (fit : Bool) → fit ≡ all_fit true fs ps → fit ≡ true → first_fault 1 fs ps ≡ None
none_at_fault fs ps fit is e = (fit_from 1 true fs ps (sym is ∙ e)).1
