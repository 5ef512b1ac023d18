-- Modes that are asked for, and that are not.
use Rattle.std.proofs.Common.{◌≡◌, Bool, Bor, List, ℕ, true, false, Some, None, refl}
use Rattle.show_program.specs.declared.words.Mode.TheVariants.{Chart, Credit, Lines, Marked, Summary, Why}
use Rattle.show_program.specs.Words.{IsAudit, IsOne, IsPlain, are_several}

plain_lines : IsPlain (Some Lines)
plain_lines = (refl, refl, refl, refl)

audit_is_not_plain : IsPlain (Some Why) → ⊥
audit_is_not_plain plain = let never : ◌≡◌ {A = Bool} true false = plain.3 in absurd cc

chart_is_not_plain : (path : Bor (List ℕ)) → IsPlain (Some (Chart path)) → ⊥
chart_is_not_plain path plain = let never : Some path.now ≡ None = plain.1 in absurd cc

credit_is_not_plain : (path : Bor (List ℕ)) → IsPlain (Some (Credit path)) → ⊥
credit_is_not_plain path plain = let never : Some path.now ≡ None = plain.2 in absurd cc

credit_is_no_audit : (path : Bor (List ℕ)) → IsAudit (Some (Credit path)) → ⊥
credit_is_no_audit path is = let never : ◌≡◌ {A = Bool} false true = is.0 in absurd cc

marked_is_no_audit : (path : Bor (List ℕ)) → IsAudit (Some (Marked path)) → ⊥
marked_is_no_audit path is = let never : Some path.now ≡ None = is.1 in absurd cc

several_are_not_plain : IsPlain None → ⊥
several_are_not_plain plain = plain

audit : IsAudit (Some Why)
audit = (refl, refl)

table_is_no_audit : IsAudit (Some Summary) → ⊥
table_is_no_audit is = let never : ◌≡◌ {A = Bool} false true = is.0 in absurd cc

-- one of five, and each two of them but a chart and an audit
one_each : (are_several true false false false false ≡ false) × (are_several false true false false false ≡ false) × (are_several false false true false false ≡ false)
    × (are_several false false false true false ≡ false) × (are_several false false false false true ≡ false)
one_each = (refl, refl, refl, refl, refl)

two_with_packets : (are_several true true false false false ≡ true) × (are_several true false true false false ≡ true) × (are_several true false false true false ≡ true)
    × (are_several true false false false true ≡ true)
two_with_packets = (refl, refl, refl, refl)

two_with_a_chart : (are_several false true true false false ≡ true) × (are_several false true false false true ≡ true)
two_with_a_chart = (refl, refl)

-- a chart and an audit are one, and with each other they are several
chart_and_audit : (are_several false true false true false ≡ false) × (are_several true true false true false ≡ true) × (are_several false true true true false ≡ true)
    × (are_several false true false true true ≡ true)
chart_and_audit = (refl, refl, refl, refl)

two_others : (are_several false false true true false ≡ true) × (are_several false false true false true ≡ true) × (are_several false false false true true ≡ true)
two_others = (refl, refl, refl)

none_is_one : IsOne (are_several false false false false false) (Some Lines)
none_is_one = refl

two_have_no_mode : IsOne (are_several false false false true true) None
two_have_no_mode = refl

two_as_one : IsOne (are_several false false false true true) (Some Why) → ⊥
two_as_one is = let never : ◌≡◌ {A = Bool} true false = is in absurd cc

one_as_several : IsOne (are_several false false false true false) None → ⊥
one_as_several is = let never : ◌≡◌ {A = Bool} false true = is in absurd cc
