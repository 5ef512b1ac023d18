-- The test of two values of a connection for equality decides it.
use Rattle.std.proofs.Common.{◌≡◌, refl, subst, Bool, true, false, ◌&&◌, eqb, eqb-true}
use Rattle.std.specs.Bool.{beq}
use Rattle.std.specs.Cmp.{booleans_Decides}
use Rattle.std.proofs.lemmas.Bool.{eq-eqb}
use Rattle.state_tables.specs.declared.connection.ConnectionSummary.{ConnectionSummary}
use Rattle.state_tables.proofs.ConnectionSteps.{made-same}

both : (a b : Bool) → a && b ≡ true → (a ≡ true) × (b ≡ true)
both true b is = (refl, is)
both false b is = absurd cc

abbrev pub alike : ConnectionSummary → ConnectionSummary → Bool
alike x y =
    beq x.is_over y.is_over && (beq x.was_opened y.was_opened && (beq x.was_finished y.was_finished && (beq x.was_stopped y.was_stopped
    && (beq x.has_out_frame y.has_out_frame && (beq x.has_in_open y.has_in_open && eqb x.frame_limit y.frame_limit)))))

flag : (a b : Bool) → beq a b ≡ true → a ≡ b
flag a b is = (booleans_Decides a b).0 is

own : (a : Bool) → beq a a ≡ true
own true = refl
own false = refl

pub same : (x y : ConnectionSummary) → alike x y ≡ true → x ≡ y
same x y is =
    let a = both (beq x.is_over y.is_over) _ is in
    let b = both (beq x.was_opened y.was_opened) _ a.1 in
    let c = both (beq x.was_finished y.was_finished) _ b.1 in
    let d = both (beq x.was_stopped y.was_stopped) _ c.1 in
    let e = both (beq x.has_out_frame y.has_out_frame) _ d.1 in
    let f = both (beq x.has_in_open y.has_in_open) _ e.1 in
    made-same _ _ _ _ _ _ _ _ _ _ _ _ _ _ (flag x.is_over y.is_over a.0) (flag x.was_opened y.was_opened b.0) (flag x.was_finished y.was_finished c.0) (flag x.was_stopped y.was_stopped d.0)
    (flag x.has_out_frame y.has_out_frame e.0) (flag x.has_in_open y.has_in_open f.0) (eqb-true x.frame_limit y.frame_limit f.1)

alike-own : (x : ConnectionSummary) → alike x x ≡ true
alike-own x = rw (own x.is_over, own x.was_opened, own x.was_finished, own x.was_stopped, own x.has_out_frame, own x.has_in_open, eq-eqb x.frame_limit x.frame_limit refl) refl

pub alike-same : (x y : ConnectionSummary) → x ≡ y → alike x y ≡ true
alike-same x y is = subst (λ z. alike x z ≡ true) is (alike-own x)
