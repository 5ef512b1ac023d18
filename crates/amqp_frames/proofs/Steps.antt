-- What follows of a reading behind a test.
use Rattle.std.proofs.Common.{◌≡◌, Bool, true, false, ◌||◌, Option, Some, None, Result, Ok, Err, refl}
use Rattle.amqp_frames.specs.declared.fault.FrameFault.{FrameFault}

-- neither of two tests holds
pub neither : (a b : Bool) → (a || b) ≡ false → (a ≡ false) × (b ≡ false)
neither true b e = absurd cc
neither false b e = (refl, e)

-- what was read
abbrev pub done : {A : Type 0} → A → Result (Option A) FrameFault
done x = Ok (Some x)

-- no reading is a fault and none
pub apart_err : {A : Type 0} (r : Result (Option A) FrameFault) (x : Option A) (fault : FrameFault) → r ≡ Ok x → r ≡ Err fault → ⊥
apart_err (Ok y) x fault e f = cc
apart_err (Err d) x fault e f = cc

-- no reading gives something and nothing
pub apart_none : {A : Type 0} (r : Result (Option A) FrameFault) (x : A) → r ≡ Ok (Some x) → r ≡ Ok None → ⊥
apart_none (Ok y) x e f = cc
apart_none (Err d) x e f = cc

-- a reading has one fault
pub one_fault : {A : Type 0} (r : Result A FrameFault) (x y : FrameFault) → r ≡ Err x → r ≡ Err y → x ≡ y
one_fault r x y e f = cc

-- a reading gives one thing
pub one_read : {A : Type 0} (r : Result (Option A) FrameFault) (x y : A) → r ≡ Ok (Some x) → r ≡ Ok (Some y) → x ≡ y
one_read r x y e f = cc
