-- What follows of a reading that did not fail.
use Rattle.std.proofs.Common.{◌≡◌, ℕ, Bool, true, false, ◌&&◌, cond, inl, inr, List, ◌++◌, Some, Result, Ok, Err, refl}
use Rattle.std.specs.Prelude.{◌⊎◌}
use Rattle.amqp_types.specs.declared.fault.ValueFault.{ValueFault}
use Rattle.amqp_types.specs.Reading.{◌>>=◌}

-- the value of a step that did not fail
pub bind_ok : {A B : Type 0} (r : Result A ValueFault) (f : A → Result B ValueFault) (y : B) → (r >>= f) ≡ Ok y → (x : A) × (r ≡ Ok x) × (f x ≡ Ok y)
bind_ok (Ok x) f y e = (x, refl, e)
bind_ok (Err d) f y e = absurd cc

-- a test behind which there is a fault
pub guard_ok : {A : Type 0} (b : Bool) (d : ValueFault) (r : Result A ValueFault) (y : A) → cond b (Err d) r ≡ Ok y → (b ≡ false) × (r ≡ Ok y)
guard_ok true d r y e = absurd cc
guard_ok false d r y e = (refl, e)

-- a test without which there is a fault
pub guard_passed : {A : Type 0} (b : Bool) (d : ValueFault) (r : Result A ValueFault) (y : A) → cond b r (Err d) ≡ Ok y → (b ≡ true) × (r ≡ Ok y)
guard_passed true d r y e = (refl, e)
guard_passed false d r y e = absurd cc

abbrev pub done : {A : Type 0} → A → Result A ValueFault
done x = Ok x

pub ok_is : {A : Type 0} (x y : A) → done x ≡ done y → x ≡ y
ok_is x y e = cc

-- some octets at the front that are so, and the rest
pub record Takes {A : Type 0} (Is : List ℕ → A → Type 0) (bytes : List ℕ) (x : A × List ℕ) : Type 0 where
  pub front : List ℕ
  pub parts : bytes ≡ front ++ x.1
  pub is : Is front x.0

-- no reading is well and a fault
pub never_both : {A : Type 0} (r : Result A ValueFault) (x : A) (d : ValueFault) → r ≡ Ok x → r ≡ Err d → ⊥
never_both (Ok y) x d e h = cc
never_both (Err c) x d e h = cc

-- which way a test went
pub chosen : {A : Type 0} (b : Bool) (x y z : A) → cond b x y ≡ z → ((b ≡ true) × (x ≡ z)) ⊎ ((b ≡ false) × (y ≡ z))
chosen true x y z e = inl (refl, e)
chosen false x y z e = inr (refl, e)

-- both of two tests
pub both : (a b : Bool) → (a && b) ≡ true → (a ≡ true) × (b ≡ true)
both true b e = (refl, e)
both false b e = absurd cc

pub some_is : {A : Type 0} {x y : A} → Some x ≡ Some y → x ≡ y
some_is e = cc
