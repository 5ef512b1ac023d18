-- An item that was taken has no fault.
use Rattle.std.proofs.Common.{◌≡◌, refl, Bool, true, false, Option, Some, None, Ok, length, nat_le, if◌then◌else◌}
use Rattle.route_items.specs.declared.item.Item.{Item}
use Rattle.route_items.specs.declared.fault.StepFault.{StepFault}
use Rattle.route_items.specs.declared.fault.StepFault.TheVariants.{Full, UnknownConn, Failed}
use Rattle.route_items.specs.Inputs.{inputs, may_come}
use Rattle.route_core.specs.KernelState.{KernelState, HasTaken, SteppedBy, Stepped, fault_of}

pub works : (core : KernelState) (item : Item) → fault_of core item ≡ None → core.has_failed ≡ false
works core item none = by core.has_failed none
  where
    by : (b : Bool) → (if b then Some Failed else (if nat_le core.limit (length core.records) then Some Full else (if may_come item (inputs core.records) then None else Some UnknownConn))) ≡ None
        → b ≡ false
    by true none = absurd cc
    by false none = refl

-- an item that was taken has none
pub taken-step : {A : Type 0} (item : Item) (earlier later : KernelState) (done : A) → Stepped item earlier later (Ok done) → (fault_of earlier item ≡ None) × HasTaken item earlier later
taken-step item earlier later done stepped = by (fault_of earlier item) stepped
  where
    by : (o : Option StepFault) → SteppedBy item earlier later (Ok done) o → (o ≡ None) × HasTaken item earlier later
    by None taken = (refl, taken)
    by (Some fault) refused = let is = refused.0 in absurd cc
