-- Small facts, beside those of `route_answers`.
use Rattle.std.proofs.Common.{◌≡◌, refl, Bool, true, false}
use Rattle.std.specs.Bool.{beq}

pub same_bool : (b : Bool) → beq b b ≡ true
same_bool true = refl
same_bool false = refl
