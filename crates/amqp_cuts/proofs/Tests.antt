-- Tests that fail.
use Rattle.std.proofs.Common.{◌≡◌, refl, Bool, true, false}

-- a test that does not pass
pub refused : (b : Bool) → (b ≡ true → ⊥) → b ≡ false
refused true h = absurd (h refl)
refused false h = refl
