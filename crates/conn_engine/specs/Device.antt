-- What a device tells of the octets that it delivered and took.
use Rattle.std.specs.Prelude.{◌≡◌, ℕ, ◌≤◌, Bool, true, List, ◌++◌, length, take}
use Rattle.conn_engine.specs.declared.gate.Delivered.{Delivered}
use Rattle.conn_engine.specs.declared.gate.Delivered.TheVariants.{Octets, Nothing, End, Fault}
use Rattle.conn_engine.specs.declared.gate.Taken.{Taken}
use Rattle.conn_engine.specs.declared.gate.Taken.TheVariants as takes

-- what held of the octets so far holds of them still
abbrev pub KeepsTold : {G : Type 0} → (G → List ℕ → Type 0) → G → G → Type 0
KeepsTold Told before after = (octets : List ℕ) → Told before octets → Told after octets

-- what held of the octets so far holds of them and more
abbrev pub TellsMore : {G : Type 0} → (G → List ℕ → Type 0) → List ℕ → G → G → Type 0
TellsMore Told more before after = (octets : List ℕ) → Told before octets → Told after (octets ++ more)

-- what a read did: it put octets in front of the buffer, or nothing; and whether the device ended or failed with it
abbrev pub AfterRead : {G : Type 0} → (G → List ℕ → Type 0) → (G → Bool) → G → G → List ℕ → Delivered → Type 0
AfterRead Told ended before after buffer (Octets n) = (n ≤ length buffer) × TellsMore Told (take n buffer) before after × (ended after ≡ ended before)
AfterRead Told ended before after buffer Nothing = KeepsTold Told before after × (ended after ≡ ended before)
AfterRead Told ended before after buffer End = KeepsTold Told before after × (ended after ≡ true)
AfterRead Told ended before after buffer Fault = KeepsTold Told before after × (ended after ≡ true)

-- what a write did: it took octets from the front of those that it was shown, or none; and whether the device failed with it
abbrev pub AfterWrite : {G : Type 0} → (G → List ℕ → Type 0) → (G → Bool) → G → G → List ℕ → Taken → Type 0
AfterWrite Told ended before after shown (takes.Took n) = (n ≤ length shown) × TellsMore Told (take n shown) before after × (ended after ≡ ended before)
AfterWrite Told ended before after shown takes.Nothing = KeepsTold Told before after × (ended after ≡ ended before)
AfterWrite Told ended before after shown takes.Fault = KeepsTold Told before after × (ended after ≡ true)
