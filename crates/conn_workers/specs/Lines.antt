-- What a worker keeps of one connection.
use Rattle.std.specs.Prelude.{◌≡◌, ℕ, Bool, List, Some, slice_get}
use Rattle.core_exchange.specs.declared.seat.Seat.{Seat}
use Rattle.conn_engine.specs.Serving.{Connection}
use Rattle.conn_engine.specs.Scripts.{StandsFor, octets_taken}
use Rattle.conn_engine.specs.Served.{IsOpen, IsServed}
use Rattle.conn_engine.specs.declared.script.Script.{Script}
use Rattle.conn_engine.specs.declared.serving.Status.{Status}
use Rattle.conn_engine.specs.declared.serving.Status.TheVariants.{Open, Ended, Failed}

-- the gate is that of its number, after some calls
pub record IsFrom {G : Type 0} (gates : List G) (Follows : G → G → Type 0) (number : ℕ) (gate : G) : Type 0 where
  pub start : G
  pub given : slice_get gates number ≡ Some start
  pub follows : Follows start gate

-- what holds of a line whose octets a script notes, by how far it is: behind its end the script tells those that were taken
abbrev pub ScriptHolds : {G : Type 0} → (G → List ℕ → Type 0) → (G → List ℕ → Type 0) → (G → Bool) → Status → G → Connection → Script → Type 0
ScriptHolds Delivered Took ended Open gate e script = IsOpen Delivered Took gate e (StandsFor script)
ScriptHolds Delivered Took ended Ended gate e script = IsServed Delivered Took ended gate e.items e.frames (octets_taken script e.frames)
ScriptHolds Delivered Took ended Failed gate e script = Unit {0}

-- a gate that was shut, what it took, and the seat of its connection
pub record IsDone {G : Type 0} (gates : List G) (Follows : G → G → Type 0) (Delivered Took : G → List ℕ → Type 0) (ended : G → Bool) (gate : G) (taken : List ℕ) (seat : Seat) : Type 0 where
  pub from : IsFrom gates Follows seat.conn gate
  pub served : IsServed Delivered Took ended gate seat.items.items seat.frames.items taken
