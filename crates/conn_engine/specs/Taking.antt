-- What an engine takes from its port, and tells it at the end.
use Rattle.std.specs.Prelude.{◌≡◌, ◌≢◌, ℕ, ◌<◌, ◌≤◌, ◌^◌, ◌⊎◌, Bool, true, false, List, [], ◌∷◌, ◌++◌, length, Result, Ok, Err, IsOk}
use Rattle.std.specs.List.{concat}
use Rattle.capture_form.specs.declared.records.What.TheVariants as happened
use Rattle.stream_reading.specs.declared.step.Phase.{Phase}
use Rattle.stream_reading.specs.declared.step.Phase.TheVariants.{Open}
use Rattle.conn_engine.specs.declared.fault.EngineFault.{EngineFault}
use Rattle.conn_engine.specs.declared.taking.TheConstants.{ENOUGH_OCTETS}
use Rattle.conn_engine.specs.declared.engine_state.Loss.{Loss}
use Rattle.conn_engine.specs.declared.engine_state.Loss.TheVariants.{Untold, Told, Refused}
use Rattle.conn_engine.specs.declared.engine_state.EngineState.{EngineState}
use Rattle.conn_engine.specs.declared.engine_state.EngineState.TheVariants.{Reading, Closing, Over}
use Rattle.conn_engine.specs.declared.frame_ends.FrameEnds.{FrameEnds}
use Rattle.conn_engine.specs.Closing.{over_of}
use Rattle.conn_engine.specs.FrameEnds.{frame_ends_at, frame_ends_after}
use Rattle.conn_engine.specs.Feeding.{ItemFault}
use Rattle.conn_engine.specs.Serving.{Connection}

-- a port gave frames more, which stand behind what waited, and this is where the first open and the first close end
pub record TookFrames (frames frames_then : List (List ℕ)) (waiting waiting_then : List ℕ) (frame_ends frame_ends_then : FrameEnds) : Type 0 where
  pub more : List (List ℕ)
  pub given : frames_then ≡ frames ++ more
  pub put : waiting_then ≡ waiting ++ concat more
  pub ends_are : frame_ends_then ≡ frame_ends_after frame_ends (length waiting) more

-- a port was asked for a frame from a record's number on: it gave one, and the next is asked for from a higher number,
-- or none
abbrev pub TookFrame : (frames frames_then : List (List ℕ)) (waiting waiting_then : List ℕ) (frame_ends frame_ends_then : FrameEnds) (next next_then : ℕ) → Bool → Type 0
TookFrame frames frames_then waiting waiting_then frame_ends frame_ends_then next next_then true =
    (frame : List ℕ) × (frames_then ≡ frames ++ frame ∷ []) × (waiting_then ≡ waiting ++ frame) × (frame_ends_then ≡ frame_ends_at frame_ends (length waiting) frame) × (next < next_then) × (next_then < 2 ^ 64)
TookFrame frames frames_then waiting waiting_then frame_ends frame_ends_then next next_then false =
    (frames_then ≡ frames) × (waiting_then ≡ waiting) × (frame_ends_then ≡ frame_ends) × (next_then ≡ next)

-- enough octets wait, or the port may have had no frame more when it was asked
abbrev pub IsRefilled : Bool → List ℕ → Type 0
IsRefilled is_idle waiting = (ENOUGH_OCTETS ≤ length waiting) ⊎ (is_idle ≡ true)

-- what taking frames changed of a connection: before the AMQP header was accepted, nothing
pub record Refilled (before after : Connection) : Type 0 where
  pub took : TookFrames before.frames after.frames before.waiting after.waiting before.frame_ends after.frame_ends
  pub closed : before.ahead.phase ≢ Open → after.frames ≡ before.frames

-- the router is still to be told of a loss: it was told that the connection is open, and of no loss
abbrev pub is_loss_due : Phase → EngineState → Bool
is_loss_due Open Reading = true
is_loss_due Open Closing = true
is_loss_due Open (Over Untold) = true
is_loss_due phase place = false

-- whether it was told
abbrev pub loss_of : Result Unit EngineFault → Loss
loss_of (Ok done) = Told
loss_of (Err fault) = Refused

-- what is done when the device is gone: the router is told of the loss, if it still is to be
abbrev pub AfterLoss : Bool → Connection → Connection → Result Unit EngineFault → Type 0
AfterLoss true before after (Ok done) = after ≡ record before { items = before.items ++ happened.Lost ∷ []; is_idle = after.is_idle; place = Over Told }
AfterLoss true before after (Err fault) = (after ≡ record before { is_idle = after.is_idle; place = Over Refused }) × ItemFault fault
AfterLoss false before after result = IsOk result × (after ≡ record before { place = over_of before.place })
