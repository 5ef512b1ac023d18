-- What a device and its engine come to, turn by turn.
use Rattle.std.specs.Prelude.{◌≡◌, ℕ, ◌⊎◌, Bool, true, List, [], ◌++◌, Option, Some, None, Result, Ok, Err}
use Rattle.std.specs.List.{concat, list_any}
use Rattle.capture_form.specs.declared.records.What.{What}
use Rattle.stream_reading.specs.declared.step.Phase.TheVariants as phases
use Rattle.stream_reading.specs.Steps.{Ahead}
use Rattle.conn_engine.specs.declared.fault.EngineFault.{EngineFault}
use Rattle.conn_engine.specs.declared.fault.EngineFault.TheVariants as faults
use Rattle.conn_engine.specs.declared.engine_state.Loss.TheVariants.{Untold, Told, Refused}
use Rattle.conn_engine.specs.declared.engine_state.EngineState.{EngineState}
use Rattle.conn_engine.specs.declared.engine_state.EngineState.TheVariants.{Reading, Closing, Over}
use Rattle.conn_engine.specs.Lacing.{IsPut}
use Rattle.conn_engine.specs.Said.{is_close}
use Rattle.conn_engine.specs.Serving.{Connection}
use Rattle.conn_engine.specs.Silence.{is_asked, time_out_after}
use Rattle.conn_engine.specs.declared.serving.Status.{Status}
use Rattle.conn_engine.specs.declared.serving.Status.TheVariants.{Open, Ended, Failed}
use Rattle.conn_engine.specs.declared.serving.Stop.{Stop}
use Rattle.conn_engine.specs.declared.serving.Stop.TheVariants as stops
use Rattle.conn_engine.specs.declared.serving.Turn.{Turn}
use Rattle.conn_engine.specs.declared.serving.Turn.TheVariants as turns
use Rattle.conn_engine.specs.declared.serving.Motion.{Motion}
use Rattle.conn_engine.specs.declared.serving.Motion.TheVariants.{Moved, Still, Gone}
use Rattle.conn_engine.specs.Streams.{IsStopped, IsStream, IsTurnedAway, IsUnfinished, IsWritten, loss_at}

-- ---- an engine that serves

-- a close is among the frames
abbrev pub HasClose : List (List ℕ) → Type 0
HasClose frames = list_any is_close frames ≡ true

-- why an engine is over, if it is: the client was turned away, or a close was given
abbrev pub IsOverFor : EngineState → Ahead → List (List ℕ) → Type 0
IsOverFor Reading ahead frames = Unit {0}
IsOverFor Closing ahead frames = Unit {0}
IsOverFor (Over Untold) ahead frames = IsTurnedAway ahead ⊎ HasClose frames
IsOverFor (Over Told) ahead frames = ⊥
IsOverFor (Over Refused) ahead frames = ⊥

-- these octets were fed to an engine, and a device took these: its items are those of all octets fed, and the octets that
-- were taken and those that wait are the answers to these and then its frames, with empty ones between them
pub record IsServing (e : Connection) (octets taken : List ℕ) : Type 0 where
  pub answers : List ℕ
  pub stream : IsStream octets e.ahead e.items answers
  pub reads : e.place ≡ Reading → IsUnfinished e.ahead stream.behind stream.told stream.said
  pub closes : e.place ≡ Closing → IsStopped e.ahead stream.told stream.said
  pub put : List ℕ
  pub given : taken ++ e.waiting ≡ answers ++ put
  pub ticks : ℕ
  pub is_put : IsPut e.frames e.frame_ends (is_asked e.time_out) ticks put
  pub time_out : e.time_out ≡ time_out_after None stream.steps
  pub behind : (e.ahead.phase ≡ phases.Open) ⊎ (e.frames ≡ [])
  pub over : IsOverFor e.place e.ahead e.frames

-- the same, and what is noted stands for the octets of the frames, for those that the device took, and for those that wait
pub record IsNoted (e : Connection) (Stands : List ℕ → List ℕ → List ℕ → Type 0) (octets taken : List ℕ) : Type 0 where
  pub serving : IsServing e octets taken
  pub stands : Stands (concat e.frames) taken e.waiting

-- where nothing is noted, that stands for all octets
abbrev pub NothingNoted : List ℕ → List ℕ → List ℕ → Type 0
NothingNoted framed taken waiting = Unit {0}

-- ---- a gate and its engine

-- the engine was fed what the gate delivered, and the gate took the octets of it for which what is noted stands
pub record IsOpen {G : Type 0} (Delivered Took : G → List ℕ → Type 0) (gate : G) (e : Connection) (Stands : List ℕ → List ℕ → List ℕ → Type 0) : Type 0 where
  pub octets : List ℕ
  pub taken : List ℕ
  pub delivered : Delivered gate octets
  pub took : Took gate taken
  pub noted : IsNoted e Stands octets taken

-- why a connection has ended: its gate answered End or Fault; or its engine was over, since the client was turned away or a close
-- is among the frames, and the gate had taken all that it had to give
abbrev pub HasCause : Bool → Ahead → List (List ℕ) → List ℕ → Type 0
HasCause has_ended ahead frames waiting = (has_ended ≡ true) ⊎ ((IsTurnedAway ahead ⊎ HasClose frames) × (waiting ≡ []))

-- What came of a connection: the items are those of all that its gate delivered, and the loss, where it was opened; what the
-- gate took, and what waits, is the answers and then the frames that it was given, with empty ones between them where the
-- client asks for these
pub record IsServed {G : Type 0} (Delivered Took : G → List ℕ → Type 0) (ended : G → Bool) (gate : G) (items : List What) (frames : List (List ℕ)) (taken : List ℕ) : Type 0 where
  pub octets : List ℕ
  pub delivered : Delivered gate octets
  pub ahead : Ahead
  pub told : List What
  pub answers : List ℕ
  pub stream : IsStream octets ahead told answers
  pub items_are : items ≡ told ++ loss_at ahead.phase
  pub took : Took gate taken
  pub put : List ℕ
  pub written : IsWritten stream.steps frames put
  pub waiting : List ℕ
  pub given : taken ++ waiting ≡ answers ++ put
  pub cause : HasCause (ended gate) ahead frames waiting

-- the same of octets for which what is noted stands
pub record IsServedAsNoted {G : Type 0} (Delivered Took : G → List ℕ → Type 0) (ended : G → Bool) (gate : G) (items : List What) (frames : List (List ℕ)) (Stands : List ℕ → List ℕ → List ℕ → Type 0) : Type 0 where
  pub taken : List ℕ
  pub waiting : List ℕ
  pub stands : Stands (concat frames) taken waiting
  pub served : IsServed Delivered Took ended gate items frames taken

-- what holds of a line, by how far it is
abbrev pub LineHolds : {G : Type 0} → (G → List ℕ → Type 0) → (G → List ℕ → Type 0) → (G → Bool) → Status → G → Connection → (List ℕ → List ℕ → List ℕ → Type 0) → Type 0
LineHolds Delivered Took ended Open gate e Stands = IsOpen Delivered Took gate e Stands
LineHolds Delivered Took ended Ended gate e Stands = IsServedAsNoted Delivered Took ended gate e.items e.frames Stands
LineHolds Delivered Took ended Failed gate e Stands = Unit {0}

-- how far it is behind a turn
abbrev pub status_after : Turn → Status
status_after turns.Moved = Open
status_after turns.Still = Open
status_after turns.Ended = Ended

-- ---- turns

-- what two parts of a turn did
abbrev pub either_motion : Motion → Motion → Motion
either_motion wrote Moved = Moved
either_motion wrote Still = wrote
either_motion wrote Gone = Gone

-- why a worker does not go on behind an engine's answer
abbrev pub stop_of : Result Unit EngineFault → Option Stop
stop_of (Ok done) = None
stop_of (Err faults.HeaderRefused) = None
stop_of (Err faults.Frame) = None
stop_of (Err (faults.Port fault)) = Some stops.Core
stop_of (Err faults.Over) = None
stop_of (Err faults.SaslRefused) = None
stop_of (Err faults.Memory) = Some stops.Memory
