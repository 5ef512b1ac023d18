-- What a feed does to what an engine keeps.
use Rattle.std.specs.Prelude.{◌≡◌, ℕ, ◌<◌, ◌≤◌, ◌⊎◌, Bool, true, false, List, [], ◌∷◌, ◌++◌, length, Option, Result, Ok, Err, ⊤}
use Rattle.flow_counts.specs.declared.profile.TheConstants.{MAX_FRAME_SIZE}
use Rattle.capture_form.specs.declared.records.What.{What}
use Rattle.capture_form.specs.declared.records.What.TheVariants as happened
use Rattle.stream_reading.specs.declared.step.Phase.{Phase}
use Rattle.stream_reading.specs.declared.step.Phase.TheVariants.{Open}
use Rattle.stream_reading.specs.declared.step.Event.{Event}
use Rattle.stream_reading.specs.declared.step.Event.TheVariants.{AmqpHeader, AmqpFrame}
use Rattle.stream_reading.specs.declared.step.StreamFault.{StreamFault}
use Rattle.stream_reading.specs.declared.step.StreamFault.TheVariants as stops
use Rattle.stream_reading.specs.Stream.{BeginsWith, IsLess, IsRefused, MayStand, phase_after, answer_to, answer_to_fault}
use Rattle.stream_reading.specs.Steps.{Ahead, MayFollow, StepText, answers_to, octets_of}
use Rattle.conn_engine.specs.declared.fault.EngineFault.{EngineFault}
use Rattle.conn_engine.specs.declared.fault.EngineFault.TheVariants as faults
use Rattle.conn_engine.specs.declared.engine_state.Loss.TheVariants.{Untold}
use Rattle.conn_engine.specs.declared.engine_state.EngineState.{EngineState}
use Rattle.conn_engine.specs.declared.engine_state.EngineState.TheVariants.{Reading, Closing, Over}
use Rattle.conn_engine.specs.Serving.{Connection, Extent, Part, and_unkept, items_of}
use Rattle.conn_engine.specs.Silence.{time_out_after}

-- the fault that a stream's is
abbrev pub engine_fault : StreamFault → EngineFault
engine_fault stops.HeaderRefused = faults.HeaderRefused
engine_fault stops.BadFrame = faults.Frame
engine_fault stops.SaslRefused = faults.SaslRefused

-- the number of each fault
abbrev pub engine_fault_number : EngineFault → ℕ
engine_fault_number faults.HeaderRefused = 1
engine_fault_number faults.Frame = 2
engine_fault_number (faults.Port fault) = 3
engine_fault_number faults.Over = 4
engine_fault_number faults.SaslRefused = 5
engine_fault_number faults.Memory = 6

-- ---- one step

-- why an item was not taken: the router refused it, or memory was refused
abbrev pub ItemFault : EngineFault → Type 0
ItemFault (faults.Port fault) = ⊤
ItemFault faults.Memory = ⊤
ItemFault fault = ⊥

-- a frame is no longer than a router takes it
abbrev pub IsShortStep : Event → List ℕ → Type 0
IsShortStep event octets = event ≡ AmqpFrame → length octets ≤ MAX_FRAME_SIZE

-- why a step's answer or item was not taken: the item, behind the answer, or the answer itself for want of memory
abbrev pub StepRefused : Event → List ℕ → List ℕ → EngineFault → Type 0
StepRefused event waiting waiting_then (faults.Port fault) = (phase_after event ≡ Open) × (waiting_then ≡ waiting ++ answer_to event)
StepRefused event waiting waiting_then faults.Memory = (waiting_then ≡ waiting) ⊎ ((phase_after event ≡ Open) × (waiting_then ≡ waiting ++ answer_to event))
StepRefused event waiting waiting_then fault = ⊥

-- what the router is told where the octets stop being frames: something where frames are due
abbrev pub items_at_fault : Phase → List What
items_at_fault Open = happened.Broken ∷ []
items_at_fault phase = []

-- what was said and told of a fault of the stream, and what is answered of it
abbrev pub FaultTold : Phase → StreamFault → List What → List ℕ → EngineFault → Type 0
FaultTold phase fault last said (faults.Port refusal) = (phase ≡ Open) × (last ≡ []) × (said ≡ answer_to_fault fault)
FaultTold phase fault last said faults.Memory = (last ≡ []) × ((said ≡ []) ⊎ ((phase ≡ Open) × (said ≡ answer_to_fault fault)))
FaultTold phase fault last said answered = (answered ≡ engine_fault fault) × (last ≡ items_at_fault phase) × (said ≡ answer_to_fault fault)

-- what was told and said more
abbrev pub ToldMore : (items items_then : List What) (waiting waiting_then : List ℕ) (Told : List What → List ℕ → Type 0) → Type 0
ToldMore items items_then waiting waiting_then Told =
    (last : List What) × (said : List ℕ) × (items_then ≡ items ++ last) × (waiting_then ≡ waiting ++ said) × Told last said

-- ---- steps

-- what a feed changes of a connection
pub record FeedState : Type 0 where
  pub items : List What
  pub ahead : Ahead
  pub waiting : List ℕ
  pub time_out : Option ℕ

abbrev pub feed_state : List What → Ahead → List ℕ → Option ℕ → FeedState
feed_state items ahead waiting time_out = record { items = items; ahead = ahead; waiting = waiting; time_out = time_out }

-- a piece was fed
abbrev pub and_piece : FeedState → List ℕ → FeedState
and_piece t piece = record { items = t.items; ahead = and_unkept t.ahead piece; waiting = t.waiting; time_out = t.time_out }

-- steps were taken from the front of what was ahead, each told and answered, and this was told and said behind them
pub record Went (before after : FeedState) (last : List What) (said : List ℕ) : Type 0 where
  pub steps : List StepText
  pub parts : before.ahead.octets ≡ octets_of steps ++ after.ahead.octets
  pub follow : MayFollow before.ahead.phase steps after.ahead.phase
  pub items : after.items ≡ before.items ++ (items_of steps ++ last)
  pub waiting : after.waiting ≡ before.waiting ++ (answers_to steps ++ said)
  pub time_out : after.time_out ≡ time_out_after before.time_out steps

-- the router did not take what is ahead: a frame or that octets are none, or, behind its answer, the AMQP header
abbrev pub ItemRefused : Ahead → List ℕ → Type 0
ItemRefused ahead said =
    ((said ≡ []) × (ahead.phase ≡ Open))
    ⊎ ((octets : List ℕ) × (said ≡ answer_to AmqpHeader) × MayStand ahead.phase AmqpHeader octets × BeginsWith ahead.octets octets)

-- why no further step was taken, and what was told and said of it: a fault of what is ahead, an item that was refused,
-- or memory
abbrev pub StopsFor : EngineFault → Ahead → List What → List ℕ → Type 0
StopsFor faults.HeaderRefused ahead last said = IsRefused ahead.phase ahead.octets stops.HeaderRefused × (last ≡ []) × (said ≡ answer_to_fault stops.HeaderRefused)
StopsFor faults.Frame ahead last said = IsRefused ahead.phase ahead.octets stops.BadFrame × (last ≡ items_at_fault ahead.phase) × (said ≡ [])
StopsFor (faults.Port fault) ahead last said = (last ≡ []) × ItemRefused ahead said
StopsFor faults.Over ahead last said = ⊥
StopsFor faults.SaslRefused ahead last said = IsRefused ahead.phase ahead.octets stops.SaslRefused × (last ≡ []) × (said ≡ answer_to_fault stops.SaslRefused)
StopsFor faults.Memory ahead last said = (last ≡ []) × ((said ≡ []) ⊎ ItemRefused ahead said)

abbrev pub Stopped : FeedState → FeedState → EngineFault → Type 0
Stopped before after fault = (last : List What) × (said : List ℕ) × Went before after last said × StopsFor fault after.ahead last said

-- what was done where a step was looked for
abbrev pub AfterStep : FeedState → FeedState → Result Bool EngineFault → Type 0
AfterStep before after (Ok true) = Went before after [] [] × (length after.ahead.octets < length before.ahead.octets)
AfterStep before after (Ok false) = (after ≡ before) × IsLess after.ahead.phase after.ahead.octets
AfterStep before after (Err fault) = Stopped before after fault

-- what was done where all whole steps were taken
abbrev pub AfterSteps : FeedState → FeedState → Result Unit EngineFault → Type 0
AfterSteps before after (Ok done) = Went before after [] [] × IsLess after.ahead.phase after.ahead.octets
AfterSteps before after (Err fault) = Stopped before after fault

-- what was done with a piece of the stream: all whole steps were taken, or the piece was not kept for want of memory
abbrev pub AfterPiece : FeedState → FeedState → List ℕ → Result Unit EngineFault → Type 0
AfterPiece before after piece result = AfterSteps (and_piece before piece) after result ⊎ ((result ≡ Err faults.Memory) × (after ≡ before))

-- ---- a feed

-- where an engine is whose octets stopped being frames: something is to be given where frames were due
abbrev pub place_at_fault : Phase → EngineState
place_at_fault Open = Closing
place_at_fault phase = Over Untold

-- where an engine is that read a piece
abbrev pub place_after : Result Unit EngineFault → Phase → EngineState
place_after (Ok done) phase = Reading
place_after (Err faults.Frame) phase = place_at_fault phase
place_after (Err fault) phase = Over Untold

abbrev pub feed_state_of : Connection → FeedState
feed_state_of c = feed_state c.items c.ahead c.waiting c.time_out

-- what a feed did, by where the engine was
abbrev pub FedAt : EngineState → Connection → Connection → List ℕ → Result Unit EngineFault → Type 0
FedAt Reading before after piece result = AfterPiece (feed_state_of before) (feed_state_of after) piece result × (after.place ≡ place_after result after.ahead.phase)
FedAt Closing before after piece result = (result ≡ Err faults.Frame) × (after ≡ before)
FedAt (Over loss) before after piece result = (result ≡ Err faults.Over) × (after ≡ before)

-- the octets fed, where those of a feed that answers that it is over are left out
abbrev pub and_fed : Result Unit EngineFault → List ℕ → List ℕ → List ℕ
and_fed (Err faults.Over) fed piece = fed
and_fed result fed piece = fed ++ piece

-- whether all is given that is due, behind a feed
abbrev pub extent_after : Extent → Result Unit EngineFault → Extent
extent_after extent (Err faults.Memory) = Part
extent_after extent result = extent
