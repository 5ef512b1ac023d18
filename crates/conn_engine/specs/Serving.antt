-- What an engine of one connection has told the router and has given, by all octets that it was fed.
use Rattle.std.specs.Prelude.{Bool, ◌≡◌, ℕ, ◌⊎◌, List, [], ◌∷◌, ◌++◌, Option, None}
use Rattle.std.specs.List.{flat_map}
use Rattle.capture_form.specs.declared.records.What.{What}
use Rattle.capture_form.specs.declared.records.What.TheVariants as happened
use Rattle.stream_reading.specs.declared.step.Phase.TheVariants.{Open}
use Rattle.stream_reading.specs.declared.step.Event.{Event}
use Rattle.stream_reading.specs.declared.step.Event.TheVariants.{SaslHeader, AnonymousInit, AmqpHeader, AmqpFrame}
use Rattle.stream_reading.specs.declared.step.StreamFault.{StreamFault}
use Rattle.stream_reading.specs.declared.step.StreamFault.TheVariants as stops
use Rattle.stream_reading.specs.Stream.{BeginsWith, IsLess, IsRefused, MayStand, answer_to, answer_to_fault}
use Rattle.stream_reading.specs.Steps.{Ahead, IsAfter, StepText, answers_to}
use Rattle.conn_engine.specs.declared.engine_state.Loss.{Loss}
use Rattle.conn_engine.specs.declared.engine_state.Loss.TheVariants.{Untold, Told, Refused}
use Rattle.conn_engine.specs.declared.engine_state.EngineState.{EngineState}
use Rattle.conn_engine.specs.declared.engine_state.EngineState.TheVariants.{Reading, Closing, Over}
use Rattle.conn_engine.specs.declared.frame_ends.FrameEnds.{FrameEnds}
use Rattle.conn_engine.specs.declared.silence.Silence.{Silence}
use Rattle.conn_engine.specs.Lacing.{IsPut}
use Rattle.conn_engine.specs.Silence.{is_asked, time_out_after}

-- a connection, as contracts see its engine: the items and frames of its port, the octets that were fed and are of no
-- step that was taken, those that wait to be given, whether the port may have had no frame more when it was asked last,
-- where the first open and the first close of the port end among those that wait, where it is, the idle-time-out of the
-- client's open, once it came, and how long nothing was given
pub record Connection : Type 0 where
  pub number : ℕ
  pub items : List What
  pub frames : List (List ℕ)
  pub ahead : Ahead
  pub waiting : List ℕ
  pub is_idle : Bool
  pub frame_ends : FrameEnds
  pub place : EngineState
  pub time_out : Option ℕ
  pub silence : Silence

-- ---- the items of a stream

-- what a step tells the router: that the header was accepted, and each frame
abbrev pub items_in : Event → List ℕ → List What
items_in SaslHeader octets = []
items_in AnonymousInit octets = []
items_in AmqpHeader octets = happened.Opened ∷ []
items_in AmqpFrame octets = happened.In octets ∷ []

-- what steps tell it, in their order
abbrev pub items_of : List StepText → List What
items_of steps = flat_map (λ step. items_in step.event step.octets) steps

-- what it is told of a loss
abbrev pub items_at_loss : Loss → List What
items_at_loss Untold = []
items_at_loss Told = happened.Lost ∷ []
items_at_loss Refused = []

-- what is ahead where octets more were fed, which are not kept
abbrev pub and_unkept : Ahead → List ℕ → Ahead
and_unkept ahead unkept = record { phase = ahead.phase; octets = ahead.octets ++ unkept }

-- the octets ahead are no frame, where frames are due
abbrev pub StopsBeingFrames : Ahead → Type 0
StopsBeingFrames ahead = (ahead.phase ≡ Open) × IsRefused ahead.phase ahead.octets stops.BadFrame

-- the router may have been told that the octets stopped being frames, and the loss behind that
pub record EndsOver (ahead : Ahead) (loss : Loss) (last : List What) : Type 0 where
  pub broken : List What
  pub is_broken : (broken ≡ []) ⊎ ((broken ≡ happened.Broken ∷ []) × StopsBeingFrames ahead)
  pub parts : last ≡ broken ++ items_at_loss loss

-- what the items end with behind those of the steps, by what is ahead and what was not kept of the octets behind it:
-- nothing while they are read, and then all are kept and no step is whole
abbrev pub EndsAt : EngineState → Ahead → List ℕ → List What → Type 0
EndsAt Reading ahead unkept last = (last ≡ []) × (unkept ≡ []) × IsLess ahead.phase ahead.octets
EndsAt Closing ahead unkept last = (last ≡ happened.Broken ∷ []) × StopsBeingFrames ahead
EndsAt (Over loss) ahead unkept last = EndsOver ahead loss last

-- These octets were fed. The items are those of all of them, until it is over: Opened at the AMQP header, In for each
-- frame behind it, Broken where the octets stop being frames, and nothing behind that. Then they are the first of
-- these, and Lost once where the router was told so. The idle-time-out is that of the first open among the frames.
pub record HasFed (c : Connection) (fed : List ℕ) : Type 0 where
  pub steps : List StepText
  pub unkept : List ℕ
  pub last : List What
  pub follows : IsAfter fed steps (and_unkept c.ahead unkept)
  pub items : c.items ≡ items_of steps ++ last
  pub time_out : c.time_out ≡ time_out_after None steps
  pub ends : EndsAt c.place c.ahead unkept last

-- ---- the octets given

-- whether all is given that is due, or memory was refused to some of it
pub data Extent : Type 0 where
  Whole : Extent
  Part : Extent

-- what is said behind the answers to the steps, where nothing more will be: to the AMQP header, if the router did not
-- take the connection; to a fault; nothing where frames or no whole step are ahead
abbrev pub SaysLast : Ahead → List ℕ → List ℕ → Type 0
SaysLast ahead unkept said =
    ((said ≡ []) × (ahead.phase ≡ Open))
    ⊎ ((said ≡ []) × (unkept ≡ []) × IsLess ahead.phase ahead.octets)
    ⊎ ((fault : StreamFault) × (said ≡ answer_to_fault fault) × IsRefused ahead.phase ahead.octets fault)
    ⊎ ((octets : List ℕ) × (said ≡ answer_to AmqpHeader) × MayStand ahead.phase AmqpHeader octets × BeginsWith ahead.octets octets)

-- what is said behind the answers to the steps, by where it is
abbrev pub SaysAt : Extent → EngineState → Ahead → List ℕ → List ℕ → Type 0
SaysAt extent Reading ahead unkept said = (said ≡ []) × (unkept ≡ []) × IsLess ahead.phase ahead.octets
SaysAt extent Closing ahead unkept said = (said ≡ []) × (ahead.phase ≡ Open)
SaysAt Extent.Whole (Over loss) ahead unkept said = SaysLast ahead unkept said
SaysAt Extent.Part (Over loss) ahead unkept said = (said ≡ []) ⊎ SaysLast ahead unkept said

-- These octets were fed, and those given, and so many ticks placed an empty frame. The octets given and those that wait are
-- the answers to what was fed, and then the frames of the port, in order, with these empty ones between them; where memory
-- was refused, the first answers.
pub record HasGiven (extent : Extent) (c : Connection) (fed given : List ℕ) (ticks : ℕ) : Type 0 where
  pub steps : List StepText
  pub unkept : List ℕ
  pub said : List ℕ
  pub put : List ℕ
  pub follows : IsAfter fed steps (and_unkept c.ahead unkept)
  pub octets : given ++ c.waiting ≡ (answers_to steps ++ said) ++ put
  pub is_put : IsPut c.frames c.frame_ends (is_asked c.time_out) ticks put
  pub says : SaysAt extent c.place c.ahead unkept said
  pub behind : (c.ahead.phase ≡ Open) ⊎ (c.frames ≡ [])
