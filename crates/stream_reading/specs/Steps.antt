-- A client's stream as the steps that it is made of, in whatever pieces its octets come.
use Rattle.std.specs.Prelude.{◌≡◌, ℕ, List, [], ◌∷◌, ◌++◌}
use Rattle.std.specs.List.{flat_map}
use Rattle.stream_reading.specs.declared.step.Phase.{Phase}
use Rattle.stream_reading.specs.declared.step.Phase.TheVariants.{FirstHeader}
use Rattle.stream_reading.specs.declared.step.Event.{Event}
use Rattle.stream_reading.specs.declared.step.Event.TheVariants.{SaslHeader, AnonymousInit, AmqpHeader, AmqpFrame}
use Rattle.stream_reading.specs.Stream.{MayStand, phase_after, answer_to}

-- a step, apart from where it lies in memory
pub record StepText : Type 0 where
  pub event : Event
  pub octets : List ℕ

-- steps that a client may send one behind the other, and what comes next
abbrev pub MayFollow : Phase → List StepText → Phase → Type 0
MayFollow phase [] next = next ≡ phase
MayFollow phase (step ∷ steps) next = MayStand phase step.event step.octets × MayFollow (phase_after step.event) steps next

-- the octets of steps
abbrev pub octets_of : List StepText → List ℕ
octets_of steps = flat_map (λ step. step.octets) steps

-- what is answered to steps, in their order
abbrev pub answers_to : List StepText → List ℕ
answers_to steps = flat_map (λ step. answer_to step.event) steps

-- the octets of an AMQP frame; none of another step
abbrev pub frame_in : Event → List ℕ → List (List ℕ)
frame_in SaslHeader octets = []
frame_in AnonymousInit octets = []
frame_in AmqpHeader octets = []
frame_in AmqpFrame octets = octets ∷ []

-- the AMQP frames among steps, in their order
abbrev pub frames_of : List StepText → List (List ℕ)
frames_of steps = flat_map (λ step. frame_in step.event step.octets) steps

-- what a reader of a stream has ahead: octets that were fed and are of no step that was taken, and what comes next
pub record Ahead : Type 0 where
  pub phase : Phase
  pub octets : List ℕ

-- a stream was fed, these steps of it were taken, and this is ahead
pub record IsAfter (stream : List ℕ) (steps : List StepText) (ahead : Ahead) : Type 0 where
  pub parts : stream ≡ octets_of steps ++ ahead.octets
  pub follow : MayFollow FirstHeader steps ahead.phase

-- a step more
abbrev pub and_step : List StepText → Event → List ℕ → List StepText
and_step steps event octets = steps ++ record { event = event; octets = octets } ∷ []
