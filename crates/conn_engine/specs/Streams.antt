-- What a client's octets come to, from the first one on: the items that the router is told of them, and what is answered
-- before the frames.
use Rattle.std.specs.Prelude.{◌≡◌, ◌≢◌, ℕ, ◌⊎◌, true, List, [], ◌∷◌, ◌++◌, None}
use Rattle.capture_form.specs.declared.records.What.{What}
use Rattle.capture_form.specs.declared.records.What.TheVariants as happened
use Rattle.stream_reading.specs.declared.step.Phase.{Phase}
use Rattle.stream_reading.specs.declared.step.Phase.TheVariants.{FirstHeader, Exchange, SecondHeader, Open}
use Rattle.stream_reading.specs.declared.step.StreamFault.{StreamFault}
use Rattle.stream_reading.specs.Stream.{IsLess, IsRefused, answer_to_fault}
use Rattle.stream_reading.specs.Steps.{Ahead, IsAfter, StepText, answers_to}
use Rattle.conn_engine.specs.Serving.{and_unkept, items_of}
use Rattle.conn_engine.specs.Feeding.{items_at_fault}
use Rattle.conn_engine.specs.Lacing.{IsLaced}
use Rattle.conn_engine.specs.Silence.{is_asked, time_out_after}

-- too few octets are left for a further step; nothing is told or said of them
abbrev pub IsUnfinished : Ahead → List ℕ → List What → List ℕ → Type 0
IsUnfinished ahead behind told said = (told ≡ []) × (said ≡ []) × (behind ≡ []) × IsLess ahead.phase ahead.octets

-- what is left begins with octets that no step can: the router is told Broken where frames are due, and the client is
-- answered
abbrev pub IsStopped : Ahead → List What → List ℕ → Type 0
IsStopped ahead told said =
    (fault : StreamFault) × IsRefused ahead.phase ahead.octets fault × (told ≡ items_at_fault ahead.phase) × (said ≡ answer_to_fault fault)

-- A client sent these octets. They are the steps that stand at their front, one behind the other, and what is ahead of
-- these, of which no step can be taken. The items are all that the router is told of them: Opened at the AMQP header, In
-- for each frame behind it, and Broken where the octets stop being frames. The answers are all that the client is answered
-- but frames.
pub record IsStream (octets : List ℕ) (ahead : Ahead) (items : List What) (answers : List ℕ) : Type 0 where
  pub steps : List StepText
  pub behind : List ℕ
  pub told : List What
  pub said : List ℕ
  pub follows : IsAfter octets steps (and_unkept ahead behind)
  pub ends : IsUnfinished ahead behind told said ⊎ IsStopped ahead told said
  pub items_are : items ≡ items_of steps ++ told
  pub answers_are : answers ≡ answers_to steps ++ said

-- What is written to a client behind the answers to these steps: the frames, in order and each once, and empty ones between
-- them, of which there are none where the client's open does not ask for them.
pub record IsWritten (steps : List StepText) (frames : List (List ℕ)) (octets : List ℕ) : Type 0 where
  pub count : ℕ
  pub laced : IsLaced frames count octets
  pub quiet : (count ≡ 0) ⊎ (is_asked (time_out_after None steps) ≡ true)

-- the client was turned away: it sent something else where a header or a SASL exchange was due
abbrev pub IsTurnedAway : Ahead → Type 0
IsTurnedAway ahead = (ahead.phase ≢ Open) × ((fault : StreamFault) × IsRefused ahead.phase ahead.octets fault)

-- what the router is told when such a connection has ended: Lost, where the AMQP header was accepted
abbrev pub loss_at : Phase → List What
loss_at FirstHeader = []
loss_at Exchange = []
loss_at SecondHeader = []
loss_at Open = happened.Lost ∷ []
