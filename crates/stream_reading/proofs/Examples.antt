-- Streams with known answers.
use Rattle.std.proofs.Common.{◌≡◌, ℕ, List, [], ◌∷◌, refl}
use Rattle.stream_reading.specs.declared.step.Phase.TheVariants.{FirstHeader, SecondHeader, Open}
use Rattle.stream_reading.specs.declared.step.Event.TheVariants.{SaslHeader, AmqpHeader, AmqpFrame}
use Rattle.stream_reading.specs.Stream.{MayStand}
use Rattle.stream_reading.specs.Steps.{MayFollow, IsAfter, frames_of}

-- ---- the AMQP header may stand first, and behind an exchange; the SASL header only first

amqp_first : MayStand FirstHeader AmqpHeader (65 ∷ 77 ∷ 81 ∷ 80 ∷ 0 ∷ 1 ∷ 0 ∷ 0 ∷ [])
amqp_first = refl

amqp_behind : MayStand SecondHeader AmqpHeader (65 ∷ 77 ∷ 81 ∷ 80 ∷ 0 ∷ 1 ∷ 0 ∷ 0 ∷ [])
amqp_behind = refl

sasl_first : MayStand FirstHeader SaslHeader (65 ∷ 77 ∷ 81 ∷ 80 ∷ 3 ∷ 1 ∷ 0 ∷ 0 ∷ [])
sasl_first = refl

sasl_behind : (octets : List ℕ) → ¬ MayStand SecondHeader SaslHeader octets
sasl_behind octets is = is

frame_first : (octets : List ℕ) → ¬ MayStand FirstHeader AmqpFrame octets
frame_first octets is = is

-- ---- two headers are no stream, also not behind an exchange that did not happen

one_header : IsAfter (65 ∷ 77 ∷ 81 ∷ 80 ∷ 0 ∷ 1 ∷ 0 ∷ 0 ∷ 9 ∷ []) (record { event = AmqpHeader; octets = 65 ∷ 77 ∷ 81 ∷ 80 ∷ 0 ∷ 1 ∷ 0 ∷ 0 ∷ [] } ∷ []) (record { phase = Open; octets = 9 ∷ [] })
one_header = record { parts = refl; follow = (refl, refl) }

two_headers : (rest : List ℕ) → ¬ MayFollow FirstHeader (record { event = AmqpHeader; octets = 65 ∷ 77 ∷ 81 ∷ 80 ∷ 0 ∷ 1 ∷ 0 ∷ 0 ∷ [] } ∷ record { event = AmqpHeader; octets = rest } ∷ []) Open
two_headers rest follow = follow.1.0

-- ---- the frames among steps

frames_alone : frames_of (record { event = AmqpHeader; octets = 1 ∷ [] } ∷ record { event = AmqpFrame; octets = 2 ∷ [] } ∷ record { event = AmqpFrame; octets = 3 ∷ [] } ∷ []) ≡ (2 ∷ []) ∷ (3 ∷ []) ∷ []
frames_alone = refl
