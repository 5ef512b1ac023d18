-- What the server says, octet by octet.
use Rattle.std.proofs.Common.{◌≡◌, [], ◌∷◌, refl}
use Rattle.amqp_types.specs.Writing.{ubyte_octets, list_octets}
use Rattle.amqp_frames.specs.Writing.{frame_octets}
use Rattle.stream_reading.specs.declared.step.Event.TheVariants.{SaslHeader, AnonymousInit}
use Rattle.stream_reading.specs.declared.step.StreamFault.TheVariants.{SaslRefused}
use Rattle.stream_reading.specs.Stream.{answer_to, answer_to_fault}

pub mechanisms_said : 65 ∷ 77 ∷ 81 ∷ 80 ∷ 3 ∷ 1 ∷ 0 ∷ 0 ∷ 0 ∷ 0 ∷ 0 ∷ 28 ∷ 2 ∷ 1 ∷ 0 ∷ 0 ∷ 0 ∷ 83 ∷ 64 ∷ 192 ∷ 15 ∷ 1 ∷ 224 ∷ 12 ∷ 1 ∷ 163 ∷ 9 ∷ 65 ∷ 78 ∷ 79 ∷ 78 ∷ 89 ∷ 77 ∷ 79 ∷ 85 ∷ 83 ∷ [] ≡ answer_to SaslHeader
unfolding frame_octets list_octets
mechanisms_said = refl

pub outcome_said : 0 ∷ 0 ∷ 0 ∷ 16 ∷ 2 ∷ 1 ∷ 0 ∷ 0 ∷ 0 ∷ 83 ∷ 68 ∷ 192 ∷ 3 ∷ 1 ∷ 80 ∷ 0 ∷ [] ≡ answer_to AnonymousInit
unfolding frame_octets ubyte_octets list_octets
outcome_said = refl

pub refusal_said : 0 ∷ 0 ∷ 0 ∷ 16 ∷ 2 ∷ 1 ∷ 0 ∷ 0 ∷ 0 ∷ 83 ∷ 68 ∷ 192 ∷ 3 ∷ 1 ∷ 80 ∷ 1 ∷ [] ≡ answer_to_fault SaslRefused
unfolding frame_octets ubyte_octets list_octets
refusal_said = refl
