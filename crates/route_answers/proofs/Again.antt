-- What is written is read again, and can be written.
use Rattle.std.proofs.Common.{◌≡◌, refl, ap, subst, ◌∙◌, ℕ, ◌≤◌, ◌<◌, ◌^◌, [], ◌++◌, length, Option, Some, None, Ok, option_map, arith}
use Rattle.std.proofs.lemmas.List.{length-append}
use Rattle.flow_counts.specs.declared.profile.TheConstants.{MAX_FRAME_SIZE}
use Rattle.amqp_perf.specs.declared.condition.ErrorCondition.{ErrorCondition}
use Rattle.amqp_perf.specs.Conditions.{condition_name}
use Rattle.amqp_perf.specs.Meaning.{Meaning, AnEnd, AClose}
use Rattle.amqp_perf.specs.Reading.{performative_at}
use Rattle.amqp_perf.specs.Writing.{performative_octets, IsWritable}
use Rattle.amqp_perf.proofs.Writable as writable
use Rattle.amqp_frames.specs.declared.frame.FrameKind.TheVariants as kinds
use Rattle.amqp_frames.specs.Reading.{whole_frame}
use Rattle.amqp_frames.specs.Writing.{frame_octets, frame_size, frame_with}
use Rattle.trace_events.specs.Frame.{Spoken, Says, body_in, said_on, frame_read}
use Rattle.trace_events.specs.Written.{spoken_octets, says, error_of}
use Rattle.route_answers.specs.Writing.{frame_of}
use Rattle.route_answers.proofs.Lengths.{spoken_long}

-- a short frame has a short body
pub body_short : (channel : ℕ) (m : Meaning) → length (spoken_octets (says channel m)) ≤ 512 → frame_size (performative_octets m ++ []) ≤ 16384
body_short channel m short = omega (arith, short, spoken_long (says channel m), length-append (performative_octets m) [])

pub body_fits : (channel : ℕ) (m : Meaning) → length (spoken_octets (says channel m)) ≤ 512 → frame_size (performative_octets m ++ []) < 2 ^ 32
body_fits channel m short = omega (arith, body_short channel m short)

pub reads_back : (spoken : Spoken)
    → whole_frame 16384 (frame_octets kinds.Amqp spoken.channel (performative_octets spoken.meaning ++ spoken.payload))
    ≡ Some (frame_with kinds.Amqp spoken.channel (performative_octets spoken.meaning ++ spoken.payload))
    → performative_at (performative_octets spoken.meaning ++ spoken.payload) ≡ Ok (spoken.meaning, spoken.payload) → frame_read (spoken_octets spoken) ≡ frame_of spoken
unfolding frame_read spoken_octets
reads_back spoken whole again =
    let body = performative_octets spoken.meaning ++ spoken.payload in
    let read : body_in (whole_frame MAX_FRAME_SIZE (frame_octets kinds.Amqp spoken.channel body)) ≡ Says spoken = ap body_in whole ∙ ap (said_on spoken.channel) again in
    ap (λ b. record { octets = frame_octets kinds.Amqp spoken.channel body; body = b }) read

named : (condition : Option ErrorCondition) → option_map condition_name condition ≡ error_of condition
named None = refl
named (Some condition) = refl

pub end_writable : (condition : Option ErrorCondition) → IsWritable (AnEnd (error_of condition))
end_writable condition = subst (λ e. IsWritable (AnEnd e)) (named condition) (writable.end_writable condition)

pub close_writable : (condition : Option ErrorCondition) → IsWritable (AClose (error_of condition))
close_writable condition = subst (λ e. IsWritable (AClose e)) (named condition) (writable.close_writable condition)
