-- What is written is read again.
use Rattle.std.proofs.Common.{◌≡◌, ap, ◌∙◌, ◌++◌, Some, Ok}
use Rattle.flow_counts.specs.declared.profile.TheConstants.{MAX_FRAME_SIZE}
use Rattle.amqp_frames.specs.declared.frame.FrameKind.TheVariants as kinds
use Rattle.amqp_frames.specs.Reading.{whole_frame}
use Rattle.amqp_frames.specs.Writing.{frame_octets, frame_with}
use Rattle.amqp_perf.specs.Reading.{performative_at}
use Rattle.amqp_perf.specs.Writing.{performative_octets}
use Rattle.trace_events.specs.Frame.{Spoken, Says, body_in, said_on, frame_read}
use Rattle.trace_events.specs.Written.{spoken_octets}
use Rattle.route_dues.specs.Writing.{IsReadAgain}

pub read_again : (spoken : Spoken) → (let body = performative_octets spoken.meaning ++ spoken.payload in
    whole_frame MAX_FRAME_SIZE (frame_octets kinds.Amqp spoken.channel body) ≡ Some (frame_with kinds.Amqp spoken.channel body))
    → performative_at (performative_octets spoken.meaning ++ spoken.payload) ≡ Ok (spoken.meaning, spoken.payload) → IsReadAgain spoken
unfolding frame_read spoken_octets
read_again spoken framed again =
    let body = performative_octets spoken.meaning ++ spoken.payload in
    let said : body_in (whole_frame MAX_FRAME_SIZE (frame_octets kinds.Amqp spoken.channel body)) ≡ Says spoken =
    ap body_in framed ∙ ap (said_on spoken.channel) again in
    ap (λ read. record { octets = frame_octets kinds.Amqp spoken.channel body; body = read }) said
