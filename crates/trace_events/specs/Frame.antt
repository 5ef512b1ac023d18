-- What the octets of a record are, as one whole frame (part 2 of the standard, section 2.3).
use Rattle.std.specs.Prelude.{ℕ, List, [], ◌∷◌, Option, Some, None, Result, Ok, Err}
use Rattle.amqp_frames.specs.declared.frame.FrameKind.{FrameKind}
use Rattle.amqp_frames.specs.declared.frame.FrameKind.TheVariants as kinds
use Rattle.amqp_frames.specs.Frame as whole
use Rattle.amqp_frames.specs.Reading.{whole_frame}
use Rattle.amqp_perf.specs.declared.fault.PerfFault.{PerfFault}
use Rattle.amqp_perf.specs.Meaning.{Meaning}
use Rattle.amqp_perf.specs.Reading.{performative_at}
use Rattle.flow_counts.specs.declared.profile.TheConstants.{MAX_FRAME_SIZE}

-- a performative on a channel, and what stands behind it: a transfer's payload
pub record Spoken : Type 0 where
  pub channel : ℕ
  pub meaning : Meaning
  pub payload : List ℕ

-- what octets are: not one whole frame of type AMQP; such a frame on a channel, with an empty body, or with one that
-- begins with no performative; or a performative
pub data Body : Type 0 where
  NoFrame : Body
  Empty : ℕ → Body
  NoPerformative : ℕ → Body
  Says : Spoken → Body

-- octets, and what they are
pub record Frame : Type 0 where
  pub octets : List ℕ
  pub body : Body

-- what a body says; octets behind a performative are passed over, except behind a transfer
abbrev pub said_on : ℕ → Result (Meaning × List ℕ) PerfFault → Body
said_on channel (Ok x) = Says (record { channel = channel; meaning = x.0; payload = x.1 })
said_on channel (Err fault) = NoPerformative channel

abbrev pub body_on : ℕ → List ℕ → Body
body_on channel [] = Empty channel
body_on channel (octet ∷ rest) = said_on channel (performative_at (octet ∷ rest))

abbrev pub body_by : FrameKind → ℕ → List ℕ → Body
body_by kinds.Amqp channel body = body_on channel body
body_by kinds.Sasl channel body = NoFrame

abbrev pub body_in : Option whole.Frame → Body
body_in None = NoFrame
body_in (Some frame) = body_by frame.kind frame.channel frame.body

-- the octets of a record, read
unfoldable pub frame_read : List ℕ → Frame
frame_read octets = record { octets = octets; body = body_in (whole_frame MAX_FRAME_SIZE octets) }

-- the performative, if it is one
abbrev pub spoken_in : Body → Option Spoken
spoken_in (Says spoken) = Some spoken
spoken_in _ = None

-- the channel, if it is a whole frame
abbrev pub channel_in : Body → Option ℕ
channel_in NoFrame = None
channel_in (Empty channel) = Some channel
channel_in (NoPerformative channel) = Some channel
channel_in (Says spoken) = Some spoken.channel
