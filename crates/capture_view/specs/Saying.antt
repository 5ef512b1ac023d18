-- What octets say that were recorded as a frame: by `frame_at` of the frames and `performative_at` of the performatives,
-- and where they say why not (places are own rules).
use Rattle.std.specs.Prelude.{ℕ, ◌+◌, ◌-◌, List, [], ◌∷◌, length, min, ◌^◌, Some, None, Result, Ok, Err, ◌==◌, if◌then◌else◌}
use Rattle.flow_counts.specs.declared.profile.TheConstants.{MAX_FRAME_SIZE}
use Rattle.amqp_frames.specs.declared.fault.FrameFault.{FrameFault}
use Rattle.amqp_frames.specs.declared.fault.FrameFault.TheVariants.{TooSmall, TooLarge, BadOffset, WrongType}
use Rattle.amqp_frames.specs.declared.frame.FrameKind.{FrameKind}
use Rattle.amqp_frames.specs.declared.frame.FrameKind.TheVariants.{Amqp, Sasl}
use Rattle.amqp_frames.specs.Frame.{Frame}
use Rattle.amqp_frames.specs.Reading.{ReadFrame, frame_at}
use Rattle.amqp_perf.specs.declared.fault.PerfFault.{PerfFault}
use Rattle.amqp_perf.specs.declared.fault.PerfFault.TheVariants.{Value, NotPerformative, MissingField, WrongType as WrongFieldType, TooManyFields}
use Rattle.amqp_perf.specs.Meaning.{Meaning}
use Rattle.amqp_perf.specs.Reading.{performative_at}
use Rattle.amqp_perf.specs.View as meanings
use Rattle.capture_view.specs.declared.said.FrameFlaw.{FrameFlaw}
use Rattle.capture_view.specs.declared.said.FrameFlaw.TheVariants as flaws
use Rattle.capture_view.specs.declared.said.Said.{Said}
use Rattle.capture_view.specs.declared.said.Said.TheVariants as saids

-- what octets say: a flaw and where it stands; an empty body on a channel; a fault on a channel, and where it stands;
-- or a performative on a channel, and the octets behind it
pub data Saying : Type 0 where
  NoFrame : FrameFlaw → ℕ → Saying
  NoBody : ℕ → Saying
  NoPerformative : ℕ → PerfFault → ℕ → Saying
  Says : ℕ → Meaning → List ℕ → Saying

-- a value of the code, apart from where it lies in memory
abbrev pub saying : Said → Saying
saying (saids.NoFrame flaw place) = NoFrame flaw place
saying (saids.Empty channel) = NoBody channel
saying (saids.NoPerformative channel fault place) = NoPerformative channel fault place
saying (saids.Says channel performative rest) = Says channel (meanings.view performative) rest.now

-- the octet that shows a fault of a frame: of the size, the data offset or the type (part 2, 2.3.1)
abbrev pub fault_place : FrameFault → ℕ
fault_place TooSmall = 0
fault_place TooLarge = 0
fault_place BadOffset = 4
fault_place WrongType = 5

-- the octet of a body that shows a fault of a performative: a value's where the value stands
abbrev pub fault_within : PerfFault → ℕ
fault_within (Value fault) = fault.at
fault_within NotPerformative = 0
fault_within (MissingField n) = 0
fault_within (WrongFieldType n) = 0
fault_within TooManyFields = 0

-- what a body says that is read so; it starts where as many octets are left as it has
abbrev pub said_as : Frame → Result (Meaning × List ℕ) PerfFault → Saying
said_as frame (Ok x) = Says frame.channel x.0 x.1
said_as frame (Err fault) =
    NoPerformative frame.channel fault (min (length frame.octets - length frame.body + fault_within fault) (2 ^ 64 - 1))

-- what a body says
abbrev pub said_on : Frame → List ℕ → Saying
said_on frame [] = NoBody frame.channel
said_on frame (octet ∷ octets) = said_as frame (performative_at (octet ∷ octets))

-- what the body of a frame of AMQP says
abbrev pub said_in : Frame → Saying
said_in frame = said_on frame frame.body

-- what a frame of this type says (part 5, 5.3.1: a SASL frame stands in front of a connection)
abbrev pub said_typed : FrameKind → Frame → Saying
said_typed Amqp frame = said_in frame
said_typed Sasl frame = NoFrame flaws.Sasl 5

-- what octets say that begin with a frame: they have to be all of it
abbrev pub said_of : List ℕ → Frame → Saying
said_of octets frame =
    if length frame.octets == length octets then said_typed frame.kind frame else NoFrame flaws.Long (length frame.octets)

-- what octets say that begin so
abbrev pub said_read : List ℕ → ReadFrame → Saying
said_read octets (Ok None) = NoFrame flaws.Short (length octets)
said_read octets (Ok (Some frame)) = said_of octets frame
said_read octets (Err fault) = NoFrame (flaws.Fault fault) (fault_place fault)

-- what octets say
abbrev pub said_by : List ℕ → Saying
said_by octets = said_read octets (frame_at MAX_FRAME_SIZE octets)
