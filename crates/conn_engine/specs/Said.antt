-- What the frames of a connection say of the connection itself: its open and its close (part 2 of the standard, sections
-- 2.7.1 and 2.7.9).
use Rattle.std.specs.Prelude.{ℕ, Bool, true, false, List, Option, Some, None, Result, Ok, Err, unwrap_or}
use Rattle.flow_counts.specs.declared.profile.TheConstants.{MAX_FRAME_SIZE}
use Rattle.amqp_frames.specs.declared.frame.FrameKind.{FrameKind}
use Rattle.amqp_frames.specs.declared.frame.FrameKind.TheVariants.{Amqp, Sasl}
use Rattle.amqp_frames.specs.Frame.{Frame}
use Rattle.amqp_frames.specs.Reading.{whole_frame}
use Rattle.amqp_perf.specs.declared.fault.PerfFault.{PerfFault}
use Rattle.amqp_perf.specs.Meaning.{Meaning, AnOpen, AClose}
use Rattle.amqp_perf.specs.Reading.{performative_at}

-- what was read says
abbrev pub said_read : Result (Meaning × List ℕ) PerfFault → Option Meaning
said_read (Ok read) = Some read.0
said_read (Err fault) = None

-- what the body of a frame of this kind says
abbrev pub said_in_body : FrameKind → List ℕ → Option Meaning
said_in_body Sasl body = None
said_in_body Amqp body = said_read (performative_at body)

abbrev pub said_in_frame : Option Frame → Option Meaning
said_in_frame None = None
said_in_frame (Some frame) = said_in_body frame.kind frame.body

-- what octets say, where they are a frame of AMQP
abbrev pub said_in : List ℕ → Option Meaning
said_in octets = said_in_frame (whole_frame MAX_FRAME_SIZE octets)

-- it is an open
abbrev pub is_open_meaning : Meaning → Bool
is_open_meaning (AnOpen fields) = true
is_open_meaning meaning = false

abbrev pub is_open_said : Option Meaning → Bool
is_open_said None = false
is_open_said (Some meaning) = is_open_meaning meaning

-- the octets are a frame that is an open
abbrev pub is_open : List ℕ → Bool
is_open octets = is_open_said (said_in octets)

-- it is a close
abbrev pub is_close_meaning : Meaning → Bool
is_close_meaning (AClose error) = true
is_close_meaning meaning = false

abbrev pub is_close_said : Option Meaning → Bool
is_close_said None = false
is_close_said (Some meaning) = is_close_meaning meaning

-- the octets are a frame that is a close
abbrev pub is_close : List ℕ → Bool
is_close octets = is_close_said (said_in octets)

-- the idle-time-out of an open, in milliseconds; 0 where it has none
abbrev pub time_out_meant : Meaning → Option ℕ
time_out_meant (AnOpen fields) = Some (unwrap_or fields.idle_time_out 0)
time_out_meant meaning = None

abbrev pub time_out_said : Option Meaning → Option ℕ
time_out_said None = None
time_out_said (Some meaning) = time_out_meant meaning

-- that of the open that the octets are, if they are one
abbrev pub time_out_in : List ℕ → Option ℕ
time_out_in octets = time_out_said (said_in octets)
