-- Reading the frame at the front of octets, as far as they are there, up to the first fault.
use Rattle.std.specs.Prelude.{ℕ, List, length, take, drop, Option, Some, None, Result, Ok, Err, nat_lt, ◌||◌, ◌==◌, if◌then◌else◌}
use Rattle.byteorder.specs.Endian.{big_number}
use Rattle.amqp_frames.specs.declared.fault.FrameFault.{FrameFault}
use Rattle.amqp_frames.specs.declared.fault.FrameFault.TheVariants.{TooSmall, TooLarge, BadOffset, WrongType}
use Rattle.amqp_frames.specs.declared.frame.FrameKind.{FrameKind}
use Rattle.amqp_frames.specs.declared.frame.FrameKind.TheVariants.{Amqp, Sasl}
use Rattle.amqp_frames.specs.Frame.{Frame, stated_size, stated_start, stated_type}

-- what was read: a frame, none as long as octets are missing, or a fault
abbrev pub ReadFrame : Type 0
ReadFrame = Result (Option Frame) FrameFault

-- the type that an octet names (part 2, 2.3.1; part 5, 5.3.1)
abbrev pub kind_of : ℕ → Option FrameKind
kind_of octet = if octet == 0 then Some Amqp else if octet == 1 then Some Sasl else None

-- the frame whose octets these begin with, by its header
abbrev pub frame_of : FrameKind → List ℕ → Frame
frame_of kind octets =
    let whole = take (stated_size octets) octets in
    record { kind = kind; channel = big_number 2 (drop 6 whole); body = drop (stated_start octets) whole; octets = whole }

-- a frame of the type that its octet names, once all its octets are there
abbrev pub typed_frame : List ℕ → Option FrameKind → ReadFrame
typed_frame octets None = Err WrongType
typed_frame octets (Some kind) = if nat_lt (length octets) (stated_size octets) then Ok None else Ok (Some (frame_of kind octets))

-- a frame whose header is there (part 2, 2.3.1)
unfoldable pub headed_frame : List ℕ → ReadFrame
headed_frame octets =
    if nat_lt (stated_start octets) 8 || nat_lt (stated_size octets) (stated_start octets) then Err BadOffset else
    typed_frame octets (kind_of (stated_type octets))

-- a frame whose size is there (part 2, 2.3.1; the limit: 2.7.1)
unfoldable pub sized_frame : ℕ → List ℕ → ReadFrame
sized_frame limit octets =
    if nat_lt (stated_size octets) 8 then Err TooSmall else
    if nat_lt limit (stated_size octets) then Err TooLarge else
    if nat_lt (length octets) 8 then Ok None else headed_frame octets

-- the frame at the front of the octets
unfoldable pub frame_at : ℕ → List ℕ → ReadFrame
frame_at limit octets = if nat_lt (length octets) 4 then Ok None else sized_frame limit octets

abbrev pub whole_of : List ℕ → ReadFrame → Option Frame
whole_of octets (Ok (Some frame)) = if length frame.octets == length octets then Some frame else None
whole_of octets (Ok None) = None
whole_of octets (Err fault) = None

-- the frame that all the octets are
unfoldable pub whole_frame : ℕ → List ℕ → Option Frame
whole_frame limit octets = whole_of octets (frame_at limit octets)
