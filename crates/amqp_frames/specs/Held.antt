-- What the fields of a splitter stand for.
use Rattle.std.specs.Prelude.{ℕ, List, length, drop, map, Option, Some, None, Result, Ok, Err}
use Rattle.std.specs.Borrow.{Bor}
use Rattle.std.specs.Global.{Vec}
use Rattle.amqp_frames.specs.declared.fault.FrameFault.{FrameFault}
use Rattle.amqp_frames.specs.Reading.{ReadFrame, frame_at}
use Rattle.flow_counts.specs.declared.profile.TheConstants.{MAX_FRAME_SIZE}
use Rattle.amqp_frames.specs.Stream.{Ahead, Octets, Broken}

-- what is ahead where so many of the octets that are kept were given
abbrev pub ahead_of : List ℕ → ℕ → Option FrameFault → Ahead
ahead_of kept given None = Octets (drop given kept)
ahead_of kept given (Some fault) = Broken fault

-- what was answered, apart from where it lies in memory
abbrev pub told : Result (Option (Bor (List ℕ))) FrameFault → Result (Option (List ℕ)) FrameFault
told (Ok None) = Ok None
told (Ok (Some frame)) = Ok (Some frame.now)
told (Err fault) = Err fault

-- how many octets a frame that was read has
abbrev pub length_of : ReadFrame → Result (Option ℕ) FrameFault
length_of (Ok None) = Ok None
length_of (Ok (Some frame)) = Ok (Some (length frame.octets))
length_of (Err fault) = Err fault

-- how many octets the next frame has
abbrev pub length_answer : Ahead → Result (Option ℕ) FrameFault
length_answer (Octets octets) = length_of (frame_at MAX_FRAME_SIZE octets)
length_answer (Broken fault) = Err fault

-- what is ahead once a fault was seen, if there is one
abbrev pub seen_ahead : List ℕ → ReadFrame → Ahead
seen_ahead octets (Ok read) = Octets octets
seen_ahead octets (Err fault) = Broken fault

-- what is ahead once the next frame was looked for
abbrev pub looked_ahead : Ahead → Ahead
looked_ahead (Octets octets) = seen_ahead octets (frame_at MAX_FRAME_SIZE octets)
looked_ahead (Broken fault) = Broken fault

-- the octets of each frame
abbrev pub octets_of : Vec (Vec ℕ) → List (List ℕ)
octets_of frames = map (λ frame. frame.items) frames.items
