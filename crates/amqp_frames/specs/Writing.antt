-- A frame as it is written (part 2 of the standard, section 2.3.1).
use Rattle.std.specs.Prelude.{ℕ, ◌+◌, List, ◌∷◌, ◌++◌, length}
use Rattle.byteorder.specs.Endian.{big_bytes}
use Rattle.amqp_frames.specs.declared.frame.FrameKind.{FrameKind}
use Rattle.amqp_frames.specs.Frame.{Frame, code_of}

-- how many octets a frame of this body has
abbrev pub frame_size : List ℕ → ℕ
frame_size body = 8 + length body

-- the size, a data offset of two words, the type, the channel, no extended header, and the body
unfoldable pub frame_octets : FrameKind → ℕ → List ℕ → List ℕ
frame_octets kind channel body = big_bytes 4 (frame_size body) ++ (2 ∷ code_of kind ∷ (big_bytes 2 channel ++ body))

-- the frame of these parts
abbrev pub frame_with : FrameKind → ℕ → List ℕ → Frame
frame_with kind channel body = record { kind = kind; channel = channel; body = body; octets = frame_octets kind channel body }
