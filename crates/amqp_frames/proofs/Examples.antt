-- Frames with known readings.
use Rattle.std.proofs.Common.{◌≡◌, [], ◌∷◌, Some, None, Ok, Err, refl}
use Rattle.amqp_frames.specs.declared.fault.FrameFault.TheVariants.{TooSmall, TooLarge, BadOffset, WrongType}
use Rattle.amqp_frames.specs.declared.frame.FrameKind.TheVariants.{Amqp, Sasl}
use Rattle.amqp_frames.specs.Reading.{frame_at, sized_frame, headed_frame}

-- a size of 7 is less than a header, as soon as its four octets are there
too_small : frame_at 16384 (0 ∷ 0 ∷ 0 ∷ 7 ∷ []) ≡ Err TooSmall
unfolding frame_at sized_frame
too_small = refl

-- one over 16384 is too large, and nothing is said of three octets
too_large : frame_at 16384 (0 ∷ 0 ∷ 0x40 ∷ 1 ∷ []) ≡ Err TooLarge
unfolding frame_at sized_frame
too_large = refl

size_cut : frame_at 16384 (0xFF ∷ 0xFF ∷ 0xFF ∷ []) ≡ Ok None
unfolding frame_at
size_cut = refl

-- the body would start in the header, or behind the frame
offset_of_one : frame_at 16384 (0 ∷ 0 ∷ 0 ∷ 8 ∷ 1 ∷ 0 ∷ 0 ∷ 0 ∷ []) ≡ Err BadOffset
unfolding frame_at sized_frame headed_frame
offset_of_one = refl

offset_past_the_end : frame_at 16384 (0 ∷ 0 ∷ 0 ∷ 8 ∷ 3 ∷ 0 ∷ 0 ∷ 0 ∷ []) ≡ Err BadOffset
unfolding frame_at sized_frame headed_frame
offset_past_the_end = refl

type_of_two : frame_at 16384 (0 ∷ 0 ∷ 0 ∷ 8 ∷ 2 ∷ 2 ∷ 0 ∷ 0 ∷ []) ≡ Err WrongType
unfolding frame_at sized_frame headed_frame
type_of_two = refl

-- an empty frame on channel 0, and an octet behind it
empty_frame : frame_at 16384 (0 ∷ 0 ∷ 0 ∷ 8 ∷ 2 ∷ 0 ∷ 0 ∷ 0 ∷ 9 ∷ []) ≡ Ok (Some (record { kind = Amqp; channel = 0; body = []; octets = 0 ∷ 0 ∷ 0 ∷ 8 ∷ 2 ∷ 0 ∷ 0 ∷ 0 ∷ [] }))
unfolding frame_at sized_frame headed_frame
empty_frame = refl

-- a SASL frame on channel 258 with four more octets of header and a body of two
extended_frame : frame_at 16384 (0 ∷ 0 ∷ 0 ∷ 14 ∷ 3 ∷ 1 ∷ 1 ∷ 2 ∷ 0xAA ∷ 0xBB ∷ 0xCC ∷ 0xDD ∷ 0x61 ∷ 0x62 ∷ [])
    ≡ Ok (Some (record { kind = Sasl; channel = 258; body = 0x61 ∷ 0x62 ∷ []; octets = 0 ∷ 0 ∷ 0 ∷ 14 ∷ 3 ∷ 1 ∷ 1 ∷ 2 ∷ 0xAA ∷ 0xBB ∷ 0xCC ∷ 0xDD ∷ 0x61 ∷ 0x62 ∷ [] }))
unfolding frame_at sized_frame headed_frame
extended_frame = refl

-- the same, one octet short
frame_cut : frame_at 16384 (0 ∷ 0 ∷ 0 ∷ 14 ∷ 3 ∷ 1 ∷ 1 ∷ 2 ∷ 0xAA ∷ 0xBB ∷ 0xCC ∷ 0xDD ∷ 0x61 ∷ []) ≡ Ok None
unfolding frame_at sized_frame headed_frame
frame_cut = refl
