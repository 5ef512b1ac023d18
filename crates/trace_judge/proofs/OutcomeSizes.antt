-- How long the frame is that tells an outcome.
use Rattle.std.proofs.Common.{◌≡◌, ◌∙◌, ap, refl, ℕ, ◌+◌, List, [], ◌∷◌, ◌++◌, length, Option, Some, None, Bool, true, false, ◌&&◌, ◌==◌, if◌then◌else◌, arith}
use Rattle.std.proofs.lemmas.List.{append-nil, length-append}
use Rattle.byteorder.specs.Endian.{big_bytes}
use Rattle.byteorder.specs.Numbers.{length-bytes_high_first}
use Rattle.amqp_types.specs.Writing.{fits_octet, null_octets, boolean_octets, uint_octets, list_octets}
use Rattle.amqp_frames.specs.declared.frame.FrameKind.{FrameKind}
use Rattle.amqp_frames.specs.declared.frame.FrameKind.TheVariants as kinds
use Rattle.amqp_frames.specs.Frame.{code_of}
use Rattle.amqp_frames.specs.Writing.{frame_size, frame_octets}
use Rattle.trace_events.specs.Written.{spoken_octets, written_outcome}
use Rattle.trace_judge.specs.OutcomeSize.{uint_size, list_size, state_size, outcome_frame_size}

frame_long : (kind : FrameKind) (channel : ℕ) (body : List ℕ) → length (frame_octets kind channel body) ≡ frame_size body
unfolding frame_octets
frame_long kind channel body =
    omega (arith, length-append (big_bytes 4 (frame_size body)) (2 ∷ code_of kind ∷ (big_bytes 2 channel ++ body)), length-append (big_bytes 2 channel) body, length-bytes_high_first 4 (frame_size body), length-bytes_high_first 2 channel)

-- a frame without payload
framed_long : (channel : ℕ) (body : List ℕ) → length (frame_octets kinds.Amqp channel (body ++ [])) ≡ 8 + length body
framed_long channel body = frame_long kinds.Amqp channel (body ++ []) ∙ ap (λ k. 8 + k) (ap length (append-nil body))

-- with its descriptor
described_long : (list : List ℕ) (size : ℕ) → length list ≡ size → 8 + length (0x00 ∷ 0x53 ∷ 0x15 ∷ list) ≡ 11 + size
described_long list size h = omega arith

uint_by : (n : ℕ) (none one : Bool)
    → length (if none then 0x43 ∷ [] else if one then 0x52 ∷ n ∷ [] else 0x70 ∷ big_bytes 4 n) ≡ (if none then 1 else if one then 2 else 5)
uint_by n true one = refl
uint_by n false true = refl
uint_by n false false = ap (λ k. 1 + k) (length-bytes_high_first 4 n)

uint_long : (n : ℕ) → length (uint_octets n) ≡ uint_size n
unfolding uint_octets
uint_long n = uint_by n (n == 0) (fits_octet n)

list_by : (one : Bool) (count : ℕ) (body : List ℕ)
    → length (if one && true then 0xC0 ∷ (length body + 1) ∷ count ∷ body else 0xD0 ∷ (big_bytes 4 (length body + 4) ++ (big_bytes 4 count ++ body)))
    ≡ (if one then 3 + length body else 9 + length body)
list_by true count body = omega arith
list_by false count body =
    omega (arith, length-append (big_bytes 4 (length body + 4)) (big_bytes 4 count ++ body), length-append (big_bytes 4 count) body, length-bytes_high_first 4 (length body + 4), length-bytes_high_first 4 count)

list_long_4 : (body : List ℕ) → length (list_octets 4 body) ≡ list_size (length body)
unfolding list_octets
list_long_4 body = list_by (fits_octet (length body + 1)) 4 body

list_long_5 : (body : List ℕ) → length (list_octets 5 body) ≡ list_size (length body)
unfolding list_octets
list_long_5 body = list_by (fits_octet (length body + 1)) 5 body

-- the octets of the fields in front of the state
front : ℕ → List ℕ → List ℕ
front id rest = boolean_octets true ++ (uint_octets id ++ (null_octets ++ (boolean_octets true ++ rest)))

front_long : (id : ℕ) (rest : List ℕ) → length (front id rest) ≡ 3 + uint_size id + length rest
unfolding front boolean_octets null_octets
front_long id rest = omega (arith, length-append (uint_octets id) (0x40 ∷ 0x41 ∷ rest), uint_long id)

pub outcome_long : (channel id : ℕ) (state : Option (List ℕ))
    → length (spoken_octets (written_outcome channel id state)) ≡ outcome_frame_size id (state_size state)
unfolding spoken_octets front
outcome_long channel id None =
    framed_long channel (0x00 ∷ 0x53 ∷ 0x15 ∷ list_octets 4 (front id []))
    ∙ described_long (list_octets 4 (front id [])) (list_size (3 + uint_size id + 0)) (list_long_4 (front id []) ∙ ap list_size (front_long id []))
outcome_long channel id (Some octets) =
    framed_long channel (0x00 ∷ 0x53 ∷ 0x15 ∷ list_octets 5 (front id (octets ++ [])))
    ∙ described_long (list_octets 5 (front id (octets ++ []))) (list_size (3 + uint_size id + length octets))
    (list_long_5 (front id (octets ++ []))
    ∙ ap list_size (front_long id (octets ++ []) ∙ ap (λ k. 3 + uint_size id + k) (ap length (append-nil octets))))
