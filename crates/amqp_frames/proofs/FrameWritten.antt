-- A frame that is written is a whole frame, and is read again.
use Rattle.std.proofs.Common.{◌≡◌, refl, sym, ap, subst, ◌∙◌, ℕ, ◌<◌, ◌≤◌, ◌^◌, List, [], ◌∷◌, ◌++◌, length, Some, Ok, append_assoc, arith}
use Rattle.std.proofs.lemmas.List.{append-nil, length-append}
use Rattle.byteorder.specs.Endian.{big_number, big_bytes}
use Rattle.amqp_types.specs.Grammar.{IsNumber}
use Rattle.byteorder.specs.Numbers.{length-bytes_high_first, big_number-reads_back}
use Rattle.amqp_perf.specs.Meaning.{Meaning}
use Rattle.amqp_perf.specs.Grammar.{IsPerformative}
use Rattle.amqp_perf.specs.Reading.{performative_at}
use Rattle.amqp_perf.specs.Writing.{performative_octets}
use Rattle.amqp_perf.proofs.Spoken.{performative_again}
use Rattle.amqp_frames.specs.declared.frame.FrameKind.{FrameKind}
use Rattle.amqp_frames.specs.Frame.{code_of, IsFrame}
use Rattle.amqp_frames.specs.Reading.{whole_frame}
use Rattle.amqp_frames.specs.Writing.{frame_size, frame_octets, frame_with}
use Rattle.amqp_frames.proofs.Fronts.{whole_read}

-- the number that octets of it are
is_number : (width n : ℕ) → n < 256 ^ width → IsNumber width (big_bytes width n) n
is_number width n fits = record {
  len = length-bytes_high_first width n;
  says = ap (big_number width) (sym (append-nil (big_bytes width n))) ∙ big_number-reads_back width n [] fits;
}

-- a frame has its header of eight octets, and its body
frame_long : (kind : FrameKind) (channel : ℕ) (body : List ℕ) → length (frame_octets kind channel body) ≡ frame_size body
unfolding frame_octets
frame_long kind channel body =
    omega (arith, length-append (big_bytes 4 (frame_size body)) (2 ∷ code_of kind ∷ (big_bytes 2 channel ++ body)), length-append (big_bytes 2 channel) body, length-bytes_high_first 4 (frame_size body), length-bytes_high_first 2 channel)

-- what is written is a frame
frame_is : (kind : FrameKind) (channel : ℕ) (body : List ℕ) (limit : ℕ) → frame_size body < 2 ^ 32 → channel < 2 ^ 16 → frame_size body ≤ limit → IsFrame limit (frame_with kind channel body)
unfolding frame_octets
frame_is kind channel body limit fits channel_fits within =
    let long = frame_long kind channel body in
    record {
      size = big_bytes 4 (frame_size body);
      offset = 2;
      channel = big_bytes 2 channel;
      extended = [];
      parts = sym (simp append_assoc);
      size_says = subst (IsNumber 4 (big_bytes 4 (frame_size body))) (sym long) (is_number 4 (frame_size body) fits);
      channel_says = is_number 2 channel channel_fits;
      body_start = refl;
      within = omega (arith, long);
    }

-- what is written is read again
pub frame_again : (kind : FrameKind) (channel : ℕ) (body : List ℕ) → frame_size body < 2 ^ 32 → channel < 2 ^ 16 → (limit : ℕ) → frame_size body ≤ limit
    → whole_frame limit (frame_octets kind channel body) ≡ Some (frame_with kind channel body)
frame_again kind channel body fits channel_fits limit within =
    whole_read limit (frame_octets kind channel body) (frame_with kind channel body) (frame_is kind channel body limit fits channel_fits within) refl

-- the body of a frame says its performative and its payload again
pub spoken_again : (meaning : Meaning) (payload : List ℕ) → IsPerformative (performative_octets meaning) meaning → performative_at (performative_octets meaning ++ payload) ≡ Ok (meaning, payload)
spoken_again meaning payload is = performative_again (performative_octets meaning ++ payload) meaning payload (record { front = performative_octets meaning; parts = refl; is = is })
