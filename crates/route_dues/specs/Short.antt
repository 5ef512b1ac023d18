-- Frames whose performative is a short list, as they are written: its size and its count take one octet each.
use Rattle.std.specs.Prelude.{ℕ, ◌+◌, true, List, ◌∷◌, [], ◌++◌, Option, Some, None}
use Rattle.byteorder.specs.Endian.{big_bytes}
use Rattle.amqp_perf.specs.declared.attach.Role.{Role}
use Rattle.amqp_perf.specs.Nested.{StateFields}
use Rattle.amqp_perf.specs.Meaning.{DispositionFields}

-- the octets in front of so many fields, which have so many octets together, in a frame of this size: the frame's header, the
-- descriptor of this code, and the list's code, size and count
abbrev pub front_octets : ℕ → ℕ → ℕ → ℕ → ℕ → List ℕ
front_octets size channel code fields count = big_bytes 4 size ++ (2 ∷ 0 ∷ (big_bytes 2 channel ++ (0x00 ∷ 0x53 ∷ code ∷ 0xC0 ∷ (fields + 1) ∷ count ∷ [])))

-- how many fields a disposition has beside this state, if any
abbrev pub count_with : Option (List ℕ) → ℕ
count_with None = 4
count_with (Some octets) = 5

-- this end of the link tells that the delivery of this id is settled, and in which state
abbrev pub decided : Role → ℕ → Option StateFields → DispositionFields
decided role id state = record { role = role; first = id; last = None; settled = Some true; state = state }
