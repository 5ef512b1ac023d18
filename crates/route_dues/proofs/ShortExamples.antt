-- Short frames, octet by octet.
use Rattle.std.proofs.Common.{◌≡◌, refl, ap, arith, slice_index, ◌∷◌, [], ◌++◌, Some, None}
use Rattle.amqp_types.specs.Writing.{list_octets, uint_octets, boolean_octets, null_octets}
use Rattle.amqp_perf.specs.declared.attach.Role.TheVariants.{Receiver}
use Rattle.amqp_perf.specs.Meaning.{ADisposition}
use Rattle.amqp_frames.specs.Writing.{frame_octets}
use Rattle.trace_events.specs.Written.{spoken_octets, written_settling, says, state_of}
use Rattle.route_dues.specs.Short.{front_octets, count_with, decided}

-- the settling of delivery 3 on channel 1: five octets behind fourteen, in four fields
settling_said : spoken_octets (written_settling 1 3) ≡ 0 ∷ 0 ∷ 0 ∷ 19 ∷ 2 ∷ 0 ∷ 0 ∷ 1 ∷ 0x00 ∷ 0x53 ∷ 0x15 ∷ 0xC0 ∷ 6 ∷ 4 ∷ 0x42 ∷ 0x52 ∷ 3 ∷ 0x40 ∷ 0x41 ∷ []
unfolding spoken_octets frame_octets list_octets uint_octets boolean_octets null_octets
settling_said = refl

settling_fronted : spoken_octets (written_settling 1 3) ≡ front_octets 19 1 0x15 5 (count_with None) ++ (0x42 ∷ 0x52 ∷ 3 ∷ 0x40 ∷ 0x41 ∷ [])
unfolding spoken_octets frame_octets list_octets uint_octets boolean_octets null_octets
settling_fronted = refl

-- with a size that is one short it is another frame
settling_one_short : spoken_octets (written_settling 1 3) ≡ front_octets 18 1 0x15 5 4 ++ (0x42 ∷ 0x52 ∷ 3 ∷ 0x40 ∷ 0x41 ∷ []) → ⊥
unfolding spoken_octets frame_octets list_octets uint_octets boolean_octets null_octets
settling_one_short same = let size : 19 ≡ 18 = ap (λ octets. slice_index octets 3) same in omega (arith, size)

-- told by a receiver it is another
settling_of_receiver : spoken_octets (written_settling 1 3) ≡ front_octets 19 1 0x15 5 4 ++ (0x41 ∷ 0x52 ∷ 3 ∷ 0x40 ∷ 0x41 ∷ []) → ⊥
unfolding spoken_octets frame_octets list_octets uint_octets boolean_octets null_octets
settling_of_receiver same = let role : 0x42 ≡ 0x41 = ap (λ octets. slice_index octets 14) same in omega (arith, role)

-- the outcome accepted of delivery 300: twelve octets behind fourteen, in five fields
accepted_said : spoken_octets (says 1 (ADisposition (decided Receiver 300 (state_of (Some (0x00 ∷ 0x53 ∷ 0x24 ∷ 0x45 ∷ [])))))) ≡ front_octets 26 1 0x15 12 5
    ++ (0x41 ∷ 0x70 ∷ 0 ∷ 0 ∷ 1 ∷ 44 ∷ 0x40 ∷ 0x41 ∷ 0x00 ∷ 0x53 ∷ 0x24 ∷ 0x45 ∷ [])
unfolding spoken_octets frame_octets list_octets uint_octets boolean_octets null_octets
accepted_said = refl
