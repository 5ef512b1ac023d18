-- The answer to a begin is short.
use Rattle.std.proofs.Common.{ℕ, ◌≤◌, [], ◌∷◌, length, arith}
use Rattle.amqp_types.proofs.Shortest.{uint_long}
use Rattle.amqp_perf.specs.Meaning.{ABegin}
use Rattle.amqp_perf.specs.Router.{begin_answer}
use Rattle.trace_events.specs.Written.{spoken_octets, written_begin}
use Rattle.route_answers.proofs.Lengths.{slots_fit, ushort_long}

pub begin_fits : (channel : ℕ) → length (spoken_octets (written_begin channel)) ≤ 512
begin_fits channel =
    slots_fit channel (ABegin (begin_answer channel)) (3 ∷ 5 ∷ 5 ∷ 5 ∷ 5 ∷ [])
    (ushort_long channel, (uint_long 0, (uint_long 2048, (uint_long 2147483647, (uint_long 1023, tt)))))
    (omega arith)
