use Rattle.std.proofs.Common.{◌≡◌, ◌*◌, ◌≤◌, ◌+◌, length}
use Rattle.capture_packets.specs.Headers.{sum_of_words}
use Rattle.capture_packets.proofs.checksum.sum_of_words.Given as goal

abbrev pub invariant-loop-rest : goal.invariant-loop-rest
invariant-loop-rest l = record {
  sum : l.sum + sum_of_words l.rest ≡ sum_of_words l.fn.octets;
  few : l.sum + 65536 * length l.rest ≤ 65536 * length l.fn.octets;
}

abbrev pub decreases-loop-rest : goal.decreases-loop-rest
decreases-loop-rest l = length l.rest
