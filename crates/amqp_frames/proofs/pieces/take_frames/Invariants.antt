use Rattle.std.proofs.Common.{ℕ, List}
use Rattle.amqp_frames.specs.Stream.{IsAfter}
use Rattle.amqp_frames.specs.Held.{octets_of}
use Rattle.amqp_frames.proofs.Streams.{left_count}
use Rattle.amqp_frames.proofs.pieces.take_frames.Given as goal

abbrev pub invariant-loop-frame : goal.invariant-loop-frame
invariant-loop-frame l = (stream : List ℕ) → IsAfter stream (octets_of l.fn.frames) l.fn.splitter → IsAfter stream (octets_of l.frames) l.splitter

abbrev pub decreases-loop-frame : goal.decreases-loop-frame
decreases-loop-frame l = left_count l.splitter
