use Rattle.std.proofs.Common.{take}
use Rattle.std.specs.List.{flat_map}
use Rattle.flow_counts.specs.declared.profile.TheConstants.{MAX_FRAME_SIZE}
use Rattle.amqp_frames.specs.Stream.{AreFramesOf, IsAfter}
use Rattle.amqp_frames.specs.Held.{octets_of}
use Rattle.amqp_frames.proofs.pieces.cut_stream.Given as goal

abbrev pub invariant-loop-piece : goal.invariant-loop-piece
invariant-loop-piece l =
    let stream = flat_map (λ piece. piece.now) (take l.piece-index l.pieces) in
    IsAfter stream (octets_of l.cut.frames) l.splitter × AreFramesOf MAX_FRAME_SIZE stream (octets_of l.cut.frames) l.cut.fault
