use Rattle.std.proofs.Common.{◌≡◌, ℕ, ◌+◌, List, [], ◌++◌, get_or, take, sym, ap, ◌∙◌, subst}
use Rattle.std.proofs.Common.{Bor}
use Rattle.std.proofs.lemmas.List.{flat_map_more, take_all, take_more}
use Rattle.std.specs.List.{flat_map}
use Rattle.flow_counts.specs.declared.profile.TheConstants.{MAX_FRAME_SIZE}
use Rattle.amqp_frames.specs.Stream.{AreFramesOf}
use Rattle.amqp_frames.specs.Held.{octets_of}
use Rattle.amqp_frames.proofs.Streams.{one_cut}
use Rattle.amqp_frames.proofs.pieces.cut_stream.Goals as goal

pub loop-piece-preserved : goal.loop-piece-preserved
loop-piece-preserved c =
    let pieces = c.args.pieces.now in
    let i = c.loop-piece.piece-index in
    let none : Bor (List ℕ) = record { ref_ptr = (0, 0); now = [] } in
    let piece = get_or pieces i none in
    let octets : Bor (List ℕ) → List ℕ = λ b. b.now in
    let more : flat_map octets (take (i + 1) pieces) ≡ flat_map octets (take i pieces) ++ piece.now = ap (flat_map octets) (take_more pieces i none c.loop-piece-test.true) ∙ sym (flat_map_more octets [] (take i pieces) piece) in
    let fed = c.in_ok-feed.ensures.stream (flat_map octets (take i pieces)) (octets_of c.loop-piece.cut.frames) c.loop-piece.invariant.0 in
    rw more (c.in_ok-cut.ensures (flat_map octets (take i pieces) ++ piece.now) fed)

pub returns-clause-only : goal.returns-clause-only
returns-clause-only c =
    λ others end are.
    let Are : List (Bor (List ℕ)) → Type 0 = λ taken. AreFramesOf MAX_FRAME_SIZE (flat_map (λ piece. piece.now) taken) (octets_of c.loop-piece.cut.frames) c.loop-piece.cut.fault in
    let all : take c.loop-piece.piece-index c.args.pieces.now ≡ c.args.pieces.now = take_all c.loop-piece.piece-index c.args.pieces.now c.loop-piece-test.false in
    one_cut MAX_FRAME_SIZE _ _ others _ end (subst Are all c.loop-piece.invariant.1) are
