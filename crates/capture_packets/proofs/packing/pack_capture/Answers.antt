use Rattle.std.proofs.Common.{subst}
use Rattle.std.specs.Prelude.{IfOk, OnErr}
use Rattle.std.specs.Io.KnownBytes.{Keeps}
use Rattle.capture_packets.specs.Writer.{writer_of}
use Rattle.capture_packets.specs.Packed.{PacksText, StopsText}
use Rattle.capture_packets.proofs.PackLemmas.{flush_stopped, packed_kept, stopped_kept}
use Rattle.capture_packets.proofs.packing.pack_capture.Goals as goal

pub returns-in-Ok-clause-packs : goal.returns-in-Ok-clause-packs
returns-in-Ok-clause-packs g c =
    let known = g.R.Read.remaining c.args.input in
    let held = g.W.Write.contents in
    let packed = c.pack_text-packed in
    let keeps = subst (λ w. Keeps (held w) (held c.flush.new.self)) c.into_writer-written.ensures c.flush.ensures.bytes in
    let packs = subst (λ w. IfOk packed.result (PacksText known (held w) (held (writer_of packed.new.packets)))) c.new-packets.ensures.writer packed.ensures.packs in
    packed_kept known _ _ _ packed.result keeps packs

pub returns-in-Ok-clause-stops : goal.returns-in-Ok-clause-stops
returns-in-Ok-clause-stops g c =
    let known = g.R.Read.remaining c.args.input in
    let held = g.W.Write.contents in
    let packed = c.pack_text-packed in
    let keeps = subst (λ w. Keeps (held w) (held c.flush.new.self)) c.into_writer-written.ensures c.flush.ensures.bytes in
    let stops = subst (λ w. OnErr packed.result (StopsText known (held w) (held (writer_of packed.new.packets)))) c.new-packets.ensures.writer packed.ensures.stops in
    stopped_kept known _ _ _ packed.result keeps stops

pub returns-in-Err-clause-stops : goal.returns-in-Err-clause-stops
returns-in-Err-clause-stops g c =
    let known = g.R.Read.remaining c.args.input in
    let held = g.W.Write.contents in
    let packed = c.pack_text-packed in
    let keeps = subst (λ w. Keeps (held w) (held c.flush.new.self)) c.into_writer-written.ensures c.flush.ensures.bytes in
    let packs = subst (λ w. IfOk packed.result (PacksText known (held w) (held (writer_of packed.new.packets)))) c.new-packets.ensures.writer packed.ensures.packs in
    let stops = subst (λ w. OnErr packed.result (StopsText known (held w) (held (writer_of packed.new.packets)))) c.new-packets.ensures.writer packed.ensures.stops in
    flush_stopped known _ _ _ packed.result keeps packs stops
