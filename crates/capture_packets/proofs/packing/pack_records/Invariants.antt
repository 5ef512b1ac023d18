use Rattle.capture_packets.proofs.PackLemmas.{PacksOn}
use Rattle.capture_packets.proofs.packing.pack_records.Given as goal

abbrev pub invariant-loop-number : goal.invariant-loop-number
invariant-loop-number g l = PacksOn g.R.Read.remaining g.W.Write.contents l.fn.records l.records l.fn.packets l.packets l.number
