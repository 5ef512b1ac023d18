use Rattle.std.proofs.Common.{◌≡◌, false}
use Rattle.capture_words.specs.Shown.{AppendsSome}
use Rattle.capture_words.proofs.Streaming.{StreamsOn}
use Rattle.capture_words.proofs.stream.take_records.Given as goal

abbrev pub invariant-loop-number : goal.invariant-loop-number
invariant-loop-number g l =
    StreamsOn g.V.View.agrees g.R.Read.remaining l.fn.records l.records l.fn.view l.view l.number
    × AppendsSome (g.O.Write.contents l.fn.out) (g.O.Write.contents l.out)
    × (l.is_watched ≡ false → l.err ≡ l.fn.err)
