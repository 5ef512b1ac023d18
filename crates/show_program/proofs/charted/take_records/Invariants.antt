use Rattle.capture_words.proofs.Streaming.{StreamsOn}
use Rattle.show_program.specs.Charts.{HasAsked}
use Rattle.show_program.proofs.charted.take_records.Given as goal

abbrev pub invariant-loop-number : goal.invariant-loop-number
invariant-loop-number g l = StreamsOn (HasAsked l.fn.charted.asked.choice l.fn.charted.also.now) g.R.Read.remaining l.fn.records l.records l.fn.charted l.charted l.number
