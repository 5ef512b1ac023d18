use Rattle.std.proofs.Common.{◌∙◌, sym, ap}
use Rattle.stream_reading.specs.Stream.{answer_to_fault}
use Rattle.stream_reading.proofs.Said.{refusal_said}
use Rattle.stream_reading.proofs.answer.answer_to_fault.Goals as goal

pub returns-in-SaslRefused : goal.returns-in-SaslRefused
returns-in-SaslRefused c = refusal_said ∙ ap answer_to_fault (sym c.in-SaslRefused.is)
