use Rattle.std.proofs.Common.{◌∙◌, sym, ap}
use Rattle.stream_reading.specs.Stream.{answer_to}
use Rattle.stream_reading.proofs.Said.{mechanisms_said, outcome_said}
use Rattle.stream_reading.proofs.answer.answer_to.Goals as goal

pub returns-in-SaslHeader : goal.returns-in-SaslHeader
returns-in-SaslHeader c = mechanisms_said ∙ ap answer_to (sym c.in-SaslHeader.is)

pub returns-in-AnonymousInit : goal.returns-in-AnonymousInit
returns-in-AnonymousInit c = outcome_said ∙ ap answer_to (sym c.in-AnonymousInit.is)
