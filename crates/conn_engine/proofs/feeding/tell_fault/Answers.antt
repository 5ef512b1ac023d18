use Rattle.std.proofs.Common.{◌∙◌, [], sym, ap, ◌++◌}
use Rattle.std.proofs.lemmas.List.{append-nil}
use Rattle.stream_reading.specs.Stream.{answer_to_fault}
use Rattle.conn_engine.proofs.Telling.{told_refusal}
use Rattle.conn_engine.proofs.feeding.tell_fault.Goals as goal

pub returns-in-Err-clause-told : goal.returns-in-Err-clause-told
returns-in-Err-clause-told g c = (
  [],
  answer_to_fault c.args.fault,
  c.in-Err.ensures.err ∙ sym (append-nil (g.P.Port.items c.args.port.now)),
  c.in-Ok.ensures.ok ∙ ap (λ t. c.args.output.now ++ t) c.answer_to_fault.ensures,
  told_refusal c.args.phase c.args.fault c.in-Err.refusal c.in-Err.ensures.refused c.in-Err.ensures.due,
)
