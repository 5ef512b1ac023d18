use Rattle.show_program.proofs.RunLemmas.{tells_behind}
use Rattle.show_program.proofs.run.show_by.Goals as goal

pub returns-in-Ok-clause-shown : goal.returns-in-Ok-clause-shown
returns-in-Ok-clause-shown g c = λ written. record {
  ending = c.in-Ok.ending;
  told = tells_behind _ _ _ _ _ c.in-Ok.ensures.shown c.tell.ensures.alone c.tell.ensures.status written;
  ends = c.in-Ok.ensures.ending;
}
