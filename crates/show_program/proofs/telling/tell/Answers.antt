use Rattle.show_program.proofs.RunLemmas.{tells_alone}
use Rattle.show_program.proofs.telling.tell.Goals as goal

pub returns-clause-told : goal.returns-clause-told
returns-clause-told g c = tells_alone _ _ _ _ c.tell_end.ensures.alone c.tell_end.ensures.status
