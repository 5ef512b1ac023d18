use Rattle.show_program.proofs.RunLemmas.{explained_memory}
use Rattle.show_program.proofs.marked.tell_no_memory.Goals as goal

pub returns-clause-explained : goal.returns-clause-explained
returns-clause-explained g c = λ held written. explained_memory held _ _ _ c.tell_verdict.ensures.told written
