use Rattle.std.proofs.Common.{[], ◌∙◌}
use Rattle.show_program.proofs.RunLemmas.{low_or}
use Rattle.show_program.proofs.telling.tell_verdict.Goals as goal

pub returns-clause-told : goal.returns-clause-told
returns-clause-told g c = λ written.
    let told = c.tell_line.ensures.told written in
    (([], told.text), told.same_status ∙ c.status.ensures)

pub returns-clause-status : goal.returns-clause-status
returns-clause-status g c = low_or c.args.verdict.now _ c.status.result c.status.ensures c.tell_line.ensures.status
