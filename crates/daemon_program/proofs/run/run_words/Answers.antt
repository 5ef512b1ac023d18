use Rattle.std.proofs.Common.{arith}
use Rattle.program_ends.proofs.Statuses.{low_is_memory}
use Rattle.router_words.specs.declared.run_end.RunEnd.TheVariants.{NoMemory}
use Rattle.daemon_program.proofs.run.run_words.Goals as goal

-- the low status of refused words is that of refused memory, and its line is told
pub returns-in-Err-clause-told : goal.returns-in-Err-clause-told
returns-in-Err-clause-told g c =
    let told = c.tell_refused_words.ensures in
    λ some low. (NoMemory, told.told (low_is_memory _ told.status some (omega arith)))
