use Rattle.std.proofs.Common.{map}
use Rattle.audit_program.proofs.RunLemmas.{refused_following, refused_run, refused_told, taken_following, taken_run}
use Rattle.audit_program.proofs.run.run_words.Goals as goal

pub returns-in-Ok-clause-run : goal.returns-in-Ok-clause-run
returns-in-Ok-clause-run g c =
    taken_run (map g.S.AsStr.text c.args.words.now) c.in-Ok.words c.verdict_on.result _ _ _ _ c.in-Ok.ensures.plain c.verdict_on.ensures c.tell.ensures.told

pub returns-in-Ok-clause-followed : goal.returns-in-Ok-clause-followed
returns-in-Ok-clause-followed g c =
    taken_following (map g.S.AsStr.text c.args.words.now) c.in-Ok.words c.verdict_on.result _ _ _ _ c.in-Ok.ensures.followed c.verdict_on.ensures c.tell.ensures.told

pub returns-in-Err-clause-run : goal.returns-in-Err-clause-run
returns-in-Err-clause-run g c =
    let told = c.tell_refused_words.ensures in
    refused_run (map g.S.AsStr.text c.args.words.now) c.in-Err.error _ _ _ _ c.in-Err.ensures.plain told.memory told.wrong

pub returns-in-Err-clause-followed : goal.returns-in-Err-clause-followed
returns-in-Err-clause-followed g c =
    refused_following (map g.S.AsStr.text c.args.words.now) c.in-Err.error _ _ _ _ c.in-Err.ensures.followed c.tell_refused_words.ensures.memory

pub returns-in-Err-clause-told : goal.returns-in-Err-clause-told
returns-in-Err-clause-told g c =
    let told = c.tell_refused_words.ensures in
    refused_told _ _ _ told.status told.told
