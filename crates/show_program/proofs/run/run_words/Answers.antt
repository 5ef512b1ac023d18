use Rattle.std.proofs.Common.{inl, map}
use Rattle.show_program.proofs.RunLemmas.{refused_run, refused_told, refused_why, several_run, shown_run, shown_why, why_is_one}
use Rattle.show_program.proofs.run.run_words.Goals as goal

pub returns-in-Some-clause-run : goal.returns-in-Some-clause-run
returns-in-Some-clause-run g c =
    shown_run (map g.S.AsStr.text c.args.words.now) c.in-Ok.words _ _ _ _ _ c.in-Ok.ensures.plain c.in-Some.is c.show_source.ensures.input c.show_source.ensures.told c.show_source.ensures.unasked c.show_source.ensures.few

pub returns-in-Some-clause-explained : goal.returns-in-Some-clause-explained
returns-in-Some-clause-explained g c = λ are written.
    shown_why c.in-Ok.words _ _ _ _ _ (c.in-Ok.ensures.why are) c.in-Some.is c.show_source.ensures.explained written

pub returns-in-None-clause-run : goal.returns-in-None-clause-run
returns-in-None-clause-run g c =
    several_run (map g.S.AsStr.text c.args.words.now) c.in-Ok.words _ _ _ _ c.in-Ok.ensures.plain c.in-None.is

pub returns-in-None-clause-explained : goal.returns-in-None-clause-explained
returns-in-None-clause-explained g c = λ are written.
    why_is_one c.in-Ok.words _ _ _ _ (c.in-Ok.ensures.why are) c.in-None.is written

pub returns-in-Err-clause-run : goal.returns-in-Err-clause-run
returns-in-Err-clause-run g c =
    let told = c.tell_refused_words.ensures in
    refused_run (map g.S.AsStr.text c.args.words.now) c.in-Err.error _ _ _ _ c.in-Err.ensures.plain told.memory told.wrong

pub returns-in-Err-clause-told : goal.returns-in-Err-clause-told
returns-in-Err-clause-told g c =
    let told = c.tell_refused_words.ensures in
    λ some low. inl (refused_told _ _ _ told.status told.told some low)

pub returns-in-Err-clause-explained : goal.returns-in-Err-clause-explained
returns-in-Err-clause-explained g c = λ are written.
    refused_why c.in-Err.error _ _ _ _ (c.in-Err.ensures.why are) c.tell_refused_words.ensures.memory written
