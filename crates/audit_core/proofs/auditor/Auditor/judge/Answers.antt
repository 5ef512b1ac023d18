use Rattle.std.proofs.Common.{refl, sym, subst}
use Rattle.audit_core.specs.Auditor.{IsBrokenBehind, IsRefusalBehind}
use Rattle.audit_core.proofs.Taken.{broken, met, longer, refused}
use Rattle.audit_core.proofs.auditor.Auditor.judge.Goals as goal

pub returns-in-Ok-clause-met : goal.returns-in-Ok-clause-met
returns-in-Ok-clause-met c = λ rules records follows.
    met rules records c.args.entry.now c.args.self.now follows _ refl (c.in-Ok.ensures.met records)

pub returns-in-Ok-clause-taken : goal.returns-in-Ok-clause-taken
returns-in-Ok-clause-taken c = λ rules records follows.
    let unbroken = met rules records c.args.entry.now c.args.self.now follows _ refl (c.in-Ok.ensures.met records) in
    longer rules records c.args.entry.now c.args.self.now follows _ refl _ refl refl unbroken (c.in-Ok.ensures.entered records)

pub returns-in-Err-clause-refused : goal.returns-in-Err-clause-refused
returns-in-Err-clause-refused c = λ keeps rules records follows.
    subst (λ r. IsRefusalBehind rules records c.args.entry.now r) (sym c.refusal_at.ensures)
    (refused rules records c.args.entry.now c.args.self.now follows _ refl c.tally-number.result c.tally-number.ensures c.in-Err.why (c.in-Err.ensures.reason keeps records))

pub returns-in-Err-clause-broken : goal.returns-in-Err-clause-broken
returns-in-Err-clause-broken c = λ rules records follows.
    subst (λ r. IsBrokenBehind rules records c.args.entry.now r) (sym c.refusal_at.ensures)
    (broken rules records c.args.entry.now c.args.self.now follows _ refl c.tally-number.result c.tally-number.ensures c.in-Err.why (λ some. c.in-Err.ensures.broken some records))
