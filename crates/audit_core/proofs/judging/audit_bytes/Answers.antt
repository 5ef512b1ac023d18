use Rattle.std.proofs.Common.{rules, arith, sym, subst, ◌<◌, ◌^◌, length}
use Rattle.audit_core.specs.declared.verdict.Verdict.TheVariants.{Accepted}
use Rattle.audit_core.specs.Verdict.{Answers}
use Rattle.audit_core.proofs.Answered.{stopped_so, short, accepted, kept}
use Rattle.audit_core.proofs.judging.audit_bytes.Goals as goal

pub verdict-requires-clause-short : goal.verdict-requires-clause-short
verdict-requires-clause-short c =
    let read = c.read_whole_records-capture in
    let few : length c.args.octets.now < 2 ^ 64 = search rules in
    short c.args.octets.now read.result.capture read.result.fault (λ i. omega (arith, c.type_inv.octets i)) read.ensures.exact read.ensures.found read.ensures.refused few

pub returns-in-Err-clause-answers : goal.returns-in-Err-clause-answers
returns-in-Err-clause-answers c =
    let read = c.read_whole_records-capture in
    subst (λ v. Answers c.args.octets.now v) (sym c.verdict.ensures)
    (stopped_so c.args.octets.now read.result.capture read.result.fault (λ i. omega (arith, c.type_inv.octets i)) read.ensures.exact
    c.in-Err.stop read.ensures.capture read.ensures.found read.ensures.refused c.in-Err.ensures.stopped)

pub returns-in-None-clause-answers : goal.returns-in-None-clause-answers
returns-in-None-clause-answers c =
    let read = c.read_whole_records-capture in
    accepted c.args.octets.now read.result.capture read.result.fault (λ i. omega (arith, c.type_inv.octets i)) read.ensures.exact c.in-Ok.tally c.in-Ok.ensures.accepted c.in-None.is

pub returns-in-None-clause-kept : goal.returns-in-None-clause-kept
returns-in-None-clause-kept c =
    let read = c.read_whole_records-capture in
    kept c.args.octets.now (Accepted c.in-Ok.tally)
    (accepted c.args.octets.now read.result.capture read.result.fault (λ i. omega (arith, c.type_inv.octets i)) read.ensures.exact c.in-Ok.tally c.in-Ok.ensures.accepted c.in-None.is)
