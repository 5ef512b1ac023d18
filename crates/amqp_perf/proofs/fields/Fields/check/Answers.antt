use Rattle.std.proofs.Common.{sym, ap, ◌∙◌}
use Rattle.std.proofs.lemmas.Result.{err_from_is_err_and}
use Rattle.amqp_perf.specs.Fields.{first_fault}
use Rattle.amqp_perf.specs.View.{fault_in, seen_or_missing}
use Rattle.amqp_perf.proofs.Faults.{goes_on, stops, ends}
use Rattle.amqp_perf.proofs.fields.Fields.check.Goals as goal

pub returns-in_err-check : goal.returns-in_err-check
returns-in_err-check c =
    let p = err_from_is_err_and c.from_residual.result c.from_residual.ensures.1 in
    let e = stops c.args.table.now c.loop-i.i c.loop-i.self (first_fault 1 c.args.table.now c.args.self) c.loop-i.invariant (seen_or_missing c.next-value.result) c.next-value.new.self c.in_err-check.field-0.0
    c.loop-i-test.true c.next-value.ensures.value c.next-value.ensures.left (sym (ap fault_in (c.in_err-check.was)) ∙ c.check.ensures) in
    rw (p.1, p.2) (sym e)

pub loop-i-preserved : goal.loop-i-preserved
loop-i-preserved c =
    goes_on c.args.table.now c.loop-i.i c.loop-i.self (first_fault 1 c.args.table.now c.args.self) c.loop-i.invariant (seen_or_missing c.next-value.result) c.next-value.new.self
    c.loop-i-test.true c.next-value.ensures.value c.next-value.ensures.left (sym (ap fault_in (c.in_ok-check.was)) ∙ c.check.ensures)

pub returns : goal.returns
returns c = sym (ends c.args.table.now c.loop-i.i c.loop-i.self (first_fault 1 c.args.table.now c.args.self) c.loop-i.invariant c.loop-i-test.false)
