use Rattle.std.proofs.Common.{◌∙◌, sym}
use Rattle.trace_events.proofs.Decimals.{no_digit, last_differs, last_alone, last_agrees}
use Rattle.trace_events.proofs.asking.+is_decimal.Goals as goal

pub returns-in_default : goal.returns-in_default
returns-in_default t c = sym (no_digit c.args.octets.now c.args.number c.ranges.number.fits c.in_default.ensures.cases)

pub returns-then-last-number : goal.returns-then-last-number
returns-then-last-number t c =
    sym (last_differs c.args.octets.now c.in-Some.front.now c.in-Some.last.now c.args.number c.ranges.number.fits c.in-Some.ensures.cases.0 c.if-last-number.true)

pub returns-then-number-lt10 : goal.returns-then-number-lt10
returns-then-number-lt10 t c =
    c.is_empty.ensures
    ∙ sym (last_alone c.args.octets.now c.in-Some.front.now c.in-Some.last.now c.args.number c.ranges.number.fits c.in-Some.ensures.cases.0 c.if-number-lt10.true c.if-last-number.false)

pub returns-else-number-lt10 : goal.returns-else-number-lt10
returns-else-number-lt10 t c =
    c.is_decimal.ensures
    ∙ sym (last_agrees c.args.octets.now c.in-Some.front.now c.in-Some.last.now c.args.number c.ranges.number.fits c.in-Some.ensures.cases.0 c.if-number-lt10.false c.if-last-number.false)
