use Rattle.std.proofs.Common.{sym, arith}
use Rattle.route_dues.proofs.TransferLengths.{zero_size, small_size, large_size}
use Rattle.route_dues.proofs.transfers.uint_size.Goals as goal

pub returns-then-value-eq0-clause-size : goal.returns-then-value-eq0-clause-size
returns-then-value-eq0-clause-size c = sym (zero_size c.args.value c.if-value-eq0.true)

pub returns-then-value-lt256-clause-size : goal.returns-then-value-lt256-clause-size
returns-then-value-lt256-clause-size c = sym (small_size c.args.value c.if-value-eq0.false c.if-value-lt256.true)

pub returns-else-value-lt256-clause-size : goal.returns-else-value-lt256-clause-size
returns-else-value-lt256-clause-size c =
    let many = c.if-value-lt256.false in
    sym (large_size c.args.value c.if-value-eq0.false (λ few. omega (arith, few, many)))
