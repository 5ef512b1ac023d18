use Rattle.std.proofs.Common.{◌≡◌, ◌+◌, drop}
use Rattle.amqp_perf.specs.Fields.{first_fault}
use Rattle.amqp_perf.proofs.fields.Fields.check.Given as goal

abbrev pub invariant-loop-i : goal.invariant-loop-i
invariant-loop-i l = first_fault 1 l.table l.fn.self ≡ first_fault (l.i + 1) (drop l.i l.table) l.self
