use Rattle.std.proofs.Common.{◌≡◌}
use Rattle.clients_program.specs.Greeting.{decisions}
use Rattle.clients_program.proofs.exchange.hear_all.Given as goal

abbrev pub invariant-loop-id : goal.invariant-loop-id
invariant-loop-id g l = l.decided.items ≡ decisions l.id
