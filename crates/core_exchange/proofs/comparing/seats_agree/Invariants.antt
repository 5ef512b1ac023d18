use Rattle.std.proofs.Common.{◌↔◌, drop}
use Rattle.core_exchange.specs.Seats.{SeatsAgree}
use Rattle.core_exchange.proofs.comparing.seats_agree.Given as goal

abbrev pub invariant-loop-k : goal.invariant-loop-k
invariant-loop-k l = SeatsAgree l.records 0 l.seats ↔ SeatsAgree l.records l.k (drop l.k l.seats)
