use Rattle.std.proofs.Common.{◌≡◌, drop}
use Rattle.daemon_program.specs.Orders.{has_quit}
use Rattle.daemon_program.proofs.order.Order.take.Given as goal

-- what is left of the octets has the word just where all have
abbrev pub invariant-loop-octet : goal.invariant-loop-octet
invariant-loop-octet l = has_quit l.fn.self l.octets ≡ has_quit l.self (drop l.octet-index l.octets)
