use Rattle.std.proofs.Common.{◌≡◌, ◌-◌}
use Rattle.amqp_perf.specs.Message.{address_within, to_of}
use Rattle.amqp_perf.proofs.message.find_address.Given as goal

abbrev pub invariant-loop : goal.invariant-loop
invariant-loop l = to_of l.fn.payload ≡ address_within (l.end - l.counter) l.octets
