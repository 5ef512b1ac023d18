use Rattle.std.proofs.Common.{◌≡◌, length}
use Rattle.amqp_types.specs.Grammar.{IsValue, AreItems}
use Rattle.amqp_types.specs.Writing.{levels_in_list, levels_in_described}
use Rattle.tests_wire.proofs.puts.truths.Given as goal

abbrev pub invariant-loop : goal.invariant-loop
invariant-loop l =
    AreItems (IsValue levels_in_list) l.counter l.octets.items × AreItems (IsValue levels_in_described) l.counter l.octets.items × (length l.octets.items ≡ l.counter)
