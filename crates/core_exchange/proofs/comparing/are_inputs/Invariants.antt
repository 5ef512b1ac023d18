use Rattle.std.proofs.Common.{◌≡◌, ◌↔◌, drop}
use Rattle.core_exchange.specs.Seats.{inputs_on}
use Rattle.core_exchange.proofs.comparing.are_inputs.Given as goal

abbrev pub invariant-loop-entry : goal.invariant-loop-entry
invariant-loop-entry l = (inputs_on l.conn l.records ≡ l.items) ↔ (inputs_on l.conn (drop l.entry-index l.records) ≡ l.rest)
