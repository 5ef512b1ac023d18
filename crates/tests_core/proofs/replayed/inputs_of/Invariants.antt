use Rattle.std.specs.List.{AllByRecursion}
use Rattle.route_items.specs.Items.{IsShort}
use Rattle.tests_core.proofs.replayed.inputs_of.Given as goal

-- what was listed so far is short
abbrev pub invariant-loop-entry : goal.invariant-loop-entry
invariant-loop-entry l = AllByRecursion IsShort l.items.items
