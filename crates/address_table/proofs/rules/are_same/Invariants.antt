use Rattle.std.proofs.Common.{◌≡◌, ◌++◌, take}
use Rattle.address_table.proofs.rules.are_same.Given as goal

abbrev pub invariant-loop-rule : goal.invariant-loop-rule
invariant-loop-rule l = l.others ≡ take l.rule-index l.rules ++ l.rest
