use Rattle.std.proofs.Common.{◌≡◌, drop}
use Rattle.amqp_cuts.specs.Joined.{joined}
use Rattle.amqp_cuts.proofs.parts.PartsCuts.part_at.Given as goal

abbrev pub invariant-loop-part : goal.invariant-loop-part
invariant-loop-part l = drop l.left (joined (drop l.part-index l.part-items)) ≡ drop l.fn.at (joined l.part-items)
