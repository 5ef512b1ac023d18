use Rattle.std.proofs.Common.{◌≡◌, ◌+◌, length, drop}
use Rattle.amqp_cuts.specs.Joined.{joined}
use Rattle.amqp_cuts.proofs.parts.Parts.new.Given as goal

abbrev pub invariant-loop-part : goal.invariant-loop-part
invariant-loop-part l = l.len + length (joined (drop l.part-index l.parts)) ≡ length (joined l.parts)
