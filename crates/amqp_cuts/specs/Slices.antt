-- The octets of slices that were counted.
use Rattle.std.specs.Prelude.{ℕ, List}
use Rattle.amqp_cuts.specs.declared.parts.Parts.{Parts}
use Rattle.amqp_cuts.specs.Joined.{joined}

-- all of them, in order
abbrev pub parts_octets : Parts → List ℕ
parts_octets all = joined all.parts.now
