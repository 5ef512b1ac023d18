-- Which outcome is which.
use Rattle.std.specs.Prelude.{Bool, true, false}
use Rattle.amqp_perf.specs.declared.descriptor.Outcome.{Outcome}
use Rattle.amqp_perf.specs.declared.descriptor.Outcome.TheVariants.{Accepted, Rejected}

abbrev pub is_accepted : Outcome → Bool
is_accepted Accepted = true
is_accepted other = false

abbrev pub is_rejected : Outcome → Bool
is_rejected Rejected = true
is_rejected other = false
