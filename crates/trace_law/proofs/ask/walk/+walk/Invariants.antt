use Rattle.std.proofs.Common.{◌-◌}
use Rattle.trace_law.proofs.ask.walk.+walk.Given as goal

abbrev pub decreases-walk : goal.decreases-walk
decreases-walk g l = l.end - l.from
