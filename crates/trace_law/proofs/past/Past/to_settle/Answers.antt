use Rattle.std.proofs.Common.{rules}
use Rattle.trace_law.proofs.past.Past.to_settle.Goals as goal
use Rattle.trace_law.proofs.past.Past.to_settle.Goals.{in-Some+then-is_to_settle_as, in-Some+else-is_to_settle_as, in_default-outgoing_begun}

pub loop-rest-preserved : goal.loop-rest-preserved
loop-rest-preserved c = elim c.match-outgoing_begun.branch [
  | in-Some+then-is_to_settle_as w ↦ rw w.earliest-is (search rules)
  | in-Some+else-is_to_settle_as w ↦ rw w.earliest-is (search rules)
  | in_default-outgoing_begun w ↦ rw w.earliest-is (search rules)
]
