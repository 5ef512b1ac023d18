use Rattle.std.proofs.Common.{length}
use Rattle.due_lists.specs.Queues.{IsShorter, waits_in}
use Rattle.due_lists.proofs.queues.first_waiting.Given as goal

abbrev pub invariant-loop-number : goal.invariant-loop-number
invariant-loop-number l = IsShorter (waits_in l.deliveries) l.fn.queue.items l.queue.items

abbrev pub decreases-loop-number : goal.decreases-loop-number
decreases-loop-number l = length l.queue.items
