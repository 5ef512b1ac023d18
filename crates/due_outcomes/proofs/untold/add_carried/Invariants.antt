use Rattle.std.proofs.Common.{◌≡◌, ℕ, ◌||◌, take}
use Rattle.std.specs.List.{list_any}
use Rattle.number_groups.specs.Ascending.{has}
use Rattle.trace_events.specs.Words.{is_number}
use Rattle.state_outgoing.specs.SentAnswers.{carried}
use Rattle.state_outgoing.specs.SentTables.{sent_in}
use Rattle.due_outcomes.proofs.untold.add_carried.Given as goal

abbrev pub invariant-loop-number : goal.invariant-loop-number
invariant-loop-number l = (n : ℕ) → has l.candidates n
    ≡ (has l.fn.candidates n || list_any (λ m. is_number (carried (sent_in l.sent m)) n) (take l.number-index l.numbers))
