use Rattle.std.proofs.Common.{◌≡◌, ◌-◌, List, IfSome, true}
use Rattle.capture_form.specs.declared.records.Record.{Record}
use Rattle.trace_events.specs.Event as law
use Rattle.trace_events.specs.History.{history}
use Rattle.trace_events.specs.Incoming.{address_of}
use Rattle.state_answers.specs.Tables.{TellsOf}
use Rattle.due_lists.specs.AddressesToTry.{count_of, is_among_first}
use Rattle.due_lists.specs.Waiting.{HasWaiting, IsDueWaiting, is_ahead}
use Rattle.due_lists.specs.Waking.{MayBegin}
use Rattle.due_lists.proofs.waiting.Waiting.first_due.Given as goal

abbrev pub invariant-loop-index : goal.invariant-loop-index
invariant-loop-index l =
    ((records : List Record) → TellsOf l.rules l.tables (history l.rules records) → HasWaiting l.rules l.fn.self (history l.rules records) → HasWaiting l.rules l.self (history l.rules records))
    × IfSome l.first (λ due. (records : List Record) → TellsOf l.rules l.tables (history l.rules records) → HasWaiting l.rules l.fn.self (history l.rules records) → IsDueWaiting l.rules due (history l.rules records))
    × ((records : List Record) → TellsOf l.rules l.tables (history l.rules records) → HasWaiting l.rules l.fn.self (history l.rules records) → (d : law.Incoming) (m : law.Link) →
    MayBegin l.rules (history l.rules records) d m → is_among_first l.self.to_try l.index (address_of d (history l.rules records)) ≡ true → is_ahead (history l.rules records) l.first d ≡ true)

abbrev pub decreases-loop-index : goal.decreases-loop-index
decreases-loop-index l = count_of l.self.to_try - l.index
