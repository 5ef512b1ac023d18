use Rattle.std.proofs.Common.{Option, Some, None, IfSome}
use Rattle.trace_events.specs.History.{history}
use Rattle.due_lists.specs.Copies.{IsDueCopy}
use Rattle.due_lists.specs.Waiting.{IsDueWaiting, IsEarliest}
use Rattle.route_work.proofs.Turns.{all_told, all_gone, earliest_first}
use Rattle.route_work.proofs.sending.Sending.next_due.Goals as goal

more : {A : Type 0} (P Q : A → Type 0) (o : Option A) → ((x : A) → P x → Q x) → IfSome o P → IfSome o Q
more P Q None all one = tt
more P Q (Some x) all one = all x one

pub returns-in-Some-clause-kept : goal.returns-in-Some-clause-kept
returns-in-Some-clause-kept c = λ records tell has.
    let rules = c.args.rules.now in
    record { parts = c.first_due.ensures.kept rules (history rules records) tell has.parts; waiting = has.waiting; copies = has.copies }

pub returns-clause-kept : goal.returns-clause-kept
returns-clause-kept c = λ records tell has.
    let rules = c.args.rules.now in
    record {
      parts = c.first_due.ensures.kept rules (history rules records) tell has.parts;
      waiting = c.first_due-waiting.ensures.kept records tell has.waiting;
      copies = c.first_due-copy.ensures.kept (history rules records) tell has.copies;
    }

pub returns-clause-due : goal.returns-clause-due
returns-clause-due c = λ records tell has.
    let rules = c.args.rules.now in
    let past = history rules records in
    c.first_completed.ensures.due rules past
    (more _ (λ due. IsDueWaiting rules due past) c.first_due-waiting.result (λ due is. is records tell has.waiting) c.first_due-waiting.ensures.due)
    (more _ (λ due. IsDueCopy rules due past) c.first_due-copy.result (λ due is. is past tell has.copies) c.first_due-copy.ensures.due)

pub returns-in-Some-clause-turn : goal.returns-in-Some-clause-turn
returns-in-Some-clause-turn c = λ records tell has told. all_told c.args.rules.now (history c.args.rules.now records) told

pub returns-clause-turn : goal.returns-clause-turn
returns-clause-turn c = λ records tell has told.
    let rules = c.args.rules.now in
    let past = history rules records in
    c.first_completed.ensures.turn rules past (all_gone rules past told (c.first_due.ensures.quiet rules past tell has.parts c.in_default.is))
    (earliest_first rules records c.first_due-waiting.result (more _ (λ due. IsEarliest rules due past) c.first_due-waiting.result (λ due is. is records tell has.waiting) c.first_due-waiting.ensures.earliest))
