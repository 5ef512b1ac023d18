use Rattle.std.proofs.Common.{◌≡◌, sym, ap, ◌∙◌, true, false, Some}
use Rattle.trace_events.specs.History.{history}
use Rattle.trace_events.proofs.Judged.{history-judged}
use Rattle.state_answers.specs.Tables.{is_carried_last}
use Rattle.state_answers.proofs.LastsKept.{keeps-most}
use Rattle.state_answers.proofs.tables.Tables.let_go_next_but_last.Goals as goal

same_some : {A : Type 0} (a b : A) → Some a ≡ Some b → a ≡ b
same_some a b is = cc

pub returns-then-has_last_turn-clause-lets : goal.returns-then-has_last_turn-clause-lets
returns-then-has_last_turn-clause-lets c = λ n at ready.
    let last = c.has_last_turn.ensures.0 c.if-has_last_turn.true in
    let same : last.0 ≡ n = same_some last.0 n (sym last.1.0 ∙ at) in
    let never : true ≡ false = sym last.1.1 ∙ (ap (is_carried_last c.args.self.now) same ∙ ready.1) in
    absurd cc

pub returns-else-has_last_turn-clause-last : goal.returns-else-has_last_turn-clause-last
returns-else-has_last_turn-clause-last c = λ rules records tables keeps.
    keeps-most rules (history rules records) (history-judged rules records) c.args.self.now c.let_go_next.new.self tables (c.has_last_turn.ensures.1 c.if-has_last_turn.false) keeps c.let_go_next.ensures.most

pub returns-else-has_last_turn-clause-lets : goal.returns-else-has_last_turn-clause-lets
returns-else-has_last_turn-clause-lets c = λ n at ready. c.let_go_next.ensures.lets n at ready.0

pub returns-else-has_last_turn-clause-turns : goal.returns-else-has_last_turn-clause-turns
returns-else-has_last_turn-clause-turns c = λ none.
    c.let_go_next.ensures.turns (λ n at ready. none n at (ready, c.has_last_turn.ensures.1 c.if-has_last_turn.false n at ready.spent))
