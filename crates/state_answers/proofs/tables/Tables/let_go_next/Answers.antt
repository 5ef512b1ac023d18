use Rattle.std.proofs.Common.{◌≡◌, inr, sym, ap, ◌∙◌, ℕ, true, List, [], ◌∷◌, ◌++◌, Some}
use Rattle.std.specs.Prelude.{Contains}
use Rattle.trace_events.specs.Words.{is_some_and}
use Rattle.trace_events.specs.Event.{Outgoing}
use Rattle.trace_events.specs.History.{history}
use Rattle.trace_events.specs.Outgoing.{names, outgoing_deliveries}
use Rattle.trace_events.proofs.Judged.{history-judged}
use Rattle.state_incoming.specs.HeldTables.{held_in, number_at}
use Rattle.state_incoming.specs.LetGo.{HasAllCopies, is_finished, is_spent}
use Rattle.state_answers.proofs.LetGoNext.{at-place, over, own, own-at, placed, spent-kept}
use Rattle.state_answers.proofs.tables.Tables.let_go_next.Goals as goal

pub returns-in-Some-clause-stand : goal.returns-in-Some-clause-stand
returns-in-Some-clause-stand c = λ rules records tables.
    let past = history rules records in
    let are = history-judged rules records in
    let lawful = tables.1.1.1.1.1.1.1.0 in
    let deliveries = c.args.self.now.deliveries in
    let held = tables.1.1.1.1.0 in
    let sent = tables.1.1.1.1.1.1.1.1.0 in
    let verdicts = tables.1.1.1.1.1.1.1.1.1.0 in
    let alike = tables.1.1.1.1.1.1.1.1.1.1 in
    let number = c.in-Some.number in
    let spent = c.in-Some.ensures.spent in
    let kept = spent-kept rules past deliveries held.0 number spent c.args.self.now.sent.let_go.items alike.0 in
    let d = own rules past are lawful deliveries held.0 number spent in
    let at = own-at rules past are lawful deliveries held.0 number spent in
    let copied : HasAllCopies rules d past = c.has_all_of.ensures.copied rules records d verdicts lawful at c.if-has_all_of.true in
    let done : (j : Outgoing) → Contains (outgoing_deliveries past) j → names number j.note ≡ true → is_finished past j ≡ true =
    c.has_finished.ensures.known rules records sent kept c.if-has_finished.true in
    let noted = λ (items : List (ℕ × Unit {0})). items ++ (number, tt) ∷ [] in (
      tables.0,
      (
        tables.1.0,
        (
          tables.1.1.0,
          (
            tables.1.1.1.0,
            (
              c.let_go.ensures.stands rules records lawful held (over rules past are lawful deliveries held.0 number spent copied done),
              (
                tables.1.1.1.1.1.0,
                (
                  tables.1.1.1.1.1.1.0,
                  (
                    lawful,
                    (
                      c.let_go-in-Some.ensures.stands rules records sent done,
                      (
                        c.let_go-in-Some-2.ensures.stands rules past verdicts,
                        (
                          c.let_go-in-Some.ensures.gone ∙ (ap noted alike.0 ∙ sym c.let_go.ensures.gone),
                          c.let_go-in-Some-2.ensures.gone ∙ (ap noted alike.1 ∙ sym c.let_go.ensures.gone),
                        ),
                      ),
                    ),
                  ),
                ),
              ),
            ),
          ),
        ),
      ),
    )

pub returns-in-Some-clause-lets : goal.returns-in-Some-clause-lets
returns-in-Some-clause-lets c = λ n at ready.
    let deliveries = c.args.self.now.deliveries in
    let same : c.in-Some.number ≡ n = at-place (λ m. is_some_and (held_in deliveries m) is_spent) (number_at deliveries c.args.self.now.turn) c.in-Some.number n c.in-Some.ensures.stored at in
    c.let_go.ensures.gone ∙ ap (λ m. deliveries.let_go.items ++ (m, tt) ∷ []) same

pub returns-in-Some-clause-turns : goal.returns-in-Some-clause-turns
returns-in-Some-clause-turns c = λ none.
    let deliveries = c.args.self.now.deliveries in
    let here : number_at deliveries c.args.self.now.turn ≡ Some c.in-Some.number =
    placed (λ m. is_some_and (held_in deliveries m) is_spent) (number_at deliveries c.args.self.now.turn) c.in-Some.number c.in-Some.ensures.stored in
    absurd (none c.in-Some.number here (record {
      spent = c.in-Some.ensures.spent;
      copied = c.has_all_of.ensures.none.0 c.if-has_all_of.true;
      finished = sym c.has_finished.ensures.stored ∙ c.if-has_finished.true;
    }))

pub returns-in-Some-clause-most : goal.returns-in-Some-clause-most
returns-in-Some-clause-most c =
    let deliveries = c.args.self.now.deliveries in
    let here : number_at deliveries c.args.self.now.turn ≡ Some c.in-Some.number =
    placed (λ m. is_some_and (held_in deliveries m) is_spent) (number_at deliveries c.args.self.now.turn) c.in-Some.number c.in-Some.ensures.stored in
    inr (c.in-Some.number, (here, (c.in-Some.ensures.spent, c.let_go.ensures.gone)))
