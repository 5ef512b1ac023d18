use Rattle.std.proofs.Common.{subst, sym, ap, ◌∙◌, ◌∷◌}
use Rattle.trace_duties.specs.Answer as duties
use Rattle.state_answers.specs.Tables.{TellsOf}
use Rattle.route_core.proofs.replies.answer_by.Goals as goal

pub returns-clause-says : goal.returns-clause-says
returns-clause-says c =
    let rules = c.args.rules.now in
    let is = c.event-event.ensures in
    record {
      says = λ past k m ready may judged tells.
          c.answer_to.ensures.says past k m ready may (is ∙ judged) (subst (λ e. TellsOf rules c.args.tables.now (e ∷ past)) (sym is) tells)
          ∙ ap (λ e. duties.answer rules e (e ∷ past)) is;
    }

pub returns-clause-short : goal.returns-clause-short
returns-clause-short c =
    let asked = c.requires.answerable in
    c.answer_to.ensures.short asked.past asked.connection asked.moment asked.ready asked.may
    ((c.event-event.ensures) ∙ asked.judged)
