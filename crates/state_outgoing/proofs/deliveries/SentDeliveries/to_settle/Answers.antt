use Rattle.std.proofs.Common.{ap, refl, ◌∙◌, option_and_then}
use Rattle.trace_events.specs.History.{history}
use Rattle.trace_events.proofs.Judged.{history-judged}
use Rattle.number_groups.specs.Groups.{numbers}
use Rattle.number_groups.specs.declared.groups.Groups.{Groups}
use Rattle.state_outgoing.specs.Earliest.{least}
use Rattle.number_groups.specs.Ids.{same_id}
use Rattle.state_outgoing.specs.SentAnswers.{delivery_in, is_settleable}
use Rattle.state_outgoing.specs.SentTables.{sent_in}
use Rattle.number_groups.specs.declared.id_on.IdOn.{IdOn}
use Rattle.state_outgoing.proofs.AnswersKnown.{settle-table}
use Rattle.state_outgoing.proofs.deliveries.SentDeliveries.to_settle.Goals as goal

pub returns : goal.returns
returns g c = λ rules records is closes.
    let past = history rules records in
    let at : IdOn = record { session = c.args.session.number; id = c.args.id } in
    c.given.ensures
    ∙ (ap (option_and_then (delivery_in c.args.self.now)) (c.least.ensures ∙ ap (λ (groups : Groups IdOn). least (λ n. is_settleable (g.C.Closings.does_close c.args.closings.now) (sent_in c.args.self.now n)) (numbers same_id groups at)) c.of_id.ensures)
    ∙ settle-table rules past (history-judged rules records) c.args.self.now is c.args.session c.args.id at refl refl (g.C.Closings.does_close c.args.closings.now) closes)
