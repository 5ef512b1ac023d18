use Rattle.std.proofs.Common.{◌≡◌, sym, subst, IfSome, List, Option, Some}
use Rattle.std.proofs.lemmas.Result.{IfOk-weaker}
use Rattle.trace_events.specs.Event.{Incoming}
use Rattle.trace_events.specs.History.{history}
use Rattle.trace_events.proofs.Judged.{history-judged}
use Rattle.trace_events.specs.View.{event_view, incoming_view}
use Rattle.state_tables.specs.Consumers.{numbers_at}
use Rattle.state_tables.specs.Copies.{AreReceiversOf, copied_by}
use Rattle.state_tables.specs.declared.copies.Receiver.{Receiver}
use Rattle.state_tables.proofs.ReceiversOf.{are-receivers}
use Rattle.state_tables.proofs.receivers.receivers_of.Goals as goal

pub returns-in-Some-clause-known : goal.returns-in-Some-clause-known
returns-in-Some-clause-known c =
    IfOk-weaker c.address_receivers.result _ _ (λ receivers of records consumed receiving linked.
    let rules = c.args.rules.now in
    let e = event_view c.args.event.now in
    let past = history rules records in
    let d = incoming_view c.in-Some.field-0 in
    let address = c.args.address.now in
    let copied : Some d ≡ copied_by rules address e = c.in-Some.ensures in
    let Received : List Receiver → Type 0 = λ rs. AreReceiversOf address past rs in
    let At : Option Incoming → Type 0 = λ o. IfSome o (λ x. AreReceiversOf address past receivers.items) in
    subst At copied
    (subst Received (sym (of rules records receiving linked))
    (are-receivers rules past (history-judged rules records) address (numbers_at c.args.consumers.now address) (consumed address))))
    c.address_receivers.ensures
