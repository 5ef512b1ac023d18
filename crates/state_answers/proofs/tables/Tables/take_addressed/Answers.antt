use Rattle.std.proofs.Common.{refl, sym, subst, ◌∙◌, ◌∷◌, ℕ, List}
use Rattle.trace_events.specs.History.{history}
use Rattle.trace_events.proofs.Judged.{AreJudged, history-judged}
use Rattle.trace_events.proofs.JudgedHistories.{judged-history}
use Rattle.trace_events.specs.View.{event_view}
use Rattle.trace_events.specs.declared.event.Link.{Link}
use Rattle.state_tables.specs.EndedLinks.{AreEnded, views}
use Rattle.state_tables.proofs.ConsumersOf.{are-served}
use Rattle.state_tables.specs.Copies.{AreDue, AreReceivers}
use Rattle.state_tables.specs.declared.copies.Receiver.{Receiver}
use Rattle.state_verdicts.specs.Verdicts.{AreGiven}
use Rattle.state_verdicts.specs.declared.verdicts.CopyVerdict.{CopyVerdict}
use Rattle.state_answers.specs.Tables.{KeepsLast}
use Rattle.state_answers.proofs.LastsKept.{keeps-next}
use Rattle.state_answers.proofs.LetGoKnown.{begins-apart}
use Rattle.state_answers.proofs.tables.Tables.take_addressed.Goals as goal

pub returns-clause-stand : goal.returns-clause-stand
returns-clause-stand c = λ records r next own tables.
    let rules = c.args.rules.now in
    let e = event_view c.args.event.now in
    let past = history rules records in
    let are : AreJudged rules (e ∷ past) = ((r, next.0), history-judged rules records) in
    let linked = tables.1.1.0 in
    let consumed = tables.1.1.1.0 in
    let receiving = tables.1.1.1.1.1.0 in
    let ended = c.in_ok-ended.ensures rules records r next.0 linked in
    let address = c.args.address.now in
    let Ended : List Link → Type 0 = λ links. AreEnded e past (views links) in
    let Received : List Receiver → Type 0 = λ receivers. AreReceivers rules address e past receivers in
    let Owed : List ℕ → Type 0 = λ links. AreDue rules e past links in
    let Given : List CopyVerdict → Type 0 = λ verdicts. AreGiven rules e past verdicts in
    let to_due = subst Received (sym c.deref.ensures.value) (c.in_ok-receivers.ensures.known records consumed receiving linked) in
    let due = c.in_ok-due.ensures.known records r next tables.1.1.1.1.1.1.0 own to_due in
    let to_consumers = subst Ended (sym c.deref-2.ensures.value) ended in
    let to_deliveries = subst Ended (sym c.deref-3.ensures.value) ended in
    let to_receivers = subst Ended (sym c.deref-4.ensures.value) ended in
    let to_copies = subst Ended (sym c.deref-5.ensures.value) ended in
    let received = subst Received (sym c.deref-6.ensures.value) (c.in_ok-receivers.ensures.known records consumed receiving linked) in
    let consuming = c.in_ok-take.ensures.kept rules records r next.0 to_consumers consumed in
    let held = c.in_ok-take-2.ensures.kept records r next tables.1.1.1.1.0 own (are-served rules (e ∷ past) are c.take.new.self consuming) (λ l live ends. (to_deliveries l).1 (live, ends)) in
    let links = c.in_ok-take-3.ensures.kept rules records r next.0 to_receivers receiving in
    let copies = c.in_ok-take-4.ensures.kept records r next tables.1.1.1.1.1.1.0 to_copies own received in
    let to_sent = subst Ended (sym c.deref-7.ensures.value) ended in
    let alike = tables.1.1.1.1.1.1.1.1.1.1 in
    let apart = begins-apart rules e past are next.1 c.args.self.now.deliveries tables.1.1.1.1.0.1.1 c.args.self.now.sent.let_go.items alike.0 in
    let sent = c.in_ok-given.ensures.kept rules records r next.0 tables.1.1.1.1.1.1.1.1.0 to_sent apart in
    let given = c.in_ok-given.ensures.given rules records r next tables.1.1.1.1.1.1.1.1.0 to_sent in
    let verdicts = c.in_ok-take-5.ensures.kept rules records r next tables.1.1.1.1.1.1.1.1.1.0 (subst Owed (sym c.deref-8.ensures.value) due) (subst Given (sym c.deref-9.ensures.value) given)
    (subst Ended (sym c.deref-10.ensures.value) ended) in (
      judged-history rules (e ∷ past) are,
      (c.in_ok-take-7.ensures.kept rules records r next tables.1.0, (c.in_ok-take-6.ensures.kept rules records r next.0 linked, (consuming, (held, (links, (copies, (next.1, (sent, (verdicts, (c.in_ok-given.ensures.gone ∙ (alike.0 ∙ sym c.in_ok-take-2.ensures.gone), c.in_ok-take-5.ensures.gone ∙ (alike.1 ∙ sym c.in_ok-take-2.ensures.gone))))))))))),
    )

pub returns-clause-last : goal.returns-clause-last
returns-clause-last c = λ records r next tables keeps.
    let rules = c.args.rules.now in
    let e = event_view c.args.event.now in
    let past = history rules records in
    let are : AreJudged rules (e ∷ past) = ((r, next.0), history-judged rules records) in
    let apart = begins-apart rules e past are next.1 c.args.self.now.deliveries tables.1.1.1.1.0.1.1 c.args.self.now.deliveries.let_go.items refl in
    subst (λ (gone : List (ℕ × Unit {0})). KeepsLast gone (e ∷ past)) (sym c.in_ok-take-2.ensures.gone)
    (keeps-next rules e past are _ (c.in_ok-ended.ensures rules records r next.0 tables.1.1.0) c.args.self.now.deliveries.let_go.items apart keeps)
