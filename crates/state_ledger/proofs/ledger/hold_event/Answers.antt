use Rattle.std.proofs.Common.{◌≡◌, ◌≢◌, ap, ◌∙◌, List, length, true, is_some}
use Rattle.capture_form.specs.declared.records.Record.{Record}
use Rattle.trace_events.specs.History.{history, moment_of}
use Rattle.trace_events.proofs.Unopened.{broken-unopened}
use Rattle.state_answers.specs.Tables.{AreTables, KeepsLast}
use Rattle.state_ledger.specs.Ledger.{broken_behind}
use Rattle.state_ledger.specs.declared.not_entered.NotEntered.{NotEntered}
use Rattle.state_ledger.specs.declared.not_entered.NotEntered.TheVariants.{Memory}
use Rattle.state_ledger.specs.HeldEvents.{held_event_view}
use Rattle.state_answers.proofs.NextKnown.{next-carries, next-names, next-opens}
use Rattle.state_ledger.proofs.HeldAnswers.{Answers, AnswersLast, on-err, on-ok, when-lawful, when-met, when-refused}
use Rattle.state_ledger.proofs.ledger.hold_event.Goals as goal

pub returns : goal.returns
returns c =
    let rules = c.args.rules.now in
    let r = c.args.entry.now in
    let t = c.lent-lent.result in
    let held = held_event_view c.hold_next.new.held (moment_of r.what) in
    let answers : Answers rules c.args.tables.now c.args.number r held c.hold_next.result = λ records are whole numbered.
    let past = history rules records in
    let lent = c.lent-lent.ensures.stand rules past are in
    c.hold_next.ensures.answer past lent (c.lent-lent.ensures.whole whole) numbered
    (next-carries rules past t.connections.now t.links.now t.consumers.now t.deliveries.now t.consumer_links.now t.copies.now t.sent.now t.verdicts.now lent r)
    (next-opens rules past t.connections.now t.links.now t.consumers.now t.deliveries.now t.consumer_links.now t.copies.now t.sent.now t.verdicts.now lent r) in
    let last : AnswersLast rules c.args.tables.now c.args.number r held c.hold_next.result = on-ok c.hold_next.result c.hold_next.ensures.last (λ held_last. λ records are keeps numbered.
    let past = history rules records in
    let lent = c.lent-lent.ensures.stand rules past are in
    held_last past lent (c.lent-lent.ensures.last past keeps) numbered
    (next-carries rules past t.connections.now t.links.now t.consumers.now t.deliveries.now t.consumer_links.now t.copies.now t.sent.now t.verdicts.now lent r)
    (next-opens rules past t.connections.now t.links.now t.consumers.now t.deliveries.now t.consumer_links.now t.copies.now t.sent.now t.verdicts.now lent r)) in
    let Breaks : NotEntered → Type 0 = λ why. why ≢ Memory → (records : List Record) → AreTables rules c.args.tables.now (history rules records)
    → KeepsLast c.args.tables.now.deliveries.let_go.items (history rules records) → c.args.number ≡ length (history rules records) → is_some (broken_behind rules records r) ≡ true in
    record {
      broken = on-err {Q = Breaks} c.hold_next.result c.hold_next.ensures.broken (λ why broken. λ not_memory records are keeps numbered.
          let past = history rules records in
          let lent = c.lent-lent.ensures.stand rules past are in
          ap is_some (broken-unopened rules past r)
          ∙ broken not_memory past lent (c.lent-lent.ensures.last past keeps) numbered
          (next-carries rules past t.connections.now t.links.now t.consumers.now t.deliveries.now t.consumer_links.now t.copies.now t.sent.now t.verdicts.now lent r)
          (next-names rules past t.connections.now t.links.now t.consumers.now t.deliveries.now t.consumer_links.now t.copies.now t.sent.now t.verdicts.now lent r));
      lawful = when-lawful rules c.args.tables.now c.args.number r held c.hold_next.result last;
      met = when-met rules c.args.tables.now c.args.number r held c.hold_next.result last;
      reason = when-refused rules c.args.tables.now c.args.number r held c.hold_next.result answers;
      same = c.hold_next.ensures.same;
    }
