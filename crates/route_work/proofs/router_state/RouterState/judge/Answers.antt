use Rattle.std.proofs.Common.{◌≡◌, sym, ap, subst, ◌∙◌, true, is_some}
use Rattle.trace_events.proofs.Unopened.{broken-unopened}
use Rattle.trace_events.specs.Event.{Event}
use Rattle.trace_events.specs.History as law
use Rattle.trace_events.specs.History.{history, moment_of}
use Rattle.trace_events.specs.LinkClause.{asking}
use Rattle.trace_events.specs.Session.{StandsLive, has_unanswered_begin}
use Rattle.trace_events.proofs.Standing.{placed-stands}
use Rattle.trace_events.specs.Known.{OpensKnown}
use Rattle.trace_events.specs.View.{event_view}
use Rattle.state_ledger.specs.HeldEvents.{held_event_view}
use Rattle.state_answers.proofs.NextKnown.{next-opens}
use Rattle.route_work.proofs.Entering.{numbered, same-event, lawful-next, on_ok}
use Rattle.route_work.proofs.router_state.RouterState.judge.Goals as goal

pub returns : goal.returns
returns g c =
    on_ok c.keep.result c.keep.ensures.copied (λ copied. λ records stand numbers unbroken.
    let rules = c.args.rules.now in
    let past = history rules records in
    let r = c.args.entry.now in
    let t = c.lent-lent.result in
    let lent = c.lent-lent.ensures.stand rules past stand.tables in
    let known = next-opens rules past t.connections.now t.links.now t.consumers.now t.deliveries.now t.consumer_links.now t.copies.now t.sent.now t.verdicts.now lent r (sym (broken-unopened rules past r) ∙ unbroken) in
    let judged = c.judge_unopened-event.ensures past lent (numbered rules records r c.args.number numbers) in
    let live = placed-stands past r.connection (moment_of r.what) r.note in
    let Opens : Event → Type 0 = λ e. OpensKnown (λ n channel. has_unanswered_begin n channel past ≡ true) (λ s handle. is_some (asking s handle past) ≡ true) e in
    let event = c.open.ensures rules past lent (subst (λ (e : Event). StandsLive e past) (sym judged) live) (subst Opens (sym judged) known) ∙ ap (law.opened past) judged in
    let same = copied (moment_of r.what) ∙ same-event rules records r (event_view c.open.new.event) event in
    lawful-next rules records r (held_event_view c.keep.new.self (moment_of r.what)) same lent.1.1.1.1.1.1.1.0 unbroken)
