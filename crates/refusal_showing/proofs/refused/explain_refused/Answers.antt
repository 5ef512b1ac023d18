-- the event is that of the record, asked before what it opens is filled in; the tables are those of the records before it
use Rattle.std.proofs.Common.{◌≡◌, sym, ap, subst, ◌∙◌, ℕ, IfSome, is_some, true, length}
use Rattle.trace_events.specs.Event.{Event}
use Rattle.trace_events.specs.Session.{StandsLive}
use Rattle.trace_events.specs.Link.{NamesLive}
use Rattle.trace_events.specs.History.{history, judge_unopened, moment_of}
use Rattle.trace_events.proofs.Standing.{placed-stands}
use Rattle.trace_events.specs.Clauses.{broken_clause}
use Rattle.trace_events.specs.declared.tally.Tally.{Tally}
use Rattle.trace_events.proofs.LiveLinks.{placed-names}
use Rattle.trace_events.proofs.Unopened.{broken-unopened}
use Rattle.trace_events.specs.Known.{CarriesKnown}
use Rattle.trace_events.specs.View.{event_view}
use Rattle.state_incoming.specs.Held.{held_at}
use Rattle.state_incoming.specs.EntryAnswers.{has_entry}
use Rattle.state_incoming.proofs.OverKnown.{table-whole}
use Rattle.state_outgoing.specs.SentAnswers.{KnowsOrBegins}
use Rattle.state_answers.proofs.NextKnown.{next-carries}
use Rattle.refusal_facts.specs.Facts.{IsReasonOf}
use Rattle.refusal_showing.specs.Contents.{TellOf}
use Rattle.refusal_showing.proofs.FactsKnown.{reason-less}
use Rattle.refusal_showing.proofs.refused.explain_refused.Goals as goal

pub returns-clause-clause : goal.returns-clause-clause
returns-clause-clause c = λ records stands.
    let rules = c.args.rules.now in
    let past = history rules records in
    let r = c.args.entry.now in
    let t = c.lent-lent.result in
    let lent = c.lent-lent.ensures.stand rules records stands.0 in
    let whole = c.lent-lent.ensures.whole rules records stands.0 stands.1 in
    let judged = c.judge_unopened-event.ensures past lent (ap (λ (x : Tally). x.records) (c.tally-number.ensures ∙ stands.0.1.0)) in
    let live = subst (λ (e : Event). StandsLive e past) (sym judged) (placed-stands past r.connection (moment_of r.what) r.note) in
    let names = subst (λ (e : Event). NamesLive e past) (sym judged) (placed-names past r.connection (moment_of r.what) r.note) in
    let number : (event_view c.judge_unopened-event.result).number ≡ length past = ap (λ (e : Event). e.number) judged in
    let carries = subst (λ (e : Event). CarriesKnown (λ n. has_entry t.deliveries.now n ≡ true) (KnowsOrBegins t.sent.now past) e) (sym judged)
    (next-carries rules past t.connections.now t.links.now t.consumers.now t.deliveries.now t.consumer_links.now t.copies.now t.sent.now t.verdicts.now lent r) in
    c.explain.ensures.clause past lent whole live names number carries
    ∙ (ap (λ (e : Event). broken_clause rules e past) judged ∙ sym (broken-unopened rules past r))

pub returns-clause-facts : goal.returns-clause-facts
returns-clause-facts c = λ records stands.
    let rules = c.args.rules.now in
    let past = history rules records in
    let r = c.args.entry.now in
    let t = c.lent-lent.result in
    let lent = c.lent-lent.ensures.stand rules records stands.0 in
    let whole = c.lent-lent.ensures.whole rules records stands.0 stands.1 in
    let judged = c.judge_unopened-event.ensures past lent (ap (λ (x : Tally). x.records) (c.tally-number.ensures ∙ stands.0.1.0)) in
    let live = subst (λ (e : Event). StandsLive e past) (sym judged) (placed-stands past r.connection (moment_of r.what) r.note) in
    let names = subst (λ (e : Event). NamesLive e past) (sym judged) (placed-names past r.connection (moment_of r.what) r.note) in
    let number : (event_view c.judge_unopened-event.result).number ≡ length past = ap (λ (e : Event). e.number) judged in
    let carries = subst (λ (e : Event). CarriesKnown (λ n. has_entry t.deliveries.now n ≡ true) (KnowsOrBegins t.sent.now past) e) (sym judged)
    (next-carries rules past t.connections.now t.links.now t.consumers.now t.deliveries.now t.consumer_links.now t.copies.now t.sent.now t.verdicts.now lent r) in
    let knows : ℕ → Type 0 = λ n. has_entry t.deliveries.now n ≡ true in
    let less : ℕ → Type 0 = λ n. is_some (held_at rules n past) ≡ true in
    let known : (n : ℕ) → less n → knows n = λ n l. ap is_some (table-whole rules past t.deliveries.now lent.1.1.1.1.0.0 whole n) ∙ l in
    let tells : TellOf rules t.deliveries.now t.sent.now past = record { judged = lent.0; held = lent.1.1.1.1.0.0; sent = lent.1.1.1.1.1.1.1.1.0.entries } in
    let facts = c.explain.ensures.facts past lent whole tells (λ d k. k) (λ j k. k) live names number carries in
    let own : Event = judge_unopened rules past r.connection (moment_of r.what) r.note in
    reason-less rules knows less known own past c.explain.result
    (subst (λ (e : Event). IfSome c.explain.result (IsReasonOf rules knows e past)) judged facts)
