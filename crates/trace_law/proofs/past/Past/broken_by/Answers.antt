use Rattle.std.proofs.Common.{◌≡◌, refl, sym, ap, subst, ◌∙◌, length}
use Rattle.capture_form.specs.declared.records.Record.{Record}
use Rattle.trace_events.specs.Event.{Event}
use Rattle.trace_events.specs.Session.{StandsLive}
use Rattle.trace_events.specs.History.{moment_of, judge_unopened}
use Rattle.trace_events.proofs.Standing.{placed-stands}
use Rattle.trace_events.specs.Link.{NamesLive}
use Rattle.trace_events.specs.Clauses.{broken_clause}
use Rattle.trace_events.proofs.LiveLinks.{placed-names}
use Rattle.trace_events.proofs.Unopened.{broken-unopened}
use Rattle.trace_law.specs.OnStack.{events}
use Rattle.trace_events.specs.View.{event_view}
use Rattle.trace_law.proofs.KnownAll.{carries_all}
use Rattle.trace_law.proofs.past.Past.broken_by.Goals as goal

-- the law is asked before what the record opens is filled in
pub returns : goal.returns
returns c =
    let past = events c.args.self.now in
    let rules = c.args.rules.now in
    let entry = c.args.entry.now in
    let judged =
    c.judge_unopened-event.ensures past refl c.requires.numbered
    ∙ ap (λ (r : Record). judge_unopened rules past r.connection (moment_of r.what) r.note) c.of-entry.ensures in
    let live = subst (λ (e : Event). StandsLive e past) (sym judged) (placed-stands past entry.connection (moment_of entry.what) entry.note) in
    let names = subst (λ (e : Event). NamesLive e past) (sym judged) (placed-names past entry.connection (moment_of entry.what) entry.note) in
    let number : (event_view c.judge_unopened-event.result).number ≡ length past = ap (λ (e : Event). e.number) judged in
    c.broken_clause.ensures.whole past refl tt live names number (carries_all (event_view c.judge_unopened-event.result))
    ∙ (ap (λ (e : Event). broken_clause rules e past) judged
    ∙ sym (broken-unopened rules past entry))
