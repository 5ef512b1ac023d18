use Rattle.std.proofs.Common.{sym, ap, subst, ◌∙◌, ℕ}
use Rattle.trace_events.specs.Event.{Event, Moment}
use Rattle.trace_events.specs.Session.{StandsLive}
use Rattle.trace_events.specs.Link.{NamesLive}
use Rattle.trace_events.specs.History as law
use Rattle.trace_events.proofs.Standing.{placed-stands}
use Rattle.trace_events.proofs.LiveLinks.{placed-names}
use Rattle.trace_events.specs.View.{moment_view}
use Rattle.trace_judge.proofs.judging.judge_unopened.Goals as goal

-- each step gives what its definition gives of the step before it, and leaves session and link as they were placed
pub returns : goal.returns
returns g c = λ past stands numbered.
    let rules = c.args.rules.now in
    let entry = c.args.entry.now in
    let moment = law.moment_of entry.what in
    let live = placed-stands past entry.connection moment entry.note in
    let names = placed-names past entry.connection moment entry.note in
    let Stands : Event → Type 0 = λ e. StandsLive e past in
    let Names : Event → Type 0 = λ e. NamesLive e past in
    let placed =
    c.placed-event.ensures rules past stands numbered
    ∙ ap (λ (n : ℕ). law.placed past n (moment_view c.moment.result.now) c.note.result) c.connection.ensures
    ∙ ap (λ (m : Moment). law.placed past entry.connection m c.note.result) c.moment.ensures
    ∙ ap (law.placed past entry.connection moment) c.note.ensures in
    let heard = c.hear.ensures rules past stands (subst Stands (sym placed) live) ∙ ap (law.heard past) placed in
    let faulted = c.find_fault.ensures past stands (subst Stands (sym heard) live) (subst Names (sym heard) names) ∙ ap (law.faulted rules past) heard in
    c.find_deliveries.ensures past stands (subst Stands (sym faulted) live) (subst Names (sym faulted) names) ∙ ap (law.delivered rules past) faulted
