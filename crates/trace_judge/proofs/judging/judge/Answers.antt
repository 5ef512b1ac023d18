use Rattle.std.proofs.Common.{sym, ap, subst, ◌∙◌}
use Rattle.trace_events.specs.Event.{Event}
use Rattle.trace_events.specs.Session.{StandsLive}
use Rattle.trace_events.specs.History as law
use Rattle.trace_events.proofs.Standing.{placed-stands}
use Rattle.trace_events.specs.Known.{OpensKnown}
use Rattle.trace_judge.proofs.judging.judge.Goals as goal

pub returns : goal.returns
returns g c = λ past stands numbered known.
    let entry = c.args.entry.now in
    let judged = c.judge_unopened-event.ensures past stands numbered in
    let live = placed-stands past entry.connection (law.moment_of entry.what) entry.note in
    let Stands : Event → Type 0 = λ e. StandsLive e past in
    let Opens : Event → Type 0 = λ e. OpensKnown (λ n channel. g.P.History.knows_begin c.args.past.now n channel past) (λ s handle. g.P.History.knows_attach c.args.past.now s handle past) e in
    c.open.ensures c.args.rules.now past stands (subst Stands (sym judged) live) (subst Opens (sym judged) known) ∙ ap (law.opened past) judged
