use Rattle.std.proofs.Common.{refl, sym, ap, subst, ◌∙◌, Option, IfSome}
use Rattle.trace_events.specs.declared.session.Session.{Session}
use Rattle.trace_events.specs.Session.{IsLiveOn}
use Rattle.trace_events.specs.History.{link_of}
use Rattle.trace_events.proofs.Standing.{placed-stands}
use Rattle.trace_events.specs.View.{moment_view}
use Rattle.trace_judge.proofs.judging.placed.Goals as goal

pub returns : goal.returns
returns g c = λ rules past stands numbered.
    let moment = moment_view c.args.moment.now in
    let on = c.session_of-session.ensures rules past stands in
    let live = subst (λ (o : Option Session). IfSome o (λ s. IsLiveOn s past)) (sym on) (placed-stands past c.args.connection moment c.args.note) in
    let named = c.link_of.ensures rules past stands live ∙ ap (link_of moment past) on in
    rw (numbered, named, on) refl
