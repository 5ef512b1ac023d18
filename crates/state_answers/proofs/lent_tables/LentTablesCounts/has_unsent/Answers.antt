use Rattle.std.proofs.Common.{◌≡◌, sym, subst, List}
use Rattle.trace_events.specs.Due.{has_unsent}
use Rattle.trace_events.specs.Event.{Event}
use Rattle.trace_events.specs.Link.{IsLiveLink}
use Rattle.trace_events.specs.View.{link_view}
use Rattle.state_tables.specs.Copies.{AreCopies}
use Rattle.state_answers.proofs.lent_tables.LentTablesCounts.has_unsent.Goals as goal

pub returns : goal.returns
returns c = λ past stands live.
    let rules = c.args._rules.now in
    let link = link_view c.args.link.now in
    let copies = c.args.self.now.copies.now in
    let is = stands.0.1 in
    let AreHere : List Event → Type 0 = λ events. AreCopies rules copies events in
    let LivesIn : List Event → Type 0 = λ events. IsLiveLink link events in
    let Says : List Event → Type 0 = λ events. c.has_unsent.result ≡ has_unsent rules link events in
    subst Says (sym is) (c.has_unsent.ensures rules stands.0.0 (subst AreHere is stands.1.1.1.1.1.1.0) (subst LivesIn is live))
