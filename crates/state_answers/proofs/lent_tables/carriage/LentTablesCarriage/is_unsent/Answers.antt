use Rattle.std.proofs.Common.{◌≡◌, sym, subst, List, Some}
use Rattle.trace_events.specs.Due as due
use Rattle.trace_events.specs.Event.{Event}
use Rattle.trace_events.specs.Incoming.{incoming_at}
use Rattle.trace_events.specs.Link.{IsLiveLink}
use Rattle.trace_events.specs.View.{incoming_view, link_view}
use Rattle.state_tables.specs.Copies.{AreCopies}
use Rattle.state_incoming.proofs.KnownEntries.{knows-at}
use Rattle.state_answers.proofs.lent_tables.carriage.LentTablesCarriage.is_unsent.Goals as goal

pub returns : goal.returns
returns c = λ past stands live knows.
    let rules = c.args._rules.now in
    let h = stands.0 in
    let d = incoming_view c.args.delivery.now in
    let l = link_view c.args.link.now in
    let copies = c.args.self.now.copies.now in
    let AreHere : List Event → Type 0 = λ p. AreCopies rules copies p in
    let LivesIn : List Event → Type 0 = λ p. IsLiveLink l p in
    let BeginsIn : List Event → Type 0 = λ p. incoming_at d.number p ≡ Some d in
    let Is : List Event → Type 0 = λ p. c.is_unsent.result ≡ due.is_unsent rules d l p in
    subst Is (sym h.1)
    (c.is_unsent.ensures rules h.0 (subst AreHere h.1 stands.1.1.1.1.1.1.0) (subst LivesIn h.1 live)
    (subst BeginsIn h.1 (knows-at rules past c.args.self.now.deliveries.now stands.1.1.1.1.0.0 d knows)))
