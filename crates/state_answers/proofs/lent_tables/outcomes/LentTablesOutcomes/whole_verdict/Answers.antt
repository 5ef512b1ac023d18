use Rattle.std.proofs.Common.{◌≡◌, sym, subst, List, Some}
use Rattle.trace_events.specs.Event.{Event}
use Rattle.trace_events.specs.Incoming.{incoming_at}
use Rattle.trace_events.specs.View.{incoming_view}
use Rattle.trace_events.specs.BestVerdict.{whole_verdict}
use Rattle.state_incoming.proofs.KnownEntries.{knows-at}
use Rattle.state_verdicts.specs.Verdicts.{AreVerdicts}
use Rattle.state_answers.proofs.LetGoKnown.{known-kept}
use Rattle.state_answers.proofs.lent_tables.outcomes.LentTablesOutcomes.whole_verdict.Goals as goal

pub returns : goal.returns
returns c = λ past stands knows.
    let rules = c.args._rules.now in
    let h = stands.0 in
    let d = incoming_view c.args.delivery.now in
    let AreHere : List Event → Type 0 = λ p. AreVerdicts rules c.args.self.now.verdicts.now p in
    let BeginsIn : List Event → Type 0 = λ p. incoming_at d.number p ≡ Some d in
    let Is : List Event → Type 0 = λ p. c.whole_verdict.result ≡ whole_verdict rules d p in
    subst Is (sym h.1)
    (c.whole_verdict.ensures rules h.0 (subst AreHere h.1 stands.1.1.1.1.1.1.1.1.1.0)
    (known-kept rules past c.args.self.now.deliveries.now stands.1.1.1.1.0.0 d knows c.args.self.now.verdicts.now.let_go.items stands.1.1.1.1.1.1.1.1.1.1.1) (subst BeginsIn h.1 (knows-at rules past c.args.self.now.deliveries.now stands.1.1.1.1.0.0 d knows)))
