use Rattle.std.proofs.Common.{◌≡◌, sym, subst, List, option_map}
use Rattle.trace_events.specs.Event.{Event}
use Rattle.trace_events.specs.Outgoing as law
use Rattle.trace_events.specs.View.{incoming_view, outgoing_view}
use Rattle.state_outgoing.specs.SentTables.{IsTable}
use Rattle.state_answers.proofs.ClosingsKnown.{known-one}
use Rattle.state_answers.proofs.LetGoKnown.{known-kept}
use Rattle.state_answers.proofs.lent_tables.outcomes.LentTablesOutcomes.pairing.Goals as goal

pub returns-clause-value : goal.returns-clause-value
returns-clause-value c = λ rules past stands knows.
    let h = stands.0 in
    let Is : List Event → Type 0 = λ p. option_map outgoing_view c.pairing.result ≡ law.pairing (incoming_view c.args.delivery.now) p in
    subst Is (sym h.1)
    (c.pairing.ensures.value rules h.0 (subst (IsTable c.args.self.now.sent.now) h.1 stands.1.1.1.1.1.1.1.1.0)
    (known-kept rules past c.args.self.now.deliveries.now stands.1.1.1.1.0.0 (incoming_view c.args.delivery.now) knows c.args.self.now.sent.now.let_go.items stands.1.1.1.1.1.1.1.1.1.1.0))

pub returns-clause-known : goal.returns-clause-known
returns-clause-known c = λ rules past stands knows.
    let h = stands.0 in
    known-one c.args.self.now.sent.now past (option_map outgoing_view c.pairing.result)
    (c.pairing.ensures.known rules h.0 (subst (IsTable c.args.self.now.sent.now) h.1 stands.1.1.1.1.1.1.1.1.0))
