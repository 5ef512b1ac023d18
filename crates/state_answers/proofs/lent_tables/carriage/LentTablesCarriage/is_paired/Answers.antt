use Rattle.std.proofs.Common.{◌≡◌, sym, subst, List}
use Rattle.trace_events.specs.Event.{Event}
use Rattle.trace_events.specs.Outgoing as law
use Rattle.trace_events.specs.View.{incoming_view}
use Rattle.state_outgoing.specs.SentTables.{IsTable}
use Rattle.state_answers.proofs.LetGoKnown.{known-kept}
use Rattle.state_answers.proofs.lent_tables.carriage.LentTablesCarriage.is_paired.Goals as goal

pub returns : goal.returns
returns c = λ rules past stands knows.
    let h = stands.0 in
    let Is : List Event → Type 0 = λ p. c.is_paired.result ≡ law.is_paired (incoming_view c.args.delivery.now) p in
    subst Is (sym h.1) (c.is_paired.ensures rules h.0 (subst (IsTable c.args.self.now.sent.now) h.1 stands.1.1.1.1.1.1.1.1.0)
    (known-kept rules past c.args.self.now.deliveries.now stands.1.1.1.1.0.0 (incoming_view c.args.delivery.now) knows c.args.self.now.sent.now.let_go.items stands.1.1.1.1.1.1.1.1.1.1.0))
