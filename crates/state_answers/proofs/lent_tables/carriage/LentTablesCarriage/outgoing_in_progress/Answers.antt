use Rattle.std.proofs.Common.{◌≡◌, sym, subst, List, option_map}
use Rattle.trace_events.specs.Event.{Event}
use Rattle.trace_events.specs.Outgoing as law
use Rattle.trace_events.specs.View.{link_view, outgoing_view}
use Rattle.state_outgoing.specs.SentTables.{IsTable}
use Rattle.state_answers.proofs.lent_tables.carriage.LentTablesCarriage.outgoing_in_progress.Goals as goal

pub returns : goal.returns
returns c = λ rules past stands live.
    let h = stands.0 in
    let Is : List Event → Type 0 = λ p. option_map outgoing_view c.outgoing_in_progress.result ≡ law.in_progress (link_view c.args.link.now) p in
    subst Is (sym h.1) (c.outgoing_in_progress.ensures rules h.0 (subst (IsTable c.args.self.now.sent.now) h.1 stands.1.1.1.1.1.1.1.1.0))
