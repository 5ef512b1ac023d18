use Rattle.std.proofs.Common.{◌≡◌, sym, subst, List}
use Rattle.trace_events.specs.Event.{Event}
use Rattle.trace_events.specs.View.{link_view}
use Rattle.state_outgoing.specs.SentTables.{IsTable}
use Rattle.state_outgoing.specs.UnsettledCount.{unsettled_count}
use Rattle.credit_levels.proofs.delivery_counts.LentTablesDeliveryCounts.unsettled_count.Goals as goal

pub returns : goal.returns
returns c = λ past stands.
    let link = link_view c.args.link.now in
    let sent = c.args.self.now.sent.now in
    let is = stands.0.1 in
    let AreHere : List Event → Type 0 = λ events. IsTable sent events in
    let Says : List Event → Type 0 = λ events. c.unsettled_count.result ≡ unsettled_count link events in
    subst Says (sym is) (c.unsettled_count.ensures c.args._rules.now stands.0.0 (subst AreHere is stands.1.1.1.1.1.1.1.1.0))
