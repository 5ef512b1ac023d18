use Rattle.std.proofs.Common.{◌≡◌, subst, sym, ap, ◌∙◌, List}
use Rattle.trace_events.specs.Event.{Event}
use Rattle.trace_events.specs.History.{history}
use Rattle.trace_events.specs.View.{event_view}
use Rattle.state_tables.specs.Addressed.{IsAddressed}
use Rattle.state_answers.specs.Tables.{AreTables, completed_by_all, completed_with}
use Rattle.route_work.proofs.Entering.{longer}
use Rattle.route_work.proofs.router_state.RouterState.follow.Goals as goal

pub returns : goal.returns
returns g c = λ records r next stand.
    let rules = c.args.rules.now in
    let past = history rules records in
    let lent = c.lent-lent.ensures.stand rules past stand.tables in
    let e = event_view c.args.event.now in
    let addressed = subst (IsAddressed e past) (sym c.octets-address.ensures) (c.completed_for-completed.ensures.addressed rules records r next lent.1.1.1.1.0) in
    let does = c.in_ok-effects.ensures rules records r next lent in
    record {
      tables = longer rules records r (AreTables rules c.take_addressed.new.self) e next.0 (c.in_ok-take_addressed.ensures.stand records r next addressed stand.tables);
      counted = longer rules records r (λ (p : List Event). c.take_addressed.new.self.completed ≡ completed_by_all p) e next.0
          (c.in_ok-take_addressed.ensures.counted ∙ ap (completed_with e) stand.counted);
      listed = longer rules records r (g.D.Dues.has_all c.follow.new.self rules) e next.0 (c.in_ok-follow.ensures records r next addressed lent does stand.listed);
    }
