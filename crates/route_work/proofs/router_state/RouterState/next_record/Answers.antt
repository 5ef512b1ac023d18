use Rattle.std.proofs.Common.{◌∙◌}
use Rattle.trace_events.specs.History.{history}
use Rattle.route_work.proofs.router_state.RouterState.next_record.Goals as goal

pub returns-in_ok-record_of-in-Some-clause-next : goal.returns-in_ok-record_of-in-Some-clause-next
returns-in_ok-record_of-in-Some-clause-next g c = λ records stand order.
    let rules = c.args.rules.now in
    let tell = c.lent-lent.ensures.stand rules (history rules records) stand.tables in
    c.in_ok-record_of-in-Some.ensures.next (history rules records) tell order (c.in-Some.ensures.due records tell stand.listed) (c.in-Some.ensures.turn records tell stand.listed)

pub returns-in-None-clause-kept : goal.returns-in-None-clause-kept
returns-in-None-clause-kept g c = λ records stand.
    let rules = c.args.rules.now in
    let tell = c.lent-lent.ensures.stand rules (history rules records) stand.tables in
    record {
      tables = c.let_go_next-in-None.ensures.stand rules records (c.let_go_next.ensures.stand rules records stand.tables);
      counted = c.let_go_next-in-None.ensures.counted ∙ (c.let_go_next.ensures.counted ∙ stand.counted);
      listed = c.in-None.ensures.kept records tell stand.listed;
    }
