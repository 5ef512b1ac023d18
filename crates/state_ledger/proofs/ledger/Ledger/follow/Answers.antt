use Rattle.std.proofs.Common.{sym, subst, [], ◌∷◌, ◌++◌, List}
use Rattle.trace_events.specs.Event.{Event}
use Rattle.trace_events.specs.History.{history}
use Rattle.trace_events.specs.View.{event_view}
use Rattle.state_tables.specs.Connections.{IsLawfulNext}
use Rattle.state_answers.specs.Tables.{KeepsLast}
use Rattle.state_ledger.proofs.Entered.{few, longer, longer-past}
use Rattle.state_ledger.proofs.ledger.Ledger.follow.Goals as goal

pub returns-clause-stand : goal.returns-clause-stand
returns-clause-stand c = λ lt records held stands.
    let rules = c.args.rules.now in
    let past = history rules records in
    let r = c.args.entry.now in
    let next = subst (λ (e : Event). IsLawfulNext rules records r e) (sym c.event-event.ensures) held in
    let both = longer rules records r c.take.new.self c.counted-self.result (event_view c.event-event.result) next.0 (c.in_ok-take.ensures.stand records r next stands.0)
    (c.counted-self.ensures past stands.1.0 (few rules records r c.args.self.now.tally stands.1.0 lt)) in
    let last = subst (λ (p : List Event). KeepsLast c.take.new.self.deliveries.let_go.items p) (longer-past rules records r (event_view c.event-event.result) next.0)
    (c.in_ok-take.ensures.last records r next stands.0 stands.1.1.1) in
    let one = c.forget.ensures.stand rules (records ++ r ∷ []) (both.0, (both.1, ((λ keeps. c.in_ok-take.ensures.whole (stands.1.1.0 keeps)), last))) in
    c.forget-2.ensures.stand rules (records ++ r ∷ []) one
