use Rattle.std.proofs.Common.{◌≡◌, sym, subst, List, option_map}
use Rattle.trace_events.specs.Event.{Event}
use Rattle.trace_events.specs.Disposition.{terminal_state}
use Rattle.trace_events.specs.Outgoing as law
use Rattle.trace_events.specs.View.{decision_view, outgoing_view}
use Rattle.state_outgoing.specs.SentAnswers.{KnowsOrBegins}
use Rattle.state_outgoing.specs.SentTables.{AreSent}
use Rattle.state_answers.proofs.lent_tables.outcomes.LentTablesOutcomes.decision.Goals as goal

pub returns : goal.returns
returns c = λ rules past stands knows.
    let h = stands.0 in
    let j = outgoing_view c.args.delivery.now in
    let table = c.args.self.now.sent.now in
    let Is : List Event → Type 0 = λ p. option_map decision_view c.decision.result ≡ option_map terminal_state (law.decision j p) in
    let KnowsIn : List Event → Type 0 = λ p. KnowsOrBegins table p j in
    subst Is (sym h.1) (c.decision.ensures rules h.0 (subst (AreSent table) h.1 stands.1.1.1.1.1.1.1.1.0.entries) (subst KnowsIn h.1 knows))
