use Rattle.std.proofs.Common.{◌≡◌, sym, subst, List}
use Rattle.trace_events.specs.Event.{Event}
use Rattle.trace_events.specs.Outgoing as law
use Rattle.trace_events.specs.View.{outgoing_view}
use Rattle.state_outgoing.specs.SentAnswers.{KnowsOrBegins}
use Rattle.state_outgoing.specs.SentTables.{AreSent}
use Rattle.state_answers.proofs.lent_tables.outcomes.LentTablesOutcomes.is_sent.Goals as goal

pub returns : goal.returns
returns c = λ rules past stands knows.
    let h = stands.0 in
    let j = outgoing_view c.args.delivery.now in
    let table = c.args.self.now.sent.now in
    let Is : List Event → Type 0 = λ p. c.is_sent.result ≡ law.is_sent j p in
    let KnowsIn : List Event → Type 0 = λ p. KnowsOrBegins table p j in
    subst Is (sym h.1) (c.is_sent.ensures rules h.0 (subst (AreSent table) h.1 stands.1.1.1.1.1.1.1.1.0.entries) (subst KnowsIn h.1 knows))
