use Rattle.std.proofs.Common.{◌≡◌, sym, subst, ℕ, List, option_map}
use Rattle.trace_events.specs.Event.{Event}
use Rattle.trace_events.specs.Settling as settling
use Rattle.trace_events.specs.View.{outgoing_view}
use Rattle.state_incoming.specs.EntryAnswers.{is_shut}
use Rattle.state_incoming.specs.HeldTables.{held_in}
use Rattle.state_incoming.proofs.GroupAnswers.{judged-of}
use Rattle.state_outgoing.specs.SentAnswers.{AreClosings}
use Rattle.state_outgoing.specs.SentTables.{IsTable}
use Rattle.state_answers.proofs.ClosingsKnown.{closings}
use Rattle.state_answers.proofs.lent_tables.outcomes.LentTablesOutcomes.to_settle.Goals as goal

pub returns : goal.returns
returns c = λ rules past stands live.
    let h = stands.0 in
    let deliveries = c.args.self.now.deliveries.now in
    let Is : List Event → Type 0 = λ p. option_map outgoing_view c.to_settle.result ≡ settling.to_settle c.args.session c.args.id p in
    let does_close : ℕ → _ = λ n. is_shut (held_in deliveries n) in
    subst Is (sym h.1)
    (c.to_settle.ensures rules h.0 (subst (IsTable c.args.self.now.sent.now) h.1 stands.1.1.1.1.1.1.1.1.0)
    (subst (AreClosings does_close) h.1 (closings rules past (judged-of rules past h) stands.1.1.1.1.1.1.1.0 deliveries stands.1.1.1.1.0.0 stands.1.1.1.1.0.1.1)))
