use Rattle.std.proofs.Common.{ap, ◌∙◌, ◌&&◌, ◌||◌, ◌∷◌, ℕ, not, length}
use Rattle.trace_events.specs.History.{history}
use Rattle.trace_events.proofs.Judged.{AreJudged, history-judged}
use Rattle.trace_events.specs.View.{event_view}
use Rattle.state_tables.specs.EndedLinks.{views}
use Rattle.state_tables.specs.ConsumerLinks.{has_link}
use Rattle.state_tables.specs.Copies.{AreCounted, comes_to, copies_at, names_at}
use Rattle.state_tables.proofs.CopySteps.{copies-counted, copies-next}
use Rattle.state_tables.proofs.copies.Copies.take.Goals as goal

pub returns-clause-kept : goal.returns-clause-kept
returns-clause-kept c = λ records r next are all addressed given link n.
    let rules = c.args.rules.now in
    let e = event_view c.args.event.now in
    let past = history rules records in
    let ended = views c.args.ended.now in
    let address = c.args.address.now in
    let receivers = c.args.receivers.now in
    let judged : AreJudged rules (e ∷ past) = ((r, next.0), history-judged rules records) in
    let counts : ℕ → ℕ = λ k. length (copies_at rules k past) in
    let counted : AreCounted c.args.self.now counts = λ k ns each same. copies-counted rules past (history-judged rules records) k ns each (λ m. same m ∙ are k m) in
    c.end.ensures link n
    ∙ (ap (λ b. b && not (has_link ended link))
    (c.send.ensures link n ∙ ap (λ b. b && not (names_at link n e)) (c.in_ok-come.ensures.came counts counted link n ∙ ap (λ b. comes_to rules address e receivers (counts link) link n || b) (are link n)))
    ∙ copies-next rules e past judged next.1 address addressed receivers given ended all link n)
