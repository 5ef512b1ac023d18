use Rattle.std.proofs.Common.{◌≡◌, ap, ◌∙◌, ◌∷◌, ◌==◌, ℕ, [], None, Some, length, rules}
use Rattle.std.specs.List.{list_any}
use Rattle.std.proofs.lemmas.Result.{IfOk-weaker}
use Rattle.trace_events.specs.History.{history}
use Rattle.trace_events.specs.Words.{is_some_and}
use Rattle.trace_events.proofs.Judged.{AreJudged, history-judged}
use Rattle.trace_events.specs.View.{event_view, incoming_view}
use Rattle.state_tables.specs.Copies.{AreCounted, copied_by, copies_at, has_room}
use Rattle.state_tables.proofs.CopySteps.{comes-room, copies-counted}
use Rattle.state_tables.proofs.copies.Copies.due_to.Goals as goal

pub returns-in-Some-clause-known : goal.returns-in-Some-clause-known
returns-in-Some-clause-known c =
    IfOk-weaker c.with_room.result _ _ (λ due of records r next are addressed given link.
    let texts = c.args.rules.now in
    let e = event_view c.args.event.now in
    let past = history texts records in
    let judged : AreJudged texts (e ∷ past) = ((r, next.0), history-judged texts records) in
    let counts : ℕ → ℕ = λ k. length (copies_at texts k past) in
    let counted : AreCounted c.args.self.now counts = λ k ns each same. copies-counted texts past (history-judged texts records) k ns each (λ m. same m ∙ are k m) in
    let copied : Some (incoming_view c.in-Some.field-0) ≡ copied_by texts c.args.address.now e = c.in-Some.ensures in
    of counts counted link
    ∙ (ap (λ o. is_some_and o (λ d. has_room c.args.receivers.now link (counts link))) copied ∙ comes-room texts e past judged next.1 c.args.address.now addressed c.args.receivers.now given link))
    c.with_room.ensures

pub returns-in-None-clause-known : goal.returns-in-None-clause-known
returns-in-None-clause-known c = λ records r next are addressed given link.
    let texts = c.args.rules.now in
    let e = event_view c.args.event.now in
    let past = history texts records in
    let judged : AreJudged texts (e ∷ past) = ((r, next.0), history-judged texts records) in
    let copied : None ≡ copied_by texts c.args.address.now e = c.in-None.ensures in
    let nothing : c.new.result.items ≡ [] = search rules in
    ap (λ ns. list_any (λ (m : ℕ). m == link) ns) nothing
    ∙ (ap (λ o. is_some_and o (λ d. has_room c.args.receivers.now link (length (copies_at texts link past)))) copied ∙ comes-room texts e past judged next.1 c.args.address.now addressed c.args.receivers.now given link)
