use Rattle.std.proofs.Common.{◌≡◌, ◌-◌, List, ℕ, ◌++◌, take, drop, length, ap, ◌∙◌, subst}
use Rattle.std.proofs.lemmas.List.{take_rest}
use Rattle.conn_engine.proofs.noting.note_own.Goals as goal

pub returns-in-Ok : goal.returns-in-Ok
returns-in-Ok g c framed taken waiting h =
    let said : take (length c.give.result.now - c.args.before) (drop c.args.before c.give.result.now) ≡ drop c.args.before c.args.engine.now.waiting =
    take_rest c.give.result.now c.args.before ∙ ap (λ (t : List ℕ). drop c.args.before t) c.give.ensures in
    subst (λ (t : List ℕ). g.S.Notes.stands_for c.own.new.self framed taken (waiting ++ t)) said (c.in-Ok.ensures framed taken waiting h)
