use Rattle.std.proofs.Common.{◌≡◌, ℕ, ◌+◌, ◌-◌, ◌≤◌, List, length, take, drop, Some, None, Ok, refl, sym, ap, ◌∙◌, subst, arith, rules}
use Rattle.std.proofs.lemmas.Result.{err_from_is_err_and}
use Rattle.amqp_frames.specs.Stream.{next_answer}
use Rattle.amqp_frames.proofs.Streams.{told_next, err_next, none_next, given_next}
use Rattle.amqp_frames.proofs.splitter.Splitter.next.Goals as goal

pub overflow_add-end : goal.overflow_add-end
overflow_add-end c =
    let is = given_next c.self.inside.kept.items c.self.inside.given c.self.inside.fault c.args.self.now c.in-Some.count c.self.invariant (c.self.view_is ∙ c.length_ahead.ensures.ahead) (sym c.in_ok-count.ensures.answer ∙ ap (λ o. Ok o) c.in-Some.is) in
    let room = is.room in
    omega arith

pub invariant_of-self : goal.invariant_of-self
invariant_of-self c =
    let is = given_next c.self.inside.kept.items c.self.inside.given c.self.inside.fault c.args.self.now c.in-Some.count c.self.invariant (c.self.view_is ∙ c.length_ahead.ensures.ahead) (sym c.in_ok-count.ensures.answer ∙ ap (λ o. Ok o) c.in-Some.is) in
    is.room

pub returns-in_err-count : goal.returns-in_err-count
returns-in_err-count c =
    let p = err_from_is_err_and c.from_residual.result c.from_residual.ensures.1 in
    let old = c.args.self.now in
    let is = err_next old c.in_err-count.field-0.0 (sym c.in_err-count.ensures.answer) in
    let ahead = c.length_ahead.ensures.ahead ∙ sym is.1 in
    rw (p.1, p.2) ((refl, λ _. tt, (ahead, told_next old c.length_ahead.new.self _ ahead (sym is.0))), record { after = tt; answer = sym is.0 })

pub returns-in_default : goal.returns-in_default
returns-in_default c =
    let old = c.args.self.now in
    let is = none_next old (sym c.in_ok-count.ensures.answer ∙ ap (λ o. Ok o) c.in_default.is) in
    let ahead = c.length_ahead.ensures.ahead ∙ sym is.1 in
    ((refl, λ _. tt, (ahead, told_next old c.length_ahead.new.self (Ok None) ahead (sym is.0))), record { after = tt; answer = sym is.0 })

pub slice_bounds-result-end : goal.slice_bounds-result-end
slice_bounds-result-end c =
    let is = given_next c.self.inside.kept.items c.self.inside.given c.self.inside.fault c.args.self.now c.in-Some.count c.self.invariant (c.self.view_is ∙ c.length_ahead.ensures.ahead) (sym c.in_ok-count.ensures.answer ∙ ap (λ o. Ok o) c.in-Some.is) in
    let room : c.self.inside.given + c.in-Some.count ≤ length c.deref.result.now = subst (λ (t : List ℕ). c.self.inside.given + c.in-Some.count ≤ length t) (sym c.deref.ensures.value) is.room in
    search (rules, room)

pub returns : goal.returns
returns c =
    let old = c.args.self.now in
    let is = given_next c.self.inside.kept.items c.self.inside.given c.self.inside.fault old c.in-Some.count c.self.invariant (c.self.view_is ∙ c.length_ahead.ensures.ahead) (sym c.in_ok-count.ensures.answer ∙ ap (λ o. Ok o) c.in-Some.is) in
    let inside = c.self.inside in
    let same : take (inside.given + c.in-Some.count - inside.given) (drop inside.given c.deref.result.now) ≡ take c.in-Some.count (drop inside.given inside.kept.items) =
    ap (λ n. take n (drop inside.given c.deref.result.now)) (omega arith) ∙ ap (λ (t : List ℕ). take c.in-Some.count (drop inside.given t)) c.deref.ensures.value in
    let answer : Ok (Some (take (inside.given + c.in-Some.count - inside.given) (drop inside.given c.deref.result.now))) ≡ next_answer old = ap (λ (t : List ℕ). Ok (Some t)) same ∙ sym is.answer in
    ((refl, λ _. tt, (sym is.ahead, told_next old _ (Ok (Some _)) (sym is.ahead) answer)), record { after = tt; answer = answer })
