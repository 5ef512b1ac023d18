use Rattle.std.proofs.Common.{◌≡◌, ℕ, ◌-◌, ◌≤◌, length, ap, ◌∙◌, arith}
use Rattle.conn_engine.proofs.Laced.{stands_taken}
use Rattle.conn_engine.proofs.Putting.{all_put}
use Rattle.conn_engine.proofs.script.Script.octets.Goals as goal

pub returns-clause-value : goal.returns-clause-value
returns-clause-value c =
    let whole : length c.args.self.now.owns.items ≤ c.loop-own.own-index = grind (arith, c.loop-own-test.false, c.deref-own-items.ensures.len, c.deref-own-items.ensures.value, c.args.self.now.owns.ok.0) in
    let rest : c.saturating_sub.result ≡ c.args.self.now.taken - length c.loop-own.octets.items = c.saturating_sub.ensures ∙ ap (λ (n : ℕ). c.args.self.now.taken - n) (c.len.ensures ∙ c.loop-own.octets.ok.0) in
    c.truncate.ensures.items ∙ all_put c.args.self.now c.args.frames.now c.loop-own.own-index _ c.loop-own.octets.items c.loop-own.left _ whole rest c.loop-own.invariant c.in_ok-put-3.ensures.put

pub returns-clause-exact : goal.returns-clause-exact
returns-clause-exact c taken waiting h = returns-clause-value c ∙ stands_taken c.args.self.now c.args.frames.now taken waiting h
