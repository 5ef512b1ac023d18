use Rattle.std.proofs.Common.{◌∙◌, ap, sym, rules, cond, nat_eq, true, Some}
use Rattle.std.specs.HashMap.Eq.{lookup_congr}
use Rattle.indexmap.specs.IndexMap.{get}
use Rattle.std.proofs.lemmas.Result.{on_ok_weaker}
use Rattle.number_groups.specs.Numbers.{is_among, listed}
use Rattle.number_groups.proofs.Moves.{joined}
use Rattle.number_groups.proofs.groups.Groups.insert.Goals as goal

pub returns-clause-joined : goal.returns-clause-joined
returns-clause-joined g c =
    let eq = g.K.PartialEq.eq in
    let m = c.args.self.now.entries in
    let n = c.get_mut.follows.lender c.insert.new.self in
    on_ok_weaker c.insert.result (λ is. joined eq (get eq m) (get eq n) c.args.key (Some c.insert.new.self) (((c.get_mut.follows.holds c.insert.new.self).3 (search rules)).0) c.args.number
    (λ at same. sym (lookup_congr eq g.met.K.Eq.laws.congr m.entries c.args.key at same))
    (λ x. is x ∙ ap (λ o. cond (nat_eq c.args.number x) true (is_among (listed o) x)) c.in-Some.ensures.value)) c.insert.ensures.joined
