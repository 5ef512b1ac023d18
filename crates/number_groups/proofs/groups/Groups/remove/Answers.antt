use Rattle.std.proofs.Common.{◌≡◌, ◌∙◌, ap, sym, rules, arith, cond, nat_eq, false, Some, None, length}
use Rattle.std.proofs.lemmas.Bool.Decides.{nat_tests}
use Rattle.std.specs.HashMap.Eq.{lookup_congr}
use Rattle.indexmap.specs.IndexMap.{get}
use Rattle.number_groups.specs.Numbers.{is_among, listed, members}
use Rattle.number_groups.proofs.Moves.{left, twice, nothing}
use Rattle.number_groups.proofs.groups.Groups.remove.Goals as goal

pub returns-then-count-eq0-clause-left : goal.returns-then-count-eq0-clause-left
returns-then-count-eq0-clause-left g c =
    let eq = g.K.PartialEq.eq in
    let k = c.args.key.now in
    let m = c.args.self.now.entries in
    let n = c.get_mut.follows.lender c.remove.new.self in
    let none : length (members c.remove.new.self) ≡ 0 = grind (arith, nat_tests) in
    left eq (get eq m) (get eq c.swap_remove.new.self) k None
    (λ at. c.swap_remove.ensures.updates.0 at ∙ (ap (cond (eq k at) None) (((c.get_mut.follows.holds c.remove.new.self).3 (search rules)).0 at) ∙ twice (eq k at) None (Some c.remove.new.self) (get eq m at))) c.args.number
    (λ at same. sym (lookup_congr eq g.met.K.Eq.laws.congr m.entries k at same))
    (λ x. ap (λ xs. is_among xs x) (sym (nothing (members c.remove.new.self) none)) ∙ (c.remove.ensures x ∙ ap (λ o. cond (nat_eq c.args.number x) false (is_among (listed o) x)) c.in-Some.ensures.value))

pub returns-else-count-eq0-clause-left : goal.returns-else-count-eq0-clause-left
returns-else-count-eq0-clause-left g c =
    let eq = g.K.PartialEq.eq in
    let k = c.args.key.now in
    let m = c.args.self.now.entries in
    let n = c.get_mut.follows.lender c.remove.new.self in
    left eq (get eq m) (get eq n) k (Some c.remove.new.self) (((c.get_mut.follows.holds c.remove.new.self).3 (search rules)).0) c.args.number
    (λ at same. sym (lookup_congr eq g.met.K.Eq.laws.congr m.entries k at same))
    (λ x. c.remove.ensures x ∙ ap (λ o. cond (nat_eq c.args.number x) false (is_among (listed o) x)) c.in-Some.ensures.value)
