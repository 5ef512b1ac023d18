use Rattle.std.proofs.Common.{◌≡◌, ◌∙◌, ap, sym, rules, arith, cond, nat_eq, false, Some, None, length, bytes_eq}
use Rattle.std.proofs.lemmas.Bool.Decides.{nat_tests}
use Rattle.number_groups.specs.Numbers.{is_among, listed, members}
use Rattle.number_groups.proofs.Moves.{left, twice, nothing}
use Rattle.number_groups.proofs.Octets.{alike, changed, under}
use Rattle.number_groups.proofs.octet_groups.OctetGroups.remove.Goals as goal

pub returns-then-count-eq0-clause-left : goal.returns-then-count-eq0-clause-left
returns-then-count-eq0-clause-left c =
    let key = c.args.key.now in
    let m = c.args.self.now.entries in
    let n = c.get_mut.follows.lender c.remove.new.self in
    let last = c.swap_remove.new.self in
    let none : length (members c.remove.new.self) ≡ 0 = grind (arith, nat_tests) in
    left bytes_eq (under m) (under last) key None
    (λ at. changed n last key None c.swap_remove.ensures.updates at
    ∙ (ap (cond (bytes_eq key at) None) (changed m n key (Some c.remove.new.self) ((c.get_mut.follows.holds c.remove.new.self).3 (search rules)) at)
    ∙ twice (bytes_eq key at) None (Some c.remove.new.self) (under m at))) c.args.number
    (alike m key)
    (λ x. ap (λ xs. is_among xs x) (sym (nothing (members c.remove.new.self) none)) ∙ (c.remove.ensures x ∙ ap (λ o. cond (nat_eq c.args.number x) false (is_among (listed o) x)) c.in-Some.ensures.value))

pub returns-else-count-eq0-clause-left : goal.returns-else-count-eq0-clause-left
returns-else-count-eq0-clause-left c =
    let key = c.args.key.now in
    let m = c.args.self.now.entries in
    let n = c.get_mut.follows.lender c.remove.new.self in
    left bytes_eq (under m) (under n) key (Some c.remove.new.self) (changed m n key (Some c.remove.new.self) ((c.get_mut.follows.holds c.remove.new.self).3 (search rules))) c.args.number
    (alike m key) (λ x. c.remove.ensures x ∙ ap (λ o. cond (nat_eq c.args.number x) false (is_among (listed o) x)) c.in-Some.ensures.value)
