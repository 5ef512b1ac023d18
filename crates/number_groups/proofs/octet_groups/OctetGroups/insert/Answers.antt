use Rattle.std.proofs.Common.{◌∙◌, ap, rules, cond, nat_eq, true, Some, bytes_eq}
use Rattle.std.proofs.lemmas.Result.{on_ok_weaker, on_err_weaker}
use Rattle.number_groups.specs.Numbers.{is_among, listed}
use Rattle.number_groups.proofs.Moves.{joined, same}
use Rattle.number_groups.proofs.Octets.{alike, changed, under}
use Rattle.number_groups.proofs.octet_groups.OctetGroups.insert.Goals as goal

pub returns-clause-unchanged : goal.returns-clause-unchanged
returns-clause-unchanged c =
    let key = c.args.key.now in
    let m = c.args.self.now.entries in
    let n = c.get_mut.follows.lender c.insert.new.self in
    on_err_weaker c.insert.result
    (λ is. same bytes_eq (under m) (under n) key (Some c.insert.new.self) (changed m n key (Some c.insert.new.self) ((c.get_mut.follows.holds c.insert.new.self).3 (search rules)))
    (alike m key) (is ∙ ap listed c.in-Some.ensures.value)) c.insert.ensures.unchanged

pub returns-clause-joined : goal.returns-clause-joined
returns-clause-joined c =
    let key = c.args.key.now in
    let m = c.args.self.now.entries in
    let n = c.get_mut.follows.lender c.insert.new.self in
    on_ok_weaker c.insert.result (λ is. joined bytes_eq (under m) (under n) key (Some c.insert.new.self) (changed m n key (Some c.insert.new.self) ((c.get_mut.follows.holds c.insert.new.self).3 (search rules))) c.args.number
    (alike m key) (λ x. is x ∙ ap (λ o. cond (nat_eq c.args.number x) true (is_among (listed o) x)) c.in-Some.ensures.value)) c.insert.ensures.joined
