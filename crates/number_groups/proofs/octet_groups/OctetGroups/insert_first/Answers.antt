use Rattle.std.proofs.Common.{◌≡◌, ◌∙◌, ap, sym, cond, nat_eq, true, rules, Some, bytes_eq}
use Rattle.number_groups.specs.Numbers.{is_among}
use Rattle.number_groups.specs.declared.group.Group.TheVariants.{One}
use Rattle.number_groups.proofs.Moves.{joined, absent, alone_among}
use Rattle.number_groups.proofs.Octets.{alike, changed_owned, under}
use Rattle.number_groups.proofs.octet_groups.OctetGroups.insert_first.Goals as goal

pub returns-clause-joined : goal.returns-clause-joined
returns-clause-joined c =
    let key = c.args.key.now in
    let m = c.args.self.now.entries in
    let n = c.insert.new.self in
    let alone = Some (One c.args.number) in
    let kept : c.in_ok-key.key.items ≡ key = search rules in
    joined bytes_eq (under m) (under n) key alone (changed_owned m n c.in_ok-key.key key kept alone c.in_ok-insert.ensures.updates) c.args.number
    (alike m key) (λ x. alone_among c.args.number x ∙ ap (λ xs. cond (nat_eq c.args.number x) true (is_among xs x)) (sym (absent (under m key) c.requires.new)))
