use Rattle.std.proofs.Common.{◌∙◌, ap, rules, Some}
use Rattle.std.proofs.lemmas.Map.Text.{hash_map_updates_text}
use Rattle.address_table.specs.AddressLinks.{joined, line_of}
use Rattle.address_table.proofs.Lists.{on_err, written, kept}
use Rattle.address_table.proofs.table.join.Goals as goal

pub returns-in_err-join-clause-unchanged : goal.returns-in_err-join-clause-unchanged
returns-in_err-join-clause-unchanged c =
    let m = c.args.addresses.now in
    let n = c.get_mut.follows.lender c.join.new.self in
    on_err c.from_residual.result
    (kept line_of m n c.args.address.now (Some c.join.new.self)
    (hash_map_updates_text c.args.address.now m n (Some c.join.new.self) ((c.get_mut.follows.holds c.join.new.self).3 (search rules)))
    (c.in_err-join.ensures.unchanged ∙ ap line_of c.in-Some.ensures.value))

pub returns-clause-changed : goal.returns-clause-changed
returns-clause-changed c =
    let m = c.args.addresses.now in
    let n = c.get_mut.follows.lender c.join.new.self in
    written line_of m n c.args.address.now (Some c.join.new.self)
    (hash_map_updates_text c.args.address.now m n (Some c.join.new.self) ((c.get_mut.follows.holds c.join.new.self).3 (search rules)))
    (joined c.args.is_ordered c.args.link) (c.in_ok-join.ensures.joined ∙ ap (λ found. joined c.args.is_ordered c.args.link (line_of found)) c.in-Some.ensures.value)
