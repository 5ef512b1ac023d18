use Rattle.std.proofs.Common.{◌≡◌, ◌∙◌, ap, sym, rules, cond, true, false, Some, None, bytes_eq}
use Rattle.std.proofs.lemmas.Map.Text.{hash_map_updates_text}
use Rattle.address_table.specs.AddressLinks.{emptied, left, line_of}
use Rattle.address_table.proofs.Lists.{written, twice}
use Rattle.address_table.proofs.Lines.{as_none, not_emptied}
use Rattle.address_table.proofs.table.leave.Goals as goal

pub returns-else-is_empty : goal.returns-else-is_empty
returns-else-is_empty c =
    let m = c.args.addresses.now in
    let n = c.get_mut.follows.lender c.leave.new.self in
    written line_of m n c.args.address.now (Some c.leave.new.self)
    (hash_map_updates_text c.args.address.now m n (Some c.leave.new.self) ((c.get_mut.follows.holds c.leave.new.self).3 (search rules)))
    (λ line. emptied (left c.args.link line))
    (not_emptied (line_of (Some c.leave.new.self)) (λ none. let is : true ≡ false = sym (c.is_empty.ensures.1 none) ∙ c.if-is_empty.false in absurd cc)
    ∙ ap emptied (c.leave.ensures ∙ ap (λ found. left c.args.link (line_of found)) c.in-Some.ensures.value))

pub returns-then-is_empty : goal.returns-then-is_empty
returns-then-is_empty c =
    let m = c.args.addresses.now in
    let n = c.get_mut.follows.lender c.leave.new.self in
    written line_of m c.swap_remove.new.self c.args.address.now None
    (λ at. hash_map_updates_text c.args.address.now n c.swap_remove.new.self None c.swap_remove.ensures.updates at
    ∙ ap (λ found. cond (bytes_eq c.args.address.now at) None found) (hash_map_updates_text c.args.address.now m n (Some c.leave.new.self) ((c.get_mut.follows.holds c.leave.new.self).3 (search rules)) at)
    ∙ twice (bytes_eq c.args.address.now at) _ _ _)
    (λ line. emptied (left c.args.link line))
    (as_none (line_of (Some c.leave.new.self)) (c.is_empty.ensures.0 c.if-is_empty.true)
    ∙ ap emptied (c.leave.ensures ∙ ap (λ found. left c.args.link (line_of found)) c.in-Some.ensures.value))
