use Rattle.std.proofs.Common.{◌∙◌, subst, rules, Some, List, ℕ}
use Rattle.std.proofs.lemmas.Map.Text.{hash_map_updates_text}
use Rattle.std.specs.HashMap.{get_by_text}
use Rattle.address_table.specs.AddressLinks.{ChangesAt, line_of, stood}
use Rattle.address_table.proofs.Lists.{written}
use Rattle.address_table.proofs.table.stand.Goals as goal

pub returns-in-Some : goal.returns-in-Some
returns-in-Some c =
    let m = c.args.addresses.now in
    let n = c.get_mut.follows.lender c.stand.new.self in
    subst (λ (address : List ℕ). ChangesAt (get_by_text m) (get_by_text n) address (stood c.args.link c.args.consumer.now.undecided)) c.address.ensures
    (written line_of m n c.address.result.now (Some c.stand.new.self)
    (hash_map_updates_text c.address.result.now m n (Some c.stand.new.self) ((c.get_mut.follows.holds c.stand.new.self).3 (search rules)))
    (stood c.args.link c.args.consumer.now.undecided)
    (c.stand.ensures ∙ (λ i. stood c.args.link (c.undecided.ensures i) (line_of (c.in-Some.ensures.value i)))))
