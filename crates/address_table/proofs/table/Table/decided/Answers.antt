use Rattle.std.proofs.Common.{◌≡◌, sym, ap, rules, refl, ℕ, cond, Option, Some}
use Rattle.std.specs.Prelude.{nat_eq, ◌==◌}
use Rattle.std.specs.HashMap.{get_by_text}
use Rattle.indexmap.specs.IndexMap.{get}
use Rattle.flow_counts.specs.Picks.{Consumer}
use Rattle.address_table.specs.AddressLinks.{line_of}
use Rattle.address_table.proofs.Lines.{lines_stood, others_kept, changed_here}
use Rattle.address_table.proofs.table.Table.decided.Goals as goal

pub invariant_of-self : goal.invariant_of-self
invariant_of-self c =
    let n = c.get_mut.follows.lender c.decided.new.self in
    let consumer : ℕ → Option Consumer = λ x. get nat_eq c.args.self.now.links x in
    let later : ℕ → Option Consumer = λ x. get nat_eq n x in
    let updates : (x : ℕ) → later x ≡ cond (c.args.link == x) (Some c.decided.new.self) (consumer x) = λ x. ((c.get_mut.follows.holds c.decided.new.self).3 (search rules)).0 x in
    let same : c.decided.new.self.address ≡ c.in-Some.consumer.now.address = ap (λ (it : Consumer). it.address) c.decided.ensures in
    record {
      in_line = lines_stood consumer later c.args.link (others_kept consumer later c.args.link (Some c.decided.new.self) updates)
          c.decided.new.self.address (λ at. line_of (get_by_text c.args.self.now.addresses at)) (λ at. line_of (get_by_text c.stand.new.addresses at)) c.args.self.now.in_line
          c.decided.new.self.undecided c.stand.ensures c.in-Some.consumer.now c.decided.new.self (sym c.in-Some.ensures.value)
          (changed_here consumer later c.args.link (Some c.decided.new.self) updates) same (sym same) refl;
    }
