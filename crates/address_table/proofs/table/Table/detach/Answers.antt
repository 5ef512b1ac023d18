use Rattle.std.proofs.Common.{◌≡◌, refl, rules, sym, ℕ, Option, None}
use Rattle.std.specs.Prelude.{nat_eq}
use Rattle.std.specs.HashMap.{get_by_text}
use Rattle.indexmap.specs.IndexMap.{get}
use Rattle.flow_counts.specs.Picks.{Consumer}
use Rattle.address_table.specs.AddressLinks.{line_of}
use Rattle.address_table.proofs.Lines.{lines_left, lines_same, others_kept}
use Rattle.address_table.proofs.table.Table.detach.Goals as goal

pub invariant_of-self : goal.invariant_of-self
invariant_of-self c =
    let consumer : ℕ → Option Consumer = λ x. get nat_eq c.args.self.now.links x in
    let later : ℕ → Option Consumer = λ x. get nat_eq c.swap_remove.new.self x in
    record {
      in_line = lines_left consumer later c.args.link (others_kept consumer later c.args.link None c.swap_remove.ensures.updates.0)
          c.address.result.now (λ at. line_of (get_by_text c.args.self.now.addresses at)) (λ at. line_of (get_by_text c.leave.new.addresses at)) c.args.self.now.in_line
          c.leave.ensures c.in-Some.consumer (sym c.in-Some.ensures.value) (sym c.address.ensures);
    }

pub invariant_of-self-in_default : goal.invariant_of-self-in_default
invariant_of-self-in_default c =
    let consumer : ℕ → Option Consumer = λ x. get nat_eq c.args.self.now.links x in
    let later : ℕ → Option Consumer = λ x. get nat_eq c.swap_remove.new.self x in
    let same : (x : ℕ) → later x ≡ consumer x = λ x. search rules in
    record { in_line = lines_same consumer later (λ at. line_of (get_by_text c.args.self.now.addresses at)) _ same (λ at. refl) c.args.self.now.in_line }
