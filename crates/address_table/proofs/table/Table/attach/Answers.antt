use Rattle.std.proofs.Common.{◌≡◌, rules, ℕ, cond, refl, Option, Some, None}
use Rattle.std.specs.Prelude.{nat_eq, ◌==◌}
use Rattle.std.specs.HashMap.{get_by_text}
use Rattle.indexmap.specs.IndexMap.{get}
use Rattle.flow_counts.specs.Picks.{Consumer, attached}
use Rattle.address_table.specs.AddressLinks.{line_of}
use Rattle.address_table.proofs.Lines.{lines_joined, lines_same, others_kept, changed_here}
use Rattle.address_table.proofs.table.Table.attach.Goals as goal

pub invariant_of-self-2 : goal.invariant_of-self-2
invariant_of-self-2 c =
    let consumer : ℕ → Option Consumer = λ x. get nat_eq c.args.self.now.links x in
    let later : ℕ → Option Consumer = λ x. get nat_eq c.insert.new.self x in
    let updates : (x : ℕ) → later x ≡ cond (c.args.link == x) (Some (attached c.args.address.now c.args.pre_settled)) (consumer x) = λ x. search rules in
    let none : get nat_eq c.args.self.now.links c.args.link ≡ None = search rules in
    record {
      in_line = lines_joined consumer later c.args.link (others_kept consumer later c.args.link (Some (attached c.args.address.now c.args.pre_settled)) updates)
          c.args.address.now (λ at. line_of (get_by_text c.args.self.now.addresses at)) (λ at. line_of (get_by_text c.join.new.addresses at)) c.args.self.now.in_line
          c.eq-is_ordered.result c.in_ok-join.ensures.changed none c.args.pre_settled (changed_here consumer later c.args.link (Some (attached c.args.address.now c.args.pre_settled)) updates);
    }

pub invariant_of-self : goal.invariant_of-self
invariant_of-self c =
    let consumer : ℕ → Option Consumer = λ x. get nat_eq c.args.self.now.links x in
    let later : ℕ → Option Consumer = λ x. get nat_eq c.reserve.new.self x in
    let same : (x : ℕ) → later x ≡ consumer x = λ x. search rules in
    record { in_line = lines_same consumer later (λ at. line_of (get_by_text c.args.self.now.addresses at)) _ same (λ at. refl) c.args.self.now.in_line }

pub invariant_of-self-in-Break-branch-3 : goal.invariant_of-self-in-Break-branch-3
invariant_of-self-in-Break-branch-3 c =
    let consumer : ℕ → Option Consumer = λ x. get nat_eq c.args.self.now.links x in
    let later : ℕ → Option Consumer = λ x. get nat_eq c.reserve.new.self x in
    let same : (x : ℕ) → later x ≡ consumer x = λ x. search rules in
    record {
      in_line = lines_same consumer later (λ at. line_of (get_by_text c.args.self.now.addresses at)) (λ at. line_of (get_by_text c.join.new.addresses at)) same
          c.in_err-join.ensures.unchanged c.args.self.now.in_line;
    }
