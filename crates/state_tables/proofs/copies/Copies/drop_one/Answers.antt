use Rattle.std.proofs.Common.{ap, ◌∙◌, ◌&&◌, ◌==◌, not, length, refl, eq-eqb, nat_eq}
use Rattle.number_groups.specs.Groups.{numbers}
use Rattle.state_tables.specs.Copies.{stands}
use Rattle.state_tables.proofs.TableSteps.{none-fewer, one-fewer}
use Rattle.state_tables.proofs.copies.Copies.drop_one.Goals as goal
use Rattle.state_tables.proofs.copies.Copies.drop_one.Goals.{in-Some, in_default}

pub returns-clause-fewer : goal.returns-clause-fewer
returns-clause-fewer c =
    let link = c.args.link in
    let old = numbers nat_eq c.args.self.now.unsent link in
    elim c.match-first.branch [
      | in-Some w ↦
          one-fewer old (numbers nat_eq c.match-first.self.unsent link) w.in-Some.number c.count.result c.count.ensures.distinct w.in-Some.ensures
          (λ n. ap (λ t. stands t link n) w.self-is ∙ (w.remove.ensures.left link n ∙ ap (λ b. stands c.args.self.now link n && not (b && (w.in-Some.number == n))) (eq-eqb link link refl)))
          c.count.ensures.count
      | in_default w ↦ none-fewer old c.count.result w.in_default.ensures (c.count.ensures.count ∙ ap (λ t. length (numbers nat_eq t.unsent link)) w.self-is)
    ]
