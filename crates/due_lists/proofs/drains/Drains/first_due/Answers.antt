use Rattle.std.proofs.Common.{◌≡◌, refl, sym, ap, ◌∙◌, Option, None, false, true, is_some}
use Rattle.number_groups.specs.OctetGroups.{is_member}
use Rattle.trace_events.specs.declared.event.Link.{Link}
use Rattle.state_incoming.proofs.GroupAnswers.{judged-of}
use Rattle.due_lists.specs.Drains.{stands, waits}
use Rattle.number_groups.specs.Ascending.{has}
use Rattle.due_lists.proofs.DrainsFollowed.{have-dropped, none-draining}
use Rattle.due_lists.proofs.drains.Drains.first_due.Goals as goal

none-due : (o : Option Link) → o ≡ None → is_some o ≡ true → ⊥
none-due o none some = let never : false ≡ true = ap is_some (sym none) ∙ some in absurd cc

pub loop-number-preserved : goal.loop-number-preserved
loop-number-preserved c = λ past are drains.
    let of = is_member c.loop-number.self.of_address in
    have-dropped c.args.rules.now past of of (has c.loop-number.self.links) (has c.remove.new.self) c.in-Some.number (λ address n. refl) c.remove.ensures.left
    (λ l own may. none-due None refl (c.in_default-drain_due.ensures.found past are l own may)) (c.loop-number.invariant past are drains)

pub returns-clause-quiet : goal.returns-clause-quiet
returns-clause-quiet c = λ past are drains none.
    none-draining c.args.rules.now past (judged-of c.args.rules.now past are.0) (stands c.loop-number.self) (waits c.loop-number.self) (c.loop-number.invariant past are drains) (c.in_default.ensures.none refl)
