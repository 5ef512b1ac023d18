use Rattle.std.proofs.Common.{◌≡◌, refl, sym, ap, ◌∙◌, Option, None, false, true, is_some}
use Rattle.state_incoming.proofs.GroupAnswers.{judged-of}
use Rattle.due_lists.specs.Parts.{stands, waits}
use Rattle.number_groups.specs.Ascending.{has}
use Rattle.number_groups.specs.Groups.{is_member}
use Rattle.std.specs.Prelude.{nat_eq}
use Rattle.due_lists.specs.declared.parts.DuePart.{DuePart}
use Rattle.due_lists.proofs.PartsFollowed.{have-dropped, none-still}
use Rattle.due_lists.proofs.parts.DeliveriesInProgress.first_due.Goals as goal

none-due : (o : Option DuePart) → o ≡ None → is_some o ≡ true → ⊥
none-due o none some = let never : false ≡ true = ap is_some (sym none) ∙ some in absurd cc

pub loop-number-preserved : goal.loop-number-preserved
loop-number-preserved c = λ rules past are parts.
    let of = is_member nat_eq c.loop-number.self.of_session in
    have-dropped past of of (has c.loop-number.self.links) (has c.remove.new.self) c.in-Some.number (λ session n. refl) c.remove.ensures.left
    (λ l own still. none-due None refl (c.in_default-part_due.ensures.found rules past are l own still)) (c.loop-number.invariant rules past are parts)

pub returns-clause-quiet : goal.returns-clause-quiet
returns-clause-quiet c = λ rules past are parts none.
    none-still rules past (judged-of rules past are.0) (stands c.loop-number.self) (waits c.loop-number.self) (c.loop-number.invariant rules past are parts) (c.in_default.ensures.none refl)
