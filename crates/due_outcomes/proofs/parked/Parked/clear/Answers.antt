use Rattle.std.proofs.Common.{sym, subst, ◌∙◌}
use Rattle.due_outcomes.specs.declared.parked.Parked.{Parked}
use Rattle.due_outcomes.proofs.ParkedSteps.{IsClear, IsLess, clear-next, less-next}
use Rattle.due_outcomes.proofs.parked.Parked.clear.Goals.{in-Some, in_default}
use Rattle.due_outcomes.proofs.parked.Parked.clear.Goals as goal

pub loop-preserved : goal.loop-preserved
loop-preserved c =
    let carried = c.args.carried in
    let earlier = c.args.self.now in
    let Keeps : Parked → Type 0 = λ later. IsClear carried earlier later × IsLess carried earlier later in
    elim c.match-first.branch [
      | in-Some w ↦
          let later : Parked = record { alloc = c.loop.self.alloc; numbers = w.remove-in-Some.new.self; carrying = w.remove.new.self } in
          let both : Keeps later = (
            clear-next carried w.in-Some.number earlier c.loop.self later c.loop.invariant.0 c.loop.invariant.1 (sym c.first.ensures ∙ w.in-Some.is) w.remove.ensures.left w.remove-in-Some.ensures.left,
            less-next carried w.in-Some.number earlier c.loop.self later c.loop.invariant.0 c.loop.invariant.1 (sym c.first.ensures ∙ w.in-Some.is) w.remove.ensures.left w.remove-in-Some.ensures.left,
          ) in
          subst Keeps (sym w.self-is) both
      | in_default w ↦ subst Keeps (sym w.self-is) c.loop.invariant
    ]
