use Rattle.std.proofs.Common.{◌≡◌, sym, ap, ◌∙◌, Option, None, refl, false, true, is_some}
use Rattle.state_incoming.proofs.GroupAnswers.{judged-of}
use Rattle.due_lists.specs.declared.begin.DueBegin.{DueBegin}
use Rattle.due_lists.proofs.CopiesDue.{have-dropped, none-due, have-of}
use Rattle.due_lists.proofs.copies.UnsentCopies.first_due.Goals as goal

no-copy : (o : Option DueBegin) → o ≡ None → is_some o ≡ true → ⊥
no-copy o none some = let never : false ≡ true = ap is_some (sym none) ∙ some in absurd cc

pub loop-completion-preserved : goal.loop-completion-preserved
loop-completion-preserved c = λ past are first.
    let rules = c.args.rules.now in
    let self = c.copy_due.new.self in
    let was = c.loop-completion.invariant past are first in
    let have = c.in_default-copy_due.ensures.kept past are was in
    let same = c.in_default-copy_due.ensures.links in
    let after = have-dropped rules past self.unsent c.remove.new.self c.in-Some.completion c.in-Some.link c.remove.ensures.removed
    (λ l own ready. no-copy None refl (c.in_default-copy_due.ensures.found past are was l own ready)) (have-of rules self past have) in
    record { are = have.are; ranked = after.ranked; listed = after.listed; stands = after.stands; waits = after.waits }

pub returns-clause-quiet : goal.returns-clause-quiet
returns-clause-quiet c = λ past are first none.
    let rules = c.args.rules.now in
    let self = c.loop-completion.self in
    none-due rules past (judged-of rules past are.0) self.unsent (have-of rules self past (c.loop-completion.invariant past are first)) (c.in_default.ensures.none refl)
