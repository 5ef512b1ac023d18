use Rattle.std.proofs.Common.{◌≡◌, refl, sym, ap, ◌∙◌, Option, None, false, true, is_some}
use Rattle.trace_events.specs.declared.event.Link.{Link}
use Rattle.state_incoming.proofs.GroupAnswers.{judged-of}
use Rattle.due_lists.specs.Credits.{place_in}
use Rattle.due_lists.proofs.CreditsFollowed.{have-dropped, none-lacking}
use Rattle.due_lists.proofs.credits.Credits.first_due.Goals as goal

none-due : (o : Option Link) → o ≡ None → is_some o ≡ true → ⊥
none-due o none some = let never : false ≡ true = ap is_some (sym none) ∙ some in absurd cc

pub loop-number-preserved : goal.loop-number-preserved
loop-number-preserved c = λ past are credits.
    have-dropped c.args.rules.now past c.loop-number.self (record c.loop-number.self { links = c.remove.new.self }) c.in-Some.number (λ n. refl) (λ session n. refl) (λ address n. refl) c.remove.ensures.left
    (λ l own there may. none-due None refl (c.in_default-credit_due.ensures.found past are l own (c.get.ensures ∙ (ap (place_in c.loop-number.self) (sym own) ∙ there.place)) may)) (c.loop-number.invariant past are credits)

pub returns-clause-quiet : goal.returns-clause-quiet
returns-clause-quiet c = λ past are credits none.
    none-lacking c.args.rules.now past (judged-of c.args.rules.now past are.0) c.loop-number.self (c.loop-number.invariant past are credits) (c.in_default.ensures.none refl)
