use Rattle.std.proofs.Common.{◌≡◌, refl, sym, ap, ◌∙◌, Option, Some, None}
use Rattle.trace_events.specs.Event.{Incoming}
use Rattle.trace_events.specs.View.{incoming_view, link_view}
use Rattle.state_incoming.proofs.GroupAnswers.{judged-of}
use Rattle.due_lists.specs.UnsentNumbers.{copy_on}
use Rattle.due_lists.proofs.CopiesDue.{first-earliest, have-of, have-passed, one-unlisted}
use Rattle.due_lists.proofs.copies.UnsentCopies.earliest.Goals as goal

never : (d : Incoming) → ◌≡◌ {A = Option Incoming} None (Some d) → ⊥
never d is = absurd cc

pub returns-in-Some-unsent_copy-clause-first : goal.returns-in-Some-unsent_copy-clause-first
returns-in-Some-unsent_copy-clause-first c = λ past are has live.
    let rules = c.args.rules.now in
    let l = link_view c.args.link.now in
    let f = incoming_view c.in-Some-unsent_copy.delivery in
    let self = c.loop-completion.self in
    let number = (c.in-Some-unsent_copy.ensures.copy past are live).1 in
    let listed : copy_on self.unsent l.number c.in-Some.completion ≡ Some f.number = c.in-Some.ensures.stands ∙ ap Some (sym number) in
    first-earliest rules past (judged-of rules past are.0) l self.unsent (have-of rules self past (c.loop-completion.invariant.0 past are has live)) live
    c.in-Some.completion c.in-Some.ensures.least f listed

pub loop-completion-preserved : goal.loop-completion-preserved
loop-completion-preserved c = (
  λ past are has live.
      let rules = c.args.rules.now in
      let l = link_view c.args.link.now in
      let self = c.loop-completion.self in
      let was = c.loop-completion.invariant.0 past are has live in
      let after = have-passed rules past (judged-of rules past are.0) l live self.unsent c.remove.new.self c.in-Some.completion c.in-Some.number c.remove.ensures.removed
      c.in-Some.ensures.stands (λ d own h. never d (c.in_default-unsent_copy.ensures.found past are d own h)) (have-of rules self past was) in
      record { are = was.are; ranked = after.ranked; listed = after.listed; stands = after.stands; waits = after.waits },
  c.loop-completion.invariant.1,
)

pub returns-clause-none : goal.returns-clause-none
returns-clause-none c = λ past are has live none.
    let rules = c.args.rules.now in
    let self = c.loop-completion.self in
    one-unlisted rules past (judged-of rules past are.0) (link_view c.args.link.now) self.unsent (have-of rules self past (c.loop-completion.invariant.0 past are has live)) live
    (c.in_default.ensures.none refl)
