use Rattle.std.proofs.Common.{◌≡◌, ◌∷◌, ◌∙◌, ℕ, List, [], arith, subst, sym}
use Rattle.std.proofs.lemmas.List.{append-nil}
use Rattle.trace_events.specs.View.{event_view}
use Rattle.state_outgoing.specs.SentTables.{sent_in}
use Rattle.due_lists.specs.AddressCounts.{CountsMore, decided_on}
use Rattle.due_lists.specs.Picks.{decided_among, decided_link}
use Rattle.due_lists.proofs.Moves.{counts-then, none-left, popped}
use Rattle.due_lists.proofs.picks.Picks.decide.Goals as goal

pub loop-number-init : goal.loop-number-init
loop-number-init c = ([], sym (append-nil c.args.spoken.now), λ events linked past count. count)

pub loop-number-smaller : goal.loop-number-smaller
loop-number-smaller c = let len = c.in-Some.ensures.cases.1 in omega (arith, len)

pub loop-number-preserved : goal.loop-number-preserved
loop-number-preserved c =
    let was = c.loop-number.invariant in
    let e = event_view c.args.event.now in
    let kept = sent_in c.args.before.now.sent.now in
    let number = c.in-Some.number.now in (
      number ∷ was.0,
      popped _ _ _ was.0 number was.1 c.in-Some.ensures.cases.0,
      λ events linked. counts-then (decided_among e events kept was.0) (decided_on (decided_link e events (kept number))) _ _ _ (was.2 events linked) (c.decide_one.ensures events linked),
    )

pub returns : goal.returns
returns c = λ events linked.
    let was = c.loop-number.invariant in
    let e = event_view c.args.event.now in
    let kept = sent_in c.args.before.now.sent.now in
    let all : was.0 ≡ c.args.spoken.now = sym (was.1 ∙ none-left _ was.0 c.in_default.ensures.cases) in
    subst (λ (ns : List ℕ). CountsMore (decided_among e events kept ns) c.args.self.now.table c.loop-number.self.table) all (was.2 events linked)
