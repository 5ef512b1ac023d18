use Rattle.std.proofs.Common.{sym, subst, ◌∙◌, List}
use Rattle.trace_events.specs.History.{history}
use Rattle.trace_events.proofs.Judged.{history-judged}
use Rattle.trace_events.specs.View.{event_view}
use Rattle.trace_events.specs.declared.event.Link.{Link}
use Rattle.state_tables.specs.EndedLinks.{AreEnded, views}
use Rattle.due_lists.specs.Credits.{AreFreedIn}
use Rattle.due_lists.proofs.CreditsFollowed.{have-credits}
use Rattle.due_lists.proofs.credits.Credits.follow.Goals as goal

pub returns : goal.returns
returns c = λ rules records r next are does has.
    let e = event_view c.args.event.now in
    let past = history rules records in
    let Ended : List Link → Type 0 = λ links. AreEnded e past (views links) in
    let ended = subst Ended (sym c.ended.ensures) does.ended in
    have-credits rules e past ((r, next.0), history-judged rules records) next.1 c.args.before.now are (views c.ended.result.now) ended
    c.args.self.now c.end.new.self c.open.new.self c.touch.new.self c.wake.new.self c.free.new.self c.end.ensures c.in_ok-open.ensures c.in_ok-touch.ensures c.in_ok-wake.ensures
    (subst (λ links. AreFreedIn (views links) c.args.before.now c.wake.new.self c.free.new.self) (c.ended-2.ensures ∙ sym c.ended.ensures) c.in_ok-free.ensures) has
