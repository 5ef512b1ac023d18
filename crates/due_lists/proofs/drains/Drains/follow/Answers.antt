use Rattle.std.proofs.Common.{sym, subst, List}
use Rattle.trace_events.specs.History.{history}
use Rattle.trace_events.proofs.Judged.{history-judged}
use Rattle.trace_events.specs.View.{event_view}
use Rattle.trace_events.specs.declared.event.Link.{Link}
use Rattle.state_tables.specs.EndedLinks.{AreEnded, views}
use Rattle.due_lists.specs.Drains.{stands, waits}
use Rattle.due_lists.proofs.DrainsFollowed.{have-drains}
use Rattle.due_lists.proofs.drains.Drains.follow.Goals as goal

pub returns : goal.returns
returns c = λ rules records r next does has.
    let e = event_view c.args.event.now in
    let past = history rules records in
    let Ended : List Link → Type 0 = λ links. AreEnded e past (views links) in
    let ended = subst Ended (sym c.ended.ensures) does.ended in
    have-drains rules e past ((r, next.0), history-judged rules records) next.1 (views c.ended.result.now) ended
    (stands c.args.self.now) (stands c.end.new.self) (stands c.ask.new.self) (stands c.wake.new.self)
    (waits c.args.self.now) (waits c.end.new.self) (waits c.ask.new.self) (waits c.wake.new.self)
    c.end.ensures.stood c.end.ensures.waiting c.in_ok-ask.ensures.asked c.in_ok-ask.ensures.stood c.in_ok-ask.ensures.waiting
    c.in_ok-wake.ensures.stood c.in_ok-wake.ensures.waiting c.in_ok-wake.ensures.woken has
