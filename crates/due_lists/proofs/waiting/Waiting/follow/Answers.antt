use Rattle.std.proofs.Common.{◌∷◌, sym, subst, List}
use Rattle.trace_events.specs.History.{history}
use Rattle.trace_events.specs.Incoming.{completed_by}
use Rattle.trace_events.proofs.Judged.{history-judged}
use Rattle.trace_events.specs.View.{event_view}
use Rattle.trace_events.specs.Waiting.{has_waiting}
use Rattle.trace_events.specs.declared.event.Link.{Link}
use Rattle.state_tables.specs.EndedLinks.{AreEnded, views}
use Rattle.due_lists.specs.AddressesToTry.{is_to_try}
use Rattle.due_lists.specs.BySession.{stands}
use Rattle.due_lists.proofs.WaitingFollowed.{completed-wakes, have-waiting}
use Rattle.due_lists.proofs.waiting.Waiting.follow.Goals as goal

pub returns : goal.returns
returns c = λ records r next own tables does has.
    let rules = c.args.rules.now in
    let e = event_view c.args.event.now in
    let past = history rules records in
    let Ended : List Link → Type 0 = λ links. AreEnded e past (views links) in
    let have = have-waiting rules e past ((r, next.0), history-judged rules records) next.1 (views c.ended-ended.result.now) (subst Ended (sym c.ended-ended.ensures) does.ended)
    (stands c.args.self.now.links) (stands c.end.new.self) (stands c.open.new.self) (is_to_try c.args.self.now.to_try) (is_to_try c.wake.new.self)
    (completed-wakes (is_to_try c.wake.new.self) (λ at. has_waiting rules at past) (e ∷ past) c.args.address.now (completed_by e) own (c.in_ok-wake.ensures.completed rules past tables)) c.in_ok-wake.ensures.credited c.in_ok-wake.ensures.freed (λ l. c.in_ok-wake.ensures.granted rules past tables l) c.in_ok-wake.ensures.kept
    c.end.ensures c.in_ok-open.ensures.opened c.in_ok-open.ensures.stood (record { stands = has.stands; to_try = has.to_try }) in
    record {
      picks = c.in_ok-follow.ensures rules records r next tables does has.picks;
      queues = c.in_ok-follow-2.ensures records r next own has.queues;
      stands = have.stands;
      to_try = have.to_try;
    }
