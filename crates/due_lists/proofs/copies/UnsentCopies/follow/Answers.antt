use Rattle.std.proofs.Common.{◌≡◌, ◌∷◌, ◌++◌, [], ap, sym, subst, ◌∙◌, List, Some, true}
use Rattle.trace_events.specs.Event as law
use Rattle.trace_events.specs.Event.{Event}
use Rattle.trace_events.specs.History.{history}
use Rattle.trace_events.specs.Incoming.{completes}
use Rattle.trace_events.proofs.Judged.{history-judged}
use Rattle.trace_events.proofs.Lawful.{history-push}
use Rattle.trace_events.specs.View.{event_view}
use Rattle.trace_events.specs.declared.event.Link.{Link}
use Rattle.state_tables.specs.ConsumerLinks.{consumer_at}
use Rattle.state_tables.specs.Copies.{AreCopies, AreReceivers}
use Rattle.state_tables.specs.declared.copies.Receiver.{Receiver}
use Rattle.state_tables.specs.EndedLinks.{AreEnded, views}
use Rattle.due_lists.specs.UnsentNumbers.{IsIn, receives}
use Rattle.due_lists.specs.Copies.{IsUnsentOn}
use Rattle.due_lists.proofs.CopiesFollowed.{have-copies}
use Rattle.due_lists.proofs.CopiesDue.{have-of}
use Rattle.due_lists.proofs.copies.UnsentCopies.follow.Goals as goal

pub returns : goal.returns
returns c = λ records r next addressed tables does first.
    let rules = c.args.rules.now in
    let e = event_view c.args.event.now in
    let past = history rules records in
    let address = c.args.address.now in
    let Ended : List Link → Type 0 = λ links. AreEnded e past (views links) in
    let Given : List Receiver → Type 0 = λ receivers. AreReceivers rules address e past receivers in
    let ended = subst Ended (sym c.ended-ended.ensures) does.ended in
    let given = c.in_ok-receivers.ensures.known records tables.1.1.1.0 tables.1.1.1.1.1.0 tables.1.1.0 in
    let copies : AreCopies rules c.take.new.self (e ∷ past) = c.in_ok-take.ensures.kept records r next first.are ended addressed (subst Given (sym c.deref.ensures.value) given) in
    let Unsent : law.Link → law.Incoming → List Event → Type 0 = λ l d events. IsUnsentOn rules l d events in
    let on : e ∷ past ≡ history rules (records ++ r ∷ []) = ap (λ (x : Event). x ∷ past) next.0 ∙ sym (history-push rules records r) in
    let came : (l : law.Link) (d : law.Incoming) → e.incoming ≡ Some d → completes d e ≡ true → receives c.deref-2.result.now l.number ≡ true → consumer_at l.number past ≡ Some l → IsUnsentOn rules l d (e ∷ past) → IsIn c.come.new.self l.session.number l.number e.number d.number =
    λ l d part whole receives at h.
    let there = subst (Unsent l d) on h in
    c.in_ok-come.ensures.came rules (records ++ r ∷ []) (subst (AreCopies rules c.take.new.self) on copies) l d part whole receives
    (tables.1.1.1.1.1.0 l.number ∙ at) there.live there.found there.unsent in
    let have = have-copies rules e past ((r, next.0), history-judged rules records) next.1
    (views c.ended-ended.result.now) ended address addressed c.deref-2.result.now (subst Given (sym c.deref-2.ensures.value) given)
    c.args.self.now.unsent c.end.new.self c.send.new.self c.come.new.self c.touch.new.self c.wake.new.self
    c.end.ensures.listed c.end.ensures.only c.end.ensures.stood c.end.ensures.waited
    c.send.ensures.listed c.send.ensures.only c.send.ensures.stood c.send.ensures.waited
    came c.in_ok-come.ensures.only c.in_ok-come.ensures.kept c.in_ok-touch.ensures.own c.in_ok-touch.ensures.carrying c.in_ok-touch.ensures.kept
    (c.in_ok-wake.ensures.woken rules past tables) c.in_ok-wake.ensures.kept (have-of rules c.args.self.now past first) in
    record { are = copies; ranked = have.ranked; listed = have.listed; stands = have.stands; waits = have.waits }
