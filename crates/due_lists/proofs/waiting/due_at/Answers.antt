use Rattle.std.proofs.Common.{◌≡◌, refl, sym, ap, ◌∙◌, Some}
use Rattle.trace_events.specs.History.{history}
use Rattle.trace_events.specs.Queue.{waiting_queue}
use Rattle.trace_events.proofs.Judged.{history-judged}
use Rattle.trace_duties.specs.Pick.{pick}
use Rattle.trace_events.specs.View.{incoming_view, link_view}
use Rattle.due_lists.proofs.Chosen.{next-waits, pick-some, picked-link, picked-lives, queue-some, waiting-known}
use Rattle.due_lists.proofs.waiting.due_at.Goals as goal

pub returns-in_err-delivery-clause-none : goal.returns-in_err-delivery-clause-none
returns-in_err-delivery-clause-none c = λ records tables picks queues none d l h at.
    let rules = c.args.rules.now in
    let past = history rules records in
    queue-some rules past (history-judged rules records) d l h
    (ap (λ address. waiting_queue rules address past) at ∙ c.in_err-delivery.ensures.none rules records tables queues refl)

pub returns-in_err-link-clause-none : goal.returns-in_err-link-clause-none
returns-in_err-link-clause-none c = λ records tables picks queues none d l h at.
    let rules = c.args.rules.now in
    let past = history rules records in
    pick-some rules past (history-judged rules records) d l h
    (ap (λ address. pick rules address past) at ∙ sym (c.in_err-link.ensures.picked records tables picks))

pub returns-clause-due : goal.returns-clause-due
returns-clause-due c = λ records tables picks queues.
    let rules = c.args.rules.now in
    let past = history rules records in
    let are = history-judged rules records in
    let address = c.args.address.now in
    let d = incoming_view c.in_ok-delivery.delivery in
    let l = link_view c.in_ok-link.link in
    let first = c.in_ok-delivery.ensures.first rules records tables queues in
    let picked : Some l.number ≡ pick rules address past = c.in_ok-link.ensures.picked records tables picks in
    let at = c.in_ok-link.ensures.known records tables picks in
    record {
      live = picked-lives rules past are address l (sym picked) at;
      at = at;
      found = first.1;
      payload = c.payload-payload.ensures rules past tables.1.1.1.1.0.0
          (waiting-known rules past are c.args.tables.now.deliveries.now tables.1.1.1.1.0 d first.1 (next-waits rules past d first.2));
      next = first.2;
      picked = picked-link rules past are d address l.number first.0 picked;
    }
