use Rattle.std.proofs.Common.{◌≡◌, refl, sym, ap, ◌∙◌, true, false, ◌&&◌, ◌<◌, ◌^◌, Option, Some, None, is_some, length, drop, nat_lt, ltb-true, lt-ltb, arith}
use Rattle.trace_events.specs.Event.{Link, Incoming}
use Rattle.trace_events.specs.Link.{IsLiveLink}
use Rattle.trace_events.specs.Incoming as incoming
use Rattle.trace_events.specs.Outgoing as outgoing
use Rattle.trace_events.specs.Outgoing.{in_progress}
use Rattle.trace_events.specs.Window.{session_window}
use Rattle.trace_events.specs.TransferClause.{to_carry}
use Rattle.trace_events.specs.View.{link_view, incoming_view, outgoing_view}
use Rattle.state_incoming.proofs.GroupAnswers.{judged-of}
use Rattle.state_tables.specs.ConsumerLinks.{consumer_at}
use Rattle.due_lists.proofs.PartsDue.{found-consumer, carries, carried-noted, carrier-there, sent-so-far, still-link, still-going, still-window}
use Rattle.due_lists.proofs.parts.part_due.Goals as goal

pub returns-in_err-link-clause-found : goal.returns-in_err-link-clause-found
returns-in_err-link-clause-found c = λ rules past are l own still.
    let never : ◌≡◌ {A = Option Link} None (Some l) = still-link rules past (judged-of rules past are.0) c.args.number l own still None (c.in_err-link.ensures ∙ are.1.1.1.1.1.0 c.args.number) in
    absurd cc

pub returns-in_err-delivery-clause-found : goal.returns-in_err-delivery-clause-found
returns-in_err-delivery-clause-found c = λ rules past are l own still.
    let judged = judged-of rules past are.0 in
    let m = link_view c.in_ok-link.link in
    let at : Some m ≡ consumer_at c.args.number past = c.in_ok-link.ensures ∙ are.1.1.1.1.1.0 c.args.number in
    let live : IsLiveLink m past = (found-consumer rules past judged c.args.number m (sym at)).0 in
    let never : false ≡ true = ap is_some (c.in_err-delivery.ensures rules past are live) ∙ still-going rules past judged c.args.number l own still m at in
    absurd cc

pub returns-then-session_window-eq0-clause-found : goal.returns-then-session_window-eq0-clause-found
returns-then-session_window-eq0-clause-found c = λ rules past are l own still.
    let judged = judged-of rules past are.0 in
    let m = link_view c.in_ok-link.link in
    let at : Some m ≡ consumer_at c.args.number past = c.in_ok-link.ensures ∙ are.1.1.1.1.1.0 c.args.number in
    let live : IsLiveLink m past = (found-consumer rules past judged c.args.number m (sym at)).0 in
    let lt = ltb-true 0 (session_window m.session past) (still-window rules past judged c.args.number l own still m at) in
    absurd (omega (arith, lt, c.session_window.ensures rules past are live.0, c.if-session_window-eq0.true))

pub returns-in_err-carried-clause-found : goal.returns-in_err-carried-clause-found
returns-in_err-carried-clause-found c = λ rules past are l own still.
    let judged = judged-of rules past are.0 in
    let m = link_view c.in_ok-link.link in
    let j = outgoing_view c.in_ok-delivery.delivery in
    let at : Some m ≡ consumer_at c.args.number past = c.in_ok-link.ensures ∙ are.1.1.1.1.1.0 c.args.number in
    let live : IsLiveLink m past = (found-consumer rules past judged c.args.number m (sym at)).0 in
    let going : in_progress m past ≡ Some j = sym (c.in_ok-delivery.ensures rules past are live) in
    let one = carries rules past judged are.1.1.1.1.1.1.1.0 m j going in
    let there = carrier-there rules past judged are.1.1.1.1.1.1.1.0 m j going c.args.tables.now.deliveries.now are.1.1.1.1.0.1.1 in
    let never : ◌≡◌ {A = Option Incoming} None (Some one.0) = c.in_err-carried.ensures.value rules past are.1.1.1.1.0.0 there ∙ one.1 in
    absurd cc

pub returns-clause-due : goal.returns-clause-due
returns-clause-due c = λ rules past are.
    let judged = judged-of rules past are.0 in
    let m = link_view c.in_ok-link.link in
    let j = outgoing_view c.in_ok-delivery.delivery in
    let d = incoming_view c.in_ok-carried.carried in
    let at : Some m ≡ consumer_at c.args.number past = c.in_ok-link.ensures ∙ are.1.1.1.1.1.0 c.args.number in
    let found = found-consumer rules past judged c.args.number m (sym at) in
    let going : in_progress m past ≡ Some j = sym (c.in_ok-delivery.ensures rules past are found.0) in
    let carried : to_carry rules j.note past ≡ Some d = c.in_ok-carried.ensures.given rules past are.1.1.1.1.0.0 in
    let payload : c.payload-payload.result.now ≡ incoming.payload d past = c.payload-payload.ensures rules past are.1.1.1.1.0.0 (c.in_ok-carried.ensures.known rules past are.1.1.1.1.0.0) in
    let short : length (incoming.payload d past) < 2 ^ 64 = omega (arith, ap length payload, c.rest_of.ensures.counted) in
    let window : nat_lt 0 (session_window m.session past) ≡ true =
    lt-ltb 0 (session_window m.session past) (omega (arith, c.session_window.ensures rules past are found.0.0, c.if-session_window-eq0.false)) in
    let count = c.sent_count.ensures ∙ sent-so-far rules past judged are.1.1.1.1.1.1.1.0 m j going c.args.tables.now.sent.now are.1.1.1.1.1.1.1.1.0 d carried short in
    record {
      delivery = j;
      carried = d;
      live = found.0;
      still = ap (λ b. b && is_some (in_progress m past) && nat_lt 0 (session_window m.session past)) found.1
          ∙ (ap (λ o. is_some o && nat_lt 0 (session_window m.session past)) going ∙ window);
      going = going;
      note = refl;
      named = carried-noted rules past judged are.1.1.1.1.1.1.1.0 m j going d carried;
      rest = c.rest_of.ensures.rest ∙ (ap (λ n. drop n c.payload-payload.result.now) count ∙ ap (drop (length (outgoing.payload j past))) payload);
    }
