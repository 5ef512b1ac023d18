use Rattle.std.proofs.Common.{◌≡◌, sym, ap, ◌∙◌, arith}
use Rattle.trace_events.specs.Event.{Link}
use Rattle.trace_events.specs.Link.{IsLiveLink, is_producer}
use Rattle.trace_events.specs.Session.{IsLiveOn}
use Rattle.trace_events.proofs.Standing.{live-on}
use Rattle.trace_events.specs.FlowClause.{may_be_topped_up}
use Rattle.trace_events.proofs.LiveLinks.{live-link}
use Rattle.trace_events.specs.View.{link_view}
use Rattle.due_lists.proofs.CreditsPlaced.{placed-link}
use Rattle.due_lists.proofs.credits.credit_due.Goals as goal
use Rattle.due_lists.proofs.credits.credit_due.Goals.{else-link-number-via-then-link-number+then-is_producer+else-may_be_topped_up, else-link-number-via-then-link-number+else-is_producer, else-link-number-via-else-link-number}

pub returns-then-may_be_topped_up-clause-due : goal.returns-then-may_be_topped_up-clause-due
returns-then-may_be_topped_up-clause-due c = λ past are.
    let rules = c.args.rules.now in
    let p = c.in_ok-place.place in
    let s = c.in_ok-session.session in
    let m = link_view c.in_ok-link.link in
    let on : IsLiveOn s past = live-on p.connection p.channel past s (sym (c.in_ok-session.ensures rules past are)) in
    let live : IsLiveLink m past = live-link s p.handle past m on (sym (c.in_ok-link.ensures rules past are on)) in
    record {
      live = live;
      producer = sym c.is_producer.ensures ∙ c.if-is_producer.true;
      may = sym (c.may_be_topped_up.ensures past are live) ∙ c.if-may_be_topped_up.true;
    }

pub returns-else-link-number-clause-found : goal.returns-else-link-number-clause-found
returns-else-link-number-clause-found c = λ past are l own place may.
    let rules = c.args.rules.now in
    let p = c.in_ok-place.place in
    let s = c.in_ok-session.session in
    let m = link_view c.in_ok-link.link in
    let session = c.in_ok-session.ensures rules past are in
    let on : IsLiveOn s past = live-on p.connection p.channel past s (sym session) in
    let link = c.in_ok-link.ensures rules past are on in
    let one : m ≡ l = placed-link past p s m session link l (sym c.in_ok-place.was ∙ place) may.live in
    let live : IsLiveLink m past = live-link s p.handle past m on (sym link) in
    elim c.else-link-number.branch [
      | else-link-number-via-then-link-number+then-is_producer+else-may_be_topped_up w ↦
          sym w.if-may_be_topped_up.false ∙ (w.may_be_topped_up.ensures past are live ∙ (ap (may_be_topped_up rules past) one ∙ may.may))
      | else-link-number-via-then-link-number+else-is_producer w ↦
          sym w.if-is_producer.false ∙ (w.is_producer.ensures ∙ (ap is_producer one ∙ may.producer))
      | else-link-number-via-else-link-number w ↦ absurd (omega (arith, ap (λ (k : Link). k.number) one, own, w.if-link-number.false))
    ]
