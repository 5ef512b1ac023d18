use Rattle.std.proofs.Common.{◌≡◌, refl, sym, ap, ◌∙◌, Option, Some, None, true, false}
use Rattle.trace_events.specs.Event.{Link}
use Rattle.trace_events.specs.Due.{has_unsent}
use Rattle.trace_events.specs.TransferClause.{may_take}
use Rattle.trace_events.specs.View.{incoming_view, link_view}
use Rattle.state_incoming.proofs.GroupAnswers.{judged-of}
use Rattle.state_tables.specs.ConsumerLinks.{consumer_at}
use Rattle.due_lists.proofs.LiveOnes.{link-found}
use Rattle.due_lists.proofs.PartsDue.{found-consumer}
use Rattle.due_lists.proofs.CopiesDue.{ready-found, ready-same}
use Rattle.due_lists.proofs.copies.UnsentCopies.copy_due.Goals as goal

pub returns-in_err-link-clause-found : goal.returns-in_err-link-clause-found
returns-in_err-link-clause-found c = λ past are has l own ready.
    let rules = c.args.rules.now in
    let never : ◌≡◌ {A = Option Link} None (Some l) = c.in_err-link.ensures ∙ (are.1.1.1.1.1.0 c.args.number ∙ ready-found rules past (judged-of rules past are.0) c.args.number l own ready) in
    absurd cc

pub returns-then-not-may_take-clause-found : goal.returns-then-not-may_take-clause-found
returns-then-not-may_take-clause-found c = λ past are has l own ready.
    let rules = c.args.rules.now in
    let judged = judged-of rules past are.0 in
    let m = link_view c.in_ok-link.link in
    let at : Some m ≡ consumer_at c.args.number past = c.in_ok-link.ensures ∙ are.1.1.1.1.1.0 c.args.number in
    let live = (found-consumer rules past judged c.args.number m (sym at)).0 in
    sym c.if-not-may_take.true ∙ (c.may_take.ensures rules past are live ∙ (ap (may_take past) (ready-same rules past judged c.args.number l own ready m at) ∙ ready.takes))

pub returns-in_err-delivery-clause-found : goal.returns-in_err-delivery-clause-found
returns-in_err-delivery-clause-found c = λ past are has l own ready.
    let rules = c.args.rules.now in
    let judged = judged-of rules past are.0 in
    let m = link_view c.in_ok-link.link in
    let at : Some m ≡ consumer_at c.args.number past = c.in_ok-link.ensures ∙ are.1.1.1.1.1.0 c.args.number in
    let live = (found-consumer rules past judged c.args.number m (sym at)).0 in
    let some : has_unsent rules m past ≡ true = ap (λ (k : Link). has_unsent rules k past) (ready-same rules past judged c.args.number l own ready m at) ∙ ready.some in
    let never : false ≡ true = sym (c.in_err-delivery.ensures.none past are has live refl) ∙ some in
    absurd cc

pub returns-in_err-delivery-clause-kept : goal.returns-in_err-delivery-clause-kept
returns-in_err-delivery-clause-kept c = λ past are has.
    let rules = c.args.rules.now in
    let m = link_view c.in_ok-link.link in
    let at : Some m ≡ consumer_at c.args.number past = c.in_ok-link.ensures ∙ are.1.1.1.1.1.0 c.args.number in
    c.in_err-delivery.ensures.kept past are has (found-consumer rules past (judged-of rules past are.0) c.args.number m (sym at)).0

pub returns-clause-kept : goal.returns-clause-kept
returns-clause-kept c = λ past are has.
    let rules = c.args.rules.now in
    let m = link_view c.in_ok-link.link in
    let at : Some m ≡ consumer_at c.args.number past = c.in_ok-link.ensures ∙ are.1.1.1.1.1.0 c.args.number in
    c.in_ok-delivery.ensures.kept past are has (found-consumer rules past (judged-of rules past are.0) c.args.number m (sym at)).0

pub returns-clause-due : goal.returns-clause-due
returns-clause-due c = λ past are has.
    let rules = c.args.rules.now in
    let judged = judged-of rules past are.0 in
    let m = link_view c.in_ok-link.link in
    let f = incoming_view c.in_ok-delivery.delivery in
    let at : Some m ≡ consumer_at c.args.number past = c.in_ok-link.ensures ∙ are.1.1.1.1.1.0 c.args.number in
    let found = found-consumer rules past judged c.args.number m (sym at) in
    let copy = c.in_ok-delivery.ensures.copy past are found.0 in
    record {
      live = found.0;
      at = link-found rules past judged m found.0;
      consumer = found.1;
      found = copy.found;
      takes = sym (c.may_take.ensures rules past are found.0) ∙ c.if-not-may_take.false;
      unsent = copy.unsent;
      earliest = c.in_ok-delivery.ensures.first past are has found.0;
      payload = c.payload-payload.ensures rules past are.1.1.1.1.0.0 copy.known;
    }
