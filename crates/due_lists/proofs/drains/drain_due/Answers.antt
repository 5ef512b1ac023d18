use Rattle.std.proofs.Common.{◌≡◌, sym, ◌∙◌, true, false, Option, Some, None}
use Rattle.trace_events.specs.Event.{Link}
use Rattle.trace_events.specs.View.{link_view}
use Rattle.state_incoming.proofs.GroupAnswers.{judged-of}
use Rattle.state_tables.specs.ConsumerLinks.{consumer_at}
use Rattle.due_lists.proofs.DrainsFollowed.{drainable-found, drainable-same}
use Rattle.due_lists.proofs.PartsDue.{found-consumer}
use Rattle.due_lists.proofs.drains.drain_due.Goals as goal

pub returns-in_err-link-clause-found : goal.returns-in_err-link-clause-found
returns-in_err-link-clause-found c = λ past are l own may.
    let rules = c.args.rules.now in
    let never : ◌≡◌ {A = Option Link} None (Some l) = (c.in_err-link.ensures ∙ are.1.1.1.1.1.0 c.args.number) ∙ drainable-found rules past (judged-of rules past are.0) c.args.number l own may in
    absurd cc

pub returns-then-may_be_drained-clause-due : goal.returns-then-may_be_drained-clause-due
returns-then-may_be_drained-clause-due c = λ past are.
    let rules = c.args.rules.now in
    let m = link_view c.in_ok-link.link in
    let at : Some m ≡ consumer_at c.args.number past = c.in_ok-link.ensures ∙ are.1.1.1.1.1.0 c.args.number in
    let found = found-consumer rules past (judged-of rules past are.0) c.args.number m (sym at) in
    record { live = found.0; consumer = found.1; may = sym (c.may_be_drained.ensures past are found.0) ∙ c.if-may_be_drained.true }

pub returns-else-may_be_drained-clause-found : goal.returns-else-may_be_drained-clause-found
returns-else-may_be_drained-clause-found c = λ past are l own may.
    let rules = c.args.rules.now in
    let m = link_view c.in_ok-link.link in
    let at : Some m ≡ consumer_at c.args.number past = c.in_ok-link.ensures ∙ are.1.1.1.1.1.0 c.args.number in
    let judged = judged-of rules past are.0 in
    let found = found-consumer rules past judged c.args.number m (sym at) in
    let never : false ≡ true = sym c.if-may_be_drained.false ∙ (c.may_be_drained.ensures past are found.0 ∙ drainable-same rules past judged c.args.number l own may m at) in
    absurd cc
