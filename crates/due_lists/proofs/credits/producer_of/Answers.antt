use Rattle.std.proofs.Common.{◌≡◌, sym, ap, ◌∙◌, true, Option, Some, None}
use Rattle.trace_events.specs.Event.{Incoming}
use Rattle.trace_events.specs.Incoming.{incoming_at}
use Rattle.trace_events.specs.View.{incoming_view}
use Rattle.state_incoming.specs.EntryAnswers.{has_entry}
use Rattle.state_incoming.proofs.KnownEntries.{knows-at}
use Rattle.due_lists.proofs.CreditsTouched.{knows-number}
use Rattle.due_lists.proofs.credits.producer_of.Goals as goal

pub returns-in_err-incoming_at : goal.returns-in_err-incoming_at
returns-in_err-incoming_at c = λ rules past are d is knows.
    let table = c.args.before.now.deliveries.now in
    let n = c.in_ok-number.field-0 in
    let same : d.number ≡ n = let some : Some d.number ≡ Some n = sym is ∙ c.in_ok-number.was in cc in
    let has : has_entry table n ≡ true = ap (has_entry table) (sym same) ∙ knows-number table d knows in
    let at : incoming_at n past ≡ Some d = ap (λ m. incoming_at m past) (sym same) ∙ knows-at rules past table are.1.1.1.1.0.0 d knows in
    let never : ◌≡◌ {A = Option Incoming} None (Some d) = c.in_err-incoming_at.ensures.value rules past are.1.1.1.1.0.0 has ∙ at in
    absurd cc

pub returns : goal.returns
returns c = λ rules past are d is knows.
    let table = c.args.before.now.deliveries.now in
    let n = c.in_ok-number.field-0 in
    let x = incoming_view c.in_ok-incoming_at.field-0 in
    let same : d.number ≡ n = let some : Some d.number ≡ Some n = sym is ∙ c.in_ok-number.was in cc in
    let has : has_entry table n ≡ true = ap (has_entry table) (sym same) ∙ knows-number table d knows in
    let at : incoming_at n past ≡ Some d = ap (λ m. incoming_at m past) (sym same) ∙ knows-at rules past table are.1.1.1.1.0.0 d knows in
    let both : Some x ≡ Some d = c.in_ok-incoming_at.ensures.value rules past are.1.1.1.1.0.0 has ∙ at in
    let one : x ≡ d = cc in
    ap (λ (y : Incoming). Some y.link.number) one
