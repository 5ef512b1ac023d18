use Rattle.std.proofs.Common.{◌≡◌, ap, sym, ◌∙◌, ℕ, Some, IfSome, refl, subst, if◌then◌else◌, ◌==◌, ◌<◌, ◌^◌, rules}
use Rattle.trace_events.specs.Event.{Outgoing}
use Rattle.trace_events.specs.View.{outgoing_view}
use Rattle.state_outgoing.specs.SentGrouped.{IsPut}
use Rattle.state_outgoing.specs.Sent.{Sent}
use Rattle.state_outgoing.specs.SentViews.{sent_view}
use Rattle.state_outgoing.specs.SentTables.{sent_in}
use Rattle.state_outgoing.proofs.SentRegrouped.{put-grouped}
use Rattle.state_outgoing.proofs.deliveries.SentDeliveries.touch.Goals as goal

pub returns-clause-grouped : goal.returns-clause-grouped
returns-clause-grouped c = λ grouped.
    let x = sent_view c.in-Some.own.now in
    let y = sent_view c.take.new.self in
    let at : sent_in c.args.self.now c.args.number ≡ Some x = search rules in
    let number : x.delivery.number ≡ c.args.number = subst (λ (o : _). IfSome o (λ (z : Sent). z.delivery.number ≡ c.args.number)) at (grouped.numbered c.args.number) in
    let same : y.delivery ≡ x.delivery = ap (λ (z : Sent). z.delivery) c.in_ok-take.ensures.next in
    let own : y.delivery.number ≡ c.args.number = ap (λ (j : Outgoing). j.number) same ∙ number in
    let moved : (n : ℕ) → sent_in (record { alloc = c.args.self.now.alloc; entries = c.get_mut.follows.lender c.take.new.self; groups = c.put.new.self; begun = c.args.self.now.begun; let_go = c.args.self.now.let_go }) n ≡ (if c.args.number == n then Some y else sent_in c.args.self.now n) = search rules in
    let put : IsPut y.delivery y.is_unsettled c.args.self.now.groups c.put.new.self =
    subst (λ (j : Outgoing). IsPut j y.is_unsettled c.args.self.now.groups c.put.new.self) c.delivery.ensures
    (subst (λ b. IsPut (outgoing_view c.delivery.result) b c.args.self.now.groups c.put.new.self) c.is_unsettled.ensures.stored c.in_ok-put.ensures.put) in
    let counted = subst (λ (j : Outgoing). IfSome j.id (λ id. id < 2 ^ 32)) c.delivery.ensures c.in_ok-put.ensures.counted in
    put-grouped y.delivery c.args.self.now.groups c.put.new.self (sent_in c.args.self.now) _ (Some x) y (sym same) refl (ap (sent_in c.args.self.now) own ∙ at)
    (λ n. moved n ∙ ap (λ (m : ℕ). if m == n then Some y else sent_in c.args.self.now n) (sym own)) grouped put counted
