use Rattle.std.proofs.Common.{◌≡◌, ap, sym, ◌∙◌, ℕ, None, Some, IfSome, refl, subst, if◌then◌else◌, ◌==◌, ◌<◌, ◌^◌, rules}
use Rattle.trace_events.specs.Event.{Outgoing}
use Rattle.trace_events.specs.View.{event_view, outgoing_view}
use Rattle.state_outgoing.specs.SentGrouped.{IsPut}
use Rattle.state_outgoing.specs.Sent.{sent_begun}
use Rattle.state_outgoing.specs.SentViews.{sent_view}
use Rattle.state_outgoing.specs.SentTables.{sent_in}
use Rattle.state_outgoing.proofs.SentRegrouped.{put-grouped}
use Rattle.state_outgoing.proofs.SentTaken.{begun-own}
use Rattle.state_outgoing.proofs.deliveries.SentDeliveries.begin.Goals as goal

pub returns-clause-grouped : goal.returns-clause-grouped
returns-clause-grouped c = λ grouped none.
    let x = sent_view c.in-Some.own in
    let begun : sent_begun (event_view c.args.event.now) ≡ Some x = search rules in
    let number : x.delivery.number ≡ c.args.event.now.number = begun-own (event_view c.args.event.now) x begun in
    let moved : (n : ℕ) → sent_in (record { alloc = c.args.self.now.alloc; entries = c.insert.new.self; groups = c.put.new.self; begun = c.args.self.now.begun; let_go = c.args.self.now.let_go }) n ≡ (if c.args.event.now.number == n then Some x else sent_in c.args.self.now n) = search rules in
    let put : IsPut x.delivery x.is_unsettled c.args.self.now.groups c.put.new.self =
    subst (λ (j : Outgoing). IsPut j x.is_unsettled c.args.self.now.groups c.put.new.self) c.delivery.ensures
    (subst (λ b. IsPut (outgoing_view c.delivery.result) b c.args.self.now.groups c.put.new.self) c.is_unsettled.ensures.stored c.in_ok-put.ensures.put) in
    let counted = subst (λ (j : Outgoing). IfSome j.id (λ id. id < 2 ^ 32)) c.delivery.ensures c.in_ok-put.ensures.counted in
    put-grouped x.delivery c.args.self.now.groups c.put.new.self (sent_in c.args.self.now) _ None x tt refl (ap (sent_in c.args.self.now) number ∙ none)
    (λ n. moved n ∙ ap (λ (m : ℕ). if m == n then Some x else sent_in c.args.self.now n) (sym number)) grouped put counted
