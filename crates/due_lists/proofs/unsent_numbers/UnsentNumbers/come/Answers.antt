use Rattle.std.proofs.Common.{◌≡◌, sym, subst, inl, inr, ℕ, Some}
use Rattle.trace_events.specs.View.{event_view, incoming_view}
use Rattle.state_tables.specs.ConsumerLinks.{link_in}
use Rattle.due_lists.proofs.Listed.{in-later, kept_but-later, receives-more, with-later}
use Rattle.due_lists.proofs.unsent_numbers.UnsentNumbers.come.Goals as goal

pub loop-receiver-preserved : goal.loop-receiver-preserved
loop-receiver-preserved c =
    let completion = (event_view c.args.event.now).number in
    let n = (incoming_view c.in-Some.delivery).number in
    let old = c.args.self.now in
    let now = c.loop-receiver.self in
    let new = c.offer.new.self in
    let offered = c.in_ok-offer.ensures in (
      λ rules records copies m receives at live found unsent. elim (receives-more c.args.receivers.now c.loop-receiver.receiver-index _ m.number c.loop-receiver-test.true receives) [
        | inl before ↦
            in-later m.session.number m.number completion n now new offered.kept offered.stays
            (c.loop-receiver.invariant.0 rules records copies m before at live found unsent)
        | inr here ↦ offered.came rules records copies m (subst (λ (k : ℕ). link_in c.args.links.now k ≡ Some m) (sym here) at) live found unsent
      ],
      with-later completion n old now new c.loop-receiver.invariant.1 offered.only,
      kept_but-later completion old now new c.loop-receiver.invariant.2 offered.kept,
    )
