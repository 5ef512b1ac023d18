use Rattle.std.proofs.Common.{Bool, Some, None, if◌then◌else◌, ap, ◌∙◌}
use Rattle.state_incoming.specs.HeldViews.{held_view}
use Rattle.state_incoming.proofs.HeldKnown.{known_to_carry}
use Rattle.state_incoming.proofs.held.HeldDelivery.may_go.Goals as goal

pub returns-clause-known : goal.returns-clause-known
returns-clause-known c = λ rules past entry.
    let x = held_view c.args.self.now in
    ap (λ (b : Bool). if b then Some x.delivery else None) c.goes.ensures ∙ known_to_carry rules past x entry
