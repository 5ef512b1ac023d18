use Rattle.std.proofs.Common.{◌∙◌}
use Rattle.state_incoming.specs.HeldViews.{held_view}
use Rattle.state_incoming.proofs.HeldKnown.{known_before}
use Rattle.state_incoming.proofs.held.HeldDelivery.is_completed_before.Goals as goal

pub returns-clause-known : goal.returns-clause-known
returns-clause-known c = λ rules past first second. c.comes_before.ensures ∙ known_before rules past (held_view c.args.self.now) (held_view c.args.other.now) first second
