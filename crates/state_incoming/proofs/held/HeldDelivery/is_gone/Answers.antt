use Rattle.std.proofs.Common.{◌∙◌}
use Rattle.state_incoming.specs.HeldViews.{held_view}
use Rattle.state_incoming.proofs.HeldKnown.{known_gone}
use Rattle.state_incoming.proofs.held.HeldDelivery.is_gone.Goals as goal

pub returns-clause-known : goal.returns-clause-known
returns-clause-known c = λ rules past entry. c.is_gone.ensures ∙ known_gone rules past (held_view c.args.self.now) entry
