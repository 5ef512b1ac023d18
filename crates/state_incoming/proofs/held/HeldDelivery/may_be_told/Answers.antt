use Rattle.std.proofs.Common.{◌∙◌}
use Rattle.state_incoming.specs.HeldViews.{held_view}
use Rattle.state_incoming.proofs.HeldKnown.{known_may_tell}
use Rattle.state_incoming.proofs.held.HeldDelivery.may_be_told.Goals as goal

pub returns-clause-known : goal.returns-clause-known
returns-clause-known c = λ rules past entry. c.may_tell.ensures ∙ known_may_tell rules past (held_view c.args.self.now) entry
