use Rattle.std.proofs.Common.{◌∙◌}
use Rattle.state_incoming.specs.HeldViews.{held_view}
use Rattle.state_incoming.proofs.HeldKnown.{known_waiting}
use Rattle.state_incoming.proofs.held.HeldDelivery.is_waiting.Goals as goal

pub returns-clause-known : goal.returns-clause-known
returns-clause-known c = λ rules past entry. c.is_waiting.ensures ∙ known_waiting rules past (held_view c.args.self.now) entry
