use Rattle.std.proofs.Common.{ap, not, ◌∙◌}
use Rattle.state_incoming.specs.HeldViews.{held_view}
use Rattle.state_incoming.proofs.HeldKnown.{known_complete}
use Rattle.state_incoming.proofs.held.HeldDelivery.is_complete.Goals as goal

pub returns-clause-known : goal.returns-clause-known
returns-clause-known c = λ rules past entry. ap not c.is_arriving.ensures ∙ known_complete rules past (held_view c.args.self.now) entry
