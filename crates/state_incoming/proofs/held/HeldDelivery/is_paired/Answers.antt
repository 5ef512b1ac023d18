use Rattle.std.proofs.Common.{◌∙◌}
use Rattle.state_incoming.specs.HeldViews.{held_view}
use Rattle.state_incoming.proofs.HeldKnown.{known_paired}
use Rattle.state_incoming.proofs.held.HeldDelivery.is_paired.Goals as goal

pub returns-clause-known : goal.returns-clause-known
returns-clause-known c = λ rules records entry lawful anycast. c.is_paired.ensures ∙ known_paired rules records (held_view c.args.self.now) entry lawful anycast
