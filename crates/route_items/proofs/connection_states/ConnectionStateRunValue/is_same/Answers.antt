use Rattle.std.proofs.Common.{sym, ◌∙◌}
use Rattle.route_items.proofs.Entries.{alike-same, same}
use Rattle.route_items.proofs.connection_states.ConnectionStateRunValue.is_same.Goals as goal

pub returns : goal.returns
returns c = (λ is. same c.args.self c.args.other (sym c.eq.ensures ∙ is), λ is. c.eq.ensures ∙ alike-same c.args.self c.args.other is)
