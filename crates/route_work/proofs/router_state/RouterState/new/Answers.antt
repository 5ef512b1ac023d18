use Rattle.route_work.proofs.router_state.RouterState.new.Goals as goal

pub returns : goal.returns
returns g c = λ rules. record { tables = c.new-tables.ensures.stand rules; counted = c.new-tables.ensures.counted; listed = c.new-dues.ensures rules }
