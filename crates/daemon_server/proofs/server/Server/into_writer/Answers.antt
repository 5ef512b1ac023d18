use Rattle.std.proofs.Common.{◌≡◌, false, subst}
use Rattle.daemon_server.specs.Servers.{IsServing, Serving}
use Rattle.daemon_server.proofs.server.Server.into_writer.Goals as goal

pub returns-clause-serving : goal.returns-clause-serving
returns-clause-serving g c =
    subst (λ (s : Serving g.row.G.Denot). s.has_stopped ≡ false → IsServing g.G.Gate.delivered g.G.Gate.took g.G.Gate.has_ended s.core s.table) c.self.view_is c.self.invariant
