use Rattle.std.proofs.Common.{ap, sym, ◌∙◌}
use Rattle.daemon_server.specs.Desks.{Laid}
use Rattle.daemon_server.proofs.Entries.{none-more, one-more}
use Rattle.daemon_server.proofs.desk.DeskPort.submit.Goals as goal
use Rattle.daemon_server.proofs.desk.DeskPort.submit.Goals.{in-Ok, in-Err}

pub invariant_of-self : goal.invariant_of-self
invariant_of-self g c =
    elim c.match-put.branch [
      | in-Ok w ↦
          one-more g.J.Before.due c.self.inside.connection c.self.inside.inbox.items c.put.new.inbox.items c.self.inside.outbox.items c.self.inside.given.items c.args.item c.self.invariant
          w.in-Ok.ensures.put (c.requires.own ∙ ap (λ (d : Laid). d.connection) (sym c.self.view_is)) w.in-Ok.ensures.bounds
      | in-Err w ↦
          none-more g.J.Before.due c.self.inside.connection c.self.inside.inbox.items c.put.new.inbox.items c.self.inside.outbox.items c.self.inside.given.items c.self.invariant w.in-Err.ensures.unchanged
    ]
