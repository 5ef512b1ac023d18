use Rattle.std.proofs.Common.{ap, ◌∙◌}
use Rattle.conn_engine.specs.Serving.{Connection}
use Rattle.conn_engine.specs.Served.{status_after}
use Rattle.daemon_server.proofs.Turns.{left_at_desk, open_at_desk}
use Rattle.daemon_server.proofs.desk_turn.serve_at_desk.Goals as goal

pub returns-in-Ok-clause-served : goal.returns-in-Ok-clause-served
returns-in-Ok-clause-served g c =
    let delivered = g.G.Gate.delivered in
    let took = g.G.Gate.took in
    let items = g.J.Before.items in
    let frames = g.J.Before.frames in
    let due = g.J.Before.due in
    left_at_desk delivered took g.G.Gate.has_ended items frames due c.args.connection (status_after c.in-Ok.turn) c.serve.new.gate c.serve.new.engine c.pause-engine.result.0
    c.pause-engine.result.1 c.into_parts-inbox.result.0.items c.into_parts-inbox.result.1.items
    (c.in-Ok.ensures.number ∙ (ap (λ (e : Connection). e.number) c.resume-engine.ensures ∙ c.requires.number))
    (c.in-Ok.ensures.holds (open_at_desk delivered took items frames due c.args.connection c.args.gate.now c.args.engine c.new-desk.result c.resume-engine.result c.new-desk.ensures c.resume-engine.ensures c.requires.open))
    c.pause-engine.ensures.engine c.pause-engine.ensures.connection c.pause-engine.ensures.items c.pause-engine.ensures.frames
    c.into_parts-inbox.ensures.inbox c.into_parts-inbox.ensures.outbox c.into_parts-inbox.ensures.items c.into_parts-inbox.ensures.frames c.into_parts-inbox.ensures.entries
