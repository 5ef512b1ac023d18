use Rattle.std.proofs.Common.{refl, ◌∙◌}
use Rattle.trace_events.specs.View.{event_view}
use Rattle.state_tables.proofs.EntrySteps.{first-moved}
use Rattle.state_tables.proofs.connections.Connections.put_first.Goals as goal

pub returns-clause-taken : goal.returns-clause-taken
returns-clause-taken c =
    let old = c.args.self.now in
    let new = record old { entries = c.insert.new.self } in
    first-moved (event_view c.args.event.now) old new c.of-connection.result c.take.new.self c.in_ok-take.ensures.taken c.in_ok-insert.ensures.updates.0 refl c.requires.new
    record { seen-is = c.of-connection.ensures.seen-is ∙ c.seen_over.ensures; sessions = c.of-connection.ensures.sessions; unanswered = c.of-connection.ensures.unanswered }
