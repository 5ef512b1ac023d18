use Rattle.std.proofs.Common.{sym}
use Rattle.trace_events.specs.View.{event_view}
use Rattle.state_tables.proofs.HandleTables.{moved-on, unmoved-on}
use Rattle.state_tables.proofs.handles.Handles.take.Goals as goal

pub returns-in_default-clause-taken : goal.returns-in_default-clause-taken
returns-in_default-clause-taken c = unmoved-on (event_view c.args.event.now) c.args.self.now (sym c.in_default.ensures)

pub returns-clause-taken : goal.returns-clause-taken
returns-clause-taken c =
    moved-on (event_view c.args.event.now) c.in-Some.handle c.args.self.now c.put.new.self c.forget.new.self (sym c.in-Some.ensures) c.in_ok-put.ensures.taken c.forget.ensures
