use Rattle.trace_events.specs.View.{event_view}
use Rattle.state_tables.proofs.EntrySteps.{taken-same}
use Rattle.state_tables.proofs.connections.Connections.put.Goals as goal

pub returns-clause-taken : goal.returns-clause-taken
returns-clause-taken c = taken-same (event_view c.args.event.now) c.args.self.now c.put_in_entry.new.self c.retire.new.self c.in_ok-put_in_entry.ensures.taken c.retire.ensures
