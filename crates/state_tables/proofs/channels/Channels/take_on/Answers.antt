use Rattle.std.proofs.Common.{sym, ◌∙◌}
use Rattle.trace_events.specs.View.{event_view}
use Rattle.state_tables.proofs.HandleTables.{said-on, unsaid-on}
use Rattle.state_tables.proofs.channels.Channels.take_on.Goals as goal

pub returns-then-not-says_of_handle-clause-taken : goal.returns-then-not-says_of_handle-clause-taken
returns-then-not-says_of_handle-clause-taken c =
    unsaid-on c.args.channel (event_view c.args.event.now) c.args.self.now (sym c.if-ends_channel.ensures) (sym c.says_of_handle.ensures ∙ c.if-not-says_of_handle.true)

pub returns-clause-taken : goal.returns-clause-taken
returns-clause-taken c =
    said-on c.args.channel (event_view c.args.event.now) c.args.self.now c.put.new.self (sym c.if-ends_channel.ensures) (sym c.says_of_handle.ensures ∙ c.if-not-says_of_handle.false) c.in_ok-put.ensures.taken
