use Rattle.std.proofs.Common.{ap, sym, ◌∙◌, ◌++◌}
use Rattle.trace_events.specs.View.{event_view}
use Rattle.state_tables.specs.EndedLinks.{links_on, views}
use Rattle.state_tables.proofs.EndedTables.{all-ended}
use Rattle.state_tables.proofs.handles.Handles.ended.Goals as goal

pub returns-then-ends_channel : goal.returns-then-ends_channel
returns-then-ends_channel c =
    all-ended (event_view c.args.event.now) c.args.self.now (views c.put_links.new.links.items) c.in_ok-put_links.ensures.distinct (sym c.if-ends_channel.ensures)
    (c.in_ok-put_links.ensures.appended ∙ ap (λ xs. views xs ++ links_on c.args.self.now) c.new-links.ensures.items)
