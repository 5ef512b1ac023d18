use Rattle.std.proofs.Common.{◌∙◌, false}
use Rattle.trace_events.specs.Link.{is_producer}
use Rattle.trace_events.specs.View.{link_view}
use Rattle.state_tables.proofs.GroupLists.{any-map, each-in}
use Rattle.due_outcomes.proofs.unsettled.has_producer.Goals as goal

pub returns : goal.returns
returns c =
    each-in (λ link. is_producer (link_view link)) c.args.links.now c.loop-link.link-index false c.loop-link.has c.loop-link-test.false c.loop-link.invariant
    ∙ any-map link_view is_producer c.args.links.now
