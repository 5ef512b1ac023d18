use Rattle.std.proofs.Common.{◌∙◌, ◌&&◌, false}
use Rattle.trace_events.specs.Link.{is_consumer}
use Rattle.trace_events.specs.Waiting.{has_waiting}
use Rattle.trace_events.specs.View.{link_view}
use Rattle.state_tables.proofs.GroupLists.{any-map, each-in}
use Rattle.due_lists.proofs.credits.has_waited.Goals as goal

pub returns : goal.returns
returns c = λ rules past are.
    each-in (λ link. is_consumer (link_view link) && has_waiting rules (link_view link).address past) c.args.ended.now c.loop-link.link-index false c.loop-link.has c.loop-link-test.false
    (c.loop-link.invariant rules past are)
    ∙ any-map link_view (λ l. is_consumer l && has_waiting rules l.address past) c.args.ended.now
