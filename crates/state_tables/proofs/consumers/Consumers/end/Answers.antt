use Rattle.std.proofs.Common.{◌&&◌, ◌==◌, bytes_eq}
use Rattle.trace_events.specs.View.{link_view}
use Rattle.trace_events.specs.Event.{Link}
use Rattle.state_tables.specs.Consumers.{stands}
use Rattle.state_tables.proofs.Leaving.{one-leaves}
use Rattle.state_tables.proofs.consumers.Consumers.end.Goals as goal

pub loop-link-preserved : goal.loop-link-preserved
loop-link-preserved c = λ address n.
    one-leaves link_view (λ (l : Link). bytes_eq l.address address && (l.number == n)) c.args.ended.now c.loop-link.link-index _ (stands c.args.self.now address n) _ _
    c.loop-link-test.true (c.loop-link.invariant address n) (c.remove.ensures.left address n)
