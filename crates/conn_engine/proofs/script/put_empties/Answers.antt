use Rattle.conn_engine.proofs.Laced.{none_put, one_put}
use Rattle.conn_engine.proofs.script.put_empties.Goals as goal

pub loop-init : goal.loop-init
loop-init c = none_put c.args.out.now.items

pub loop-preserved : goal.loop-preserved
loop-preserved c =
    one_put c.args.out.now.items c.loop.out.items c.extend_from_slice.new.self.items c.loop.counter c.loop.invariant c.in_ok-extend_from_slice.ensures.items
