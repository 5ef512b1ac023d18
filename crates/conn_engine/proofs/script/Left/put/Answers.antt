use Rattle.conn_engine.proofs.Putting.{left_frame, put_frame}
use Rattle.conn_engine.proofs.script.Left.put.Goals as goal

pub loop-self-preserved : goal.loop-self-preserved
loop-self-preserved c = rw (c.octets-self-inside.ensures.value, c.in_ok-extend_from_slice.ensures.items) (record {
  put = put_frame _ _ _ _ _ _ c.loop-self-test.true c.in-len1-up.len_at_least c.frame-item.is c.loop-self.invariant.put;
  left = left_frame _ _ _ _ _ c.loop-self-test.true c.in-len1-up.len_at_least c.frame-item.is c.loop-self.invariant.left;
})
