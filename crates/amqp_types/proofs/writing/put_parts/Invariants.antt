use Rattle.std.proofs.Common.{vec_capacity}
use Rattle.amqp_types.proofs.Written.{PutSoFar}
use Rattle.amqp_types.proofs.writing.put_parts.Given as goal

abbrev pub invariant-loop-part : goal.invariant-loop-part
invariant-loop-part l = PutSoFar l.fn.out.items (vec_capacity l.fn.out) l.parts l.part-index l.out.items (vec_capacity l.out) l.len
