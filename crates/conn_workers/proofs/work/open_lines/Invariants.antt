use Rattle.std.proofs.Common.{◌≡◌, ◌+◌, vec_len, All}
use Rattle.std.specs.VecDeque.{deque_len}
use Rattle.std.specs.Vec.Iter.{into_iter_len}
use Rattle.conn_engine.specs.declared.serving.Status.TheVariants.{Open}
use Rattle.conn_workers.proofs.work.open_lines.Given as goal

abbrev pub invariant-loop-start : goal.invariant-loop-start
invariant-loop-start g l = record {
  are_open : All (λ s. s ≡ Open) l.lines.items;
  len : deque_len l.lines + into_iter_len l.start-iterator ≡ vec_len l.fn.starts;
}
