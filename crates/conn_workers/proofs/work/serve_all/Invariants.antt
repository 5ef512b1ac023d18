use Rattle.std.proofs.Common.{◌≡◌, ◌+◌, vec_len, All}
use Rattle.std.specs.VecDeque.{deque_len}
use Rattle.conn_engine.specs.declared.serving.Status.TheVariants.{Open}
use Rattle.conn_workers.proofs.work.serve_all.Given as goal

abbrev pub invariant-loop : goal.invariant-loop
invariant-loop g l = record {
  are_open : All (λ s. s ≡ Open) l.lines.items;
  len : deque_len l.lines + vec_len l.done ≡ vec_len l.fn.starts;
}
