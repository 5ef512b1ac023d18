use Rattle.std.proofs.Common.{◌≡◌, ◌+◌, vec_len}
use mathlib.Core.List.{reverse}
use Rattle.core_exchange.specs.Seats.{SeatsAgree}
use Rattle.conn_workers.specs.Reports.{AreReported}
use Rattle.conn_workers.proofs.run.parts.together.Given as goal

abbrev pub invariant-loop-seat : goal.invariant-loop-seat
invariant-loop-seat g l = record {
  same : l.parts.items ≡ l.seats.items;
  agree : SeatsAgree l.capture.records 0 l.seats.items;
  each : AreReported g.J.Origin.gates g.G.Gate.follows g.G.Gate.delivered g.G.Gate.took g.G.Gate.has_ended l.capture.records (vec_len l.seats) (reverse l.conns.items);
  count : vec_len l.seats + vec_len l.conns ≡ vec_len l.fn.seats;
}

abbrev pub decreases-loop-seat : goal.decreases-loop-seat
decreases-loop-seat g l = vec_len l.seats
