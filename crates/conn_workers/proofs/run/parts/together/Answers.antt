use Rattle.std.proofs.Common.{rules, ◌≡◌, length, vec_len, subst}
use mathlib.Core.List.{reverse}
use Rattle.core_exchange.specs.Seats.{SeatAgrees}
use Rattle.conn_workers.proofs.Gathered.{agree_pop, more_reported, reverse_push}
use Rattle.conn_workers.proofs.run.parts.together.Goals as goal

pub reported-requires-clause-agrees : goal.reported-requires-clause-agrees
reported-requires-clause-agrees g c =
    let is : length c.pop.new.self.items ≡ c.len.result = search rules in
    subst (λ k. SeatAgrees c.args.capture.now.records k c.in-Some.seat) is (agree_pop _ _ _ _ c.in-Some.ensures.items c.loop-seat.invariant.agree).1

pub loop-seat-preserved : goal.loop-seat-preserved
loop-seat-preserved g c = record {
  same = search rules;
  agree = (agree_pop _ _ _ _ c.in-Some.ensures.items c.loop-seat.invariant.agree).0;
  each = more_reported g.J.Origin.gates g.G.Gate.follows g.G.Gate.delivered g.G.Gate.took g.G.Gate.has_ended _ _ _ (vec_len c.loop-seat.seats) _ (reverse c.loop-seat.conns.items) _ c.len.ensures (search rules) (reverse_push _ _ _ c.in_ok-push.ensures.items) c.reported.ensures c.loop-seat.invariant.each;
  count = search rules;
}
