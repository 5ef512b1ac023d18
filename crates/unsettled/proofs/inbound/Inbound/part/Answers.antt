use Rattle.std.proofs.Common.{refl, sym, rules}
use Rattle.std.proofs.lemmas.Result.{on_ok_weaker}
use Rattle.unsettled.proofs.Joins.{goes_on}
use Rattle.unsettled.proofs.inbound.Inbound.part.Goals as goal

pub returns-in-Some-default-clause-counted : goal.returns-in-Some-default-clause-counted
returns-in-Some-default-clause-counted c = on_ok_weaker c.join.result
    (λ is. goes_on c.args.self.now (record c.args.self.now { deliveries = c.get_mut.follows.lender c.join.new.self }) c.args.link c.args.number c.args.id c.args.payload c.in-Some-default.delivery.now c.join.new.self
    ((c.get_mut.follows.holds c.join.new.self).3 (search rules)).0 (sym c.in-Some-default.ensures.value) (is c.args.number) (λ q. refl)) c.join.ensures.joined
