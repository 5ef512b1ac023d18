use Rattle.std.proofs.Common.{List, [], sym, subst}
use Rattle.capture_form.specs.declared.records.Record.{Record}
use Rattle.daemon_server.specs.Lines.{Serves}
use Rattle.daemon_server.proofs.server.Server.new.Goals as goal

pub invariant_of-result : goal.invariant_of-result
invariant_of-result g c = λ works. record {
  passed = c.in_ok-core.ensures.passed;
  serves =
      subst (λ (records : List Record). Serves g.G.Gate.delivered g.G.Gate.took g.G.Gate.has_ended records [] [] c.new.result) (sym c.in_ok-core.ensures.records) c.new.ensures;
}
