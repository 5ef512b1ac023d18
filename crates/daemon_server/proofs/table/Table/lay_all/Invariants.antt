use Rattle.std.proofs.Common.{List, ℕ}
use Rattle.std.specs.Vec.Iter.{into_iter_items}
use Rattle.capture_form.specs.declared.records.Record.{Record}
use Rattle.daemon_server.specs.Lines.{Serves}
use Rattle.daemon_server.proofs.table.Table.lay_all.Given as goal

abbrev pub invariant-loop-entry : goal.invariant-loop-entry
invariant-loop-entry g l = (records : List Record) (waiting : List ℕ) → Serves g.G.Gate.delivered g.G.Gate.took g.G.Gate.has_ended records l.fn.given.items waiting l.fn.self
    → Serves g.G.Gate.delivered g.G.Gate.took g.G.Gate.has_ended records (into_iter_items l.entry-iterator) waiting l.self
