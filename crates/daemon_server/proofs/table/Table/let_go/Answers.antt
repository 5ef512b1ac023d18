use Rattle.std.proofs.Common.{rules, ◌≡◌, ℕ, [], Some, None, nat_eq, refl, if◌then◌else◌, ◌==◌}
use Rattle.indexmap.specs.IndexMap.{get}
use Rattle.conn_engine.specs.declared.serving.Status.TheVariants.{Ended}
use Rattle.daemon_server.proofs.Tables.{has-left, serves-left}
use Rattle.daemon_server.proofs.table.Table.let_go.Goals as goal

pub returns : goal.returns
returns g c = record {
  serves = λ records given waiting s.
      let table = c.args.self.now in
      let line = c.in-Some.line.now in
      let was : get nat_eq table.lines c.args.number ≡ Some line = search rules in
      let moved : (n : ℕ) → get nat_eq c.swap_remove.new.self n ≡ (if c.args.number == n then None else get nat_eq table.lines n) = search rules in
      let over : (line.status ≡ Ended) × (line.inbox.items ≡ []) = search rules in
      serves-left g.G.Gate.delivered g.G.Gate.took g.G.Gate.has_ended records given waiting table
      (record { alloc = table.alloc; lines = c.swap_remove.new.self; signed = table.signed; waiting = c.saturating_sub-self.result; next = table.next; over = c.and-self.result }) c.args.number line s was moved c.and-self.ensures refl over.0 over.1;
  gone =
      let table = c.args.self.now in
      let moved : (n : ℕ) → get nat_eq c.swap_remove.new.self n ≡ (if c.args.number == n then None else get nat_eq table.lines n) = search rules in
      has-left g.G.Gate.delivered g.G.Gate.took g.G.Gate.has_ended table (record { alloc = table.alloc; lines = c.swap_remove.new.self; signed = table.signed; waiting = c.saturating_sub-self.result; next = table.next; over = c.and-self.result }) c.args.number moved;
}
