use Rattle.std.proofs.Common.{rules, ◌≡◌, ℕ, None, nat_eq}
use Rattle.indexmap.specs.IndexMap.{get}
use Rattle.daemon_server.specs.declared.table.Table.{Table}
use Rattle.daemon_server.proofs.Tables.{serves-none}
use Rattle.daemon_server.proofs.table.Table.new.Goals as goal

pub returns : goal.returns
returns g c =
    let table : Table g.row.G.Denot = record { alloc = c.args.alloc; lines = c.new.result; signed = c.new-2.result; waiting = 0; next = 0; over = c.new-3.result } in
    let none : (n : ℕ) → get nat_eq c.new.result n ≡ None = search rules in
    serves-none g.G.Gate.delivered g.G.Gate.took g.G.Gate.has_ended table none c.new-3.ensures
