use Rattle.std.proofs.Common.{rules, ◌≡◌, ◌+◌, ◌<◌, ◌≤◌, ◌^◌, ℕ, [], Some, nat_eq, refl, ap, ◌∙◌, if◌then◌else◌, ◌==◌}
use Rattle.indexmap.specs.IndexMap.{get}
use Rattle.daemon_server.specs.declared.table.Table.{Table}
use Rattle.daemon_server.proofs.Tables.{has-line, serves-admitted}
use Rattle.daemon_server.proofs.table.Table.admit.Goals as goal

pub returns : goal.returns
returns g c =
    let table = c.args.self.now in
    let line = c.new-line.result in
    let lines = c.insert.new.self in
    let here : c.in-Ok.number ≡ table.next = search rules in
    let less : c.in-Ok.number < 2 ^ 32 = search rules in
    let put : (n : ℕ) → get nat_eq lines n ≡ (if c.in-Ok.number == n then Some line else get nat_eq table.lines n) = search rules in
    let moved : (n : ℕ) → get nat_eq lines n ≡ (if table.next == n then Some line else get nat_eq table.lines n) = λ n. put n ∙ ap (λ (m : ℕ). if m == n then Some line else get nat_eq table.lines n) here in
    let later : Table g.row.G.Denot = record { alloc = table.alloc; lines = lines; signed = table.signed; waiting = table.waiting; next = table.next + 1; over = table.over } in
    record {
      serves = λ records waiting s.
          c.in_ok-sign.ensures.serves records [] waiting
          (serves-admitted g.G.Gate.delivered g.G.Gate.took g.G.Gate.has_ended records waiting table later line s moved refl refl (c.new-line.ensures.number ∙ here) c.new-line.ensures.line c.new-line.ensures.empty);
      came =
          has-line g.G.Gate.delivered g.G.Gate.took g.G.Gate.has_ended c.args.gate table later c.sign.new.self c.in-Ok.number line here less put refl refl c.new-line.ensures.gate c.new-line.ensures.unsigned
          c.in_ok-sign.ensures.signed;
    }
