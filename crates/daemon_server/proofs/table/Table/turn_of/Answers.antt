use Rattle.std.proofs.Common.{rules, ◌≡◌, ◌++◌, ◌∷◌, [], ℕ, Some, None, nat_eq, refl, ap, if◌then◌else◌, ◌==◌}
use Rattle.indexmap.specs.IndexMap.{get}
use Rattle.daemon_server.specs.declared.table.Table.{Table}
use Rattle.daemon_server.proofs.Tables.{line-before, line-behind, serves-waiting, taken-more}
use Rattle.daemon_server.proofs.table.Table.turn_of.Goals as goal

pub take_turn-requires-clause-line : goal.take_turn-requires-clause-line
take_turn-requires-clause-line g c =
    let table = c.args.self.now in
    let was : get nat_eq table.lines c.args.number ≡ Some c.in-Some.line.now = search rules in
    line-before g.G.Gate.delivered g.G.Gate.took g.G.Gate.has_ended c.args.core.now.journal.records c.requires.serves.0 table c.args.number c.in-Some.line.now c.requires.serves.1 was

pub returns-in_default : goal.returns-in_default
returns-in_default g c = record {
  serves = λ waiting s.
      let table = c.args.self.now in
      let lines = c.get_mut.follows.lender-at-none in
      let same : lines ≡ table.lines = search rules in
      let later : Table g.row.G.Denot = record { alloc = table.alloc; lines = lines; signed = table.signed; waiting = table.waiting; next = table.next; over = table.over } in
      serves-waiting g.G.Gate.delivered g.G.Gate.took g.G.Gate.has_ended c.args.core.now.journal.records [] waiting (waiting ++ c.args.number ∷ []) table later s
      (ap (λ (m : _). record { alloc = table.alloc; lines = m; signed = table.signed; waiting = table.waiting; next = table.next; over = table.over }) same)
      (taken-more g.G.Gate.delivered g.G.Gate.took g.G.Gate.has_ended waiting table c.args.number s.taken);
}

pub returns : goal.returns
returns g c = record {
  serves = λ waiting s.
      let table = c.args.self.now in
      let old = c.in-Some.line.now in
      let line = c.take_turn.new.self in
      let lines = c.get_mut.follows.lender line in
      let was : get nat_eq table.lines c.args.number ≡ Some old = search rules in
      let moved : (n : ℕ) → get nat_eq lines n ≡ (if c.args.number == n then Some line else get nat_eq table.lines n) = search rules in
      line-behind g.G.Gate.delivered g.G.Gate.took g.G.Gate.has_ended c.args.core.now.journal.records waiting table
      (record { alloc = table.alloc; lines = lines; signed = table.signed; waiting = c.saturating_sub-self.result; next = table.next; over = table.over }) c.args.number old line s was moved refl refl c.in_ok-turn.ensures.number c.in_ok-turn.ensures.line;
}
