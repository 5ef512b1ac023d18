use Rattle.std.proofs.Common.{rules, ◌≡◌, ◌∷◌, [], ℕ, List, Some, None, nat_eq, refl, sym, ap, subst, if◌then◌else◌, ◌==◌}
use Rattle.indexmap.specs.IndexMap.{get}
use Rattle.daemon_server.specs.declared.table.Table.{Table}
use Rattle.capture_form.specs.declared.records.Record.{Record}
use Rattle.daemon_server.specs.Lines.{Serves}
use Rattle.daemon_server.proofs.Tables.{line-entries, serves-stepped, serves-waiting, taken-without}
use Rattle.daemon_server.proofs.table.Table.records_of.Goals as goal

pub step-requires : goal.step-requires
step-requires g c = record {
  entries =
      let table = c.args.self.now in
      let was : get nat_eq table.lines c.args.number ≡ Some c.in-Some.line.now = search rules in
      line-entries g.G.Gate.delivered g.G.Gate.took g.G.Gate.has_ended c.args.core.now.journal.records [] c.requires.serves.0 table c.args.number c.in-Some.line.now c.requires.serves.1 was;
}

pub returns-in_default : goal.returns-in_default
returns-in_default g c = record {
  serves = λ waiting s.
      let table = c.args.self.now in
      let lines = c.get_mut.follows.lender-at-none in
      let same : lines ≡ table.lines = search rules in
      let none : get nat_eq table.lines c.args.number ≡ None = search rules in
      let later : Table g.row.G.Denot = record { alloc = table.alloc; lines = lines; signed = table.signed; waiting = table.waiting; next = table.next; over = table.over } in
      subst (λ (xs : List Record). Serves g.G.Gate.delivered g.G.Gate.took g.G.Gate.has_ended c.args.core.now.journal.records xs waiting later) (sym c.new.ensures.items)
      (serves-waiting g.G.Gate.delivered g.G.Gate.took g.G.Gate.has_ended c.args.core.now.journal.records [] (c.args.number ∷ waiting) waiting table later s
      (ap (λ (m : _). record { alloc = table.alloc; lines = m; signed = table.signed; waiting = table.waiting; next = table.next; over = table.over }) same)
      (taken-without g.G.Gate.delivered g.G.Gate.took g.G.Gate.has_ended waiting table c.args.number s.taken none));
}

pub returns : goal.returns
returns g c = record {
  serves = λ waiting s.
      let table = c.args.self.now in
      let old = c.in-Some.line.now in
      let line = c.step.new.self in
      let lines = c.get_mut.follows.lender line in
      let was : get nat_eq table.lines c.args.number ≡ Some old = search rules in
      let moved : (n : ℕ) → get nat_eq lines n ≡ (if c.args.number == n then Some line else get nat_eq table.lines n) = search rules in
      let later : Table g.row.G.Denot = record { alloc = table.alloc; lines = lines; signed = table.signed; waiting = table.waiting; next = table.next; over = table.over } in
      serves-stepped g.G.Gate.delivered g.G.Gate.took g.G.Gate.has_ended old.inbox.items [] c.in_ok-given.given.items c.args.core.now c.step.new.core waiting table later c.args.number old line s was moved
      refl refl c.in_ok-given.ensures.stepped refl c.in_ok-given.ensures.number c.in_ok-given.ensures.line c.in_ok-given.ensures.taken;
}
