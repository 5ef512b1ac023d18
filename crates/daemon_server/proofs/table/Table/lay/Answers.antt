use Rattle.std.proofs.Common.{rules, ◌≡◌, ◌≤◌, ◌<◌, ◌+◌, ℕ, List, Some, None, nat_eq, refl, sym, ap, subst, ◌∙◌, arith, if◌then◌else◌, ◌==◌}
use Rattle.indexmap.specs.IndexMap.{get}
use Rattle.std.proofs.Math.Nat.{le-max_left, le-max_right}
use Rattle.capture_form.specs.declared.records.Record.{Record}
use Rattle.capture_form.specs.declared.records.What.{What}
use Rattle.capture_form.specs.Text.{frame_of}
use Rattle.route_items.specs.Inputs.{is_output}
use Rattle.daemon_server.proofs.Tables.{none-to, not-written, serves-laid, serves-passed, writes-none}
use Rattle.daemon_server.proofs.table.Table.lay.Goals as goal

next-from : (before connection next : ℕ) → next ≡ Prim.Native.Nat.max before (connection + 1) → before ≤ next
next-from before connection next is = subst (λ n. before ≤ n) (sym is) (le-max_left before (connection + 1))

above : (before connection next : ℕ) → next ≡ Prim.Native.Nat.max before (connection + 1) → connection < next
above before connection next is = let le = subst (λ n. connection + 1 ≤ n) (sym is) (le-max_right before (connection + 1)) in omega (arith, le)

pub returns-in_default : goal.returns-in_default
returns-in_default g c = record {
  serves = λ records rest waiting s.
      let table = c.args.self.now in
      let r = c.args.entry in
      serves-passed g.G.Gate.delivered g.G.Gate.took g.G.Gate.has_ended records rest waiting r table (record { alloc = table.alloc; lines = table.lines; signed = table.signed; waiting = table.waiting; next = c.max-self.result; over = table.over }) s refl refl
      (next-from table.next r.connection c.max-self.result c.max-self.ensures) (above table.next r.connection c.max-self.result c.max-self.ensures)
      (λ n x at. writes-none n r (not-written r.what c.in_default.not-Out));
}

pub returns-in_default-get_mut : goal.returns-in_default-get_mut
returns-in_default-get_mut g c = record {
  serves = λ records rest waiting s.
      let table = c.args.self.now in
      let r = c.args.entry in
      let lines = c.get_mut.follows.lender-at-none in
      let same : lines ≡ table.lines = search rules in
      let none : get nat_eq table.lines r.connection ≡ None = search rules in
      serves-passed g.G.Gate.delivered g.G.Gate.took g.G.Gate.has_ended records rest waiting r table (record { alloc = table.alloc; lines = lines; signed = table.signed; waiting = table.waiting; next = c.max-self.result; over = table.over }) s same refl
      (next-from table.next r.connection c.max-self.result c.max-self.ensures) (above table.next r.connection c.max-self.result c.max-self.ensures)
      (none-to g.G.Gate.delivered g.G.Gate.took g.G.Gate.has_ended r table none);
}

pub returns-in_ok-push : goal.returns-in_ok-push
returns-in_ok-push g c = record {
  serves = λ records rest waiting s.
      let table = c.args.self.now in
      let r = c.args.entry in
      let old = c.in-Some.line.now in
      let line = c.sign.new.self in
      let lines = c.get_mut.follows.lender line in
      let was : get nat_eq table.lines r.connection ≡ Some old = search rules in
      let moved : (n : ℕ) → get nat_eq lines n ≡ (if r.connection == n then Some line else get nat_eq table.lines n) = search rules in
      serves-laid g.G.Gate.delivered g.G.Gate.took g.G.Gate.has_ended records rest waiting r table (record { alloc = table.alloc; lines = lines; signed = c.push.new.self; waiting = c.saturating_add-self.result; next = c.max-self.result; over = table.over }) r.connection old line
      c.in-Out.frame s was moved refl (next-from table.next r.connection c.max-self.result c.max-self.ensures) (above table.next r.connection c.max-self.result c.max-self.ensures) refl
      (ap (λ (w : What). is_output w) c.in-Out.is) (ap (λ (w : What). frame_of w) c.in-Out.is) (c.sign.ensures.number ∙ c.in_ok-lay.ensures.number)
      (λ taken written h. c.sign.ensures.line taken _ (c.in_ok-lay.ensures.line taken written h)) (◌∙◌ {A = List Record} c.sign.ensures.inbox c.in_ok-lay.ensures.inbox);
}

pub returns-else-sign : goal.returns-else-sign
returns-else-sign g c = record {
  serves = λ records rest waiting s.
      let table = c.args.self.now in
      let r = c.args.entry in
      let old = c.in-Some.line.now in
      let line = c.sign.new.self in
      let lines = c.get_mut.follows.lender line in
      let was : get nat_eq table.lines r.connection ≡ Some old = search rules in
      let moved : (n : ℕ) → get nat_eq lines n ≡ (if r.connection == n then Some line else get nat_eq table.lines n) = search rules in
      serves-laid g.G.Gate.delivered g.G.Gate.took g.G.Gate.has_ended records rest waiting r table (record { alloc = table.alloc; lines = lines; signed = table.signed; waiting = c.saturating_add-self.result; next = c.max-self.result; over = table.over }) r.connection old line
      c.in-Out.frame s was moved refl (next-from table.next r.connection c.max-self.result c.max-self.ensures) (above table.next r.connection c.max-self.result c.max-self.ensures) refl
      (ap (λ (w : What). is_output w) c.in-Out.is) (ap (λ (w : What). frame_of w) c.in-Out.is) (c.sign.ensures.number ∙ c.in_ok-lay.ensures.number)
      (λ taken written h. c.sign.ensures.line taken _ (c.in_ok-lay.ensures.line taken written h)) (◌∙◌ {A = List Record} c.sign.ensures.inbox c.in_ok-lay.ensures.inbox);
}
