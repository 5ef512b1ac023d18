use Rattle.std.proofs.Common.{rules, ◌≡◌, ◌++◌, ◌∷◌, [], ℕ, Some, nat_eq, refl, ◌∙◌, if◌then◌else◌, ◌==◌}
use Rattle.indexmap.specs.IndexMap.{get}
use Rattle.daemon_server.specs.declared.table.Table.{Table}
use Rattle.daemon_server.proofs.Tables.{has-signed, serves-turned, taken-moved}
use Rattle.daemon_server.proofs.table.Table.sign.Goals as goal

pub returns-in_ok-push : goal.returns-in_ok-push
returns-in_ok-push g c =
    let table = c.args.self.now in
    let old = c.in-Some.line.now in
    let line = c.sign.new.self in
    let lines = c.get_mut.follows.lender line in
    let was : get nat_eq table.lines c.args.number ≡ Some old = search rules in
    let moved : (n : ℕ) → get nat_eq lines n ≡ (if c.args.number == n then Some line else get nat_eq table.lines n) = search rules in
    let later : Table g.row.G.Denot = record { alloc = table.alloc; lines = lines; signed = c.push.new.self; waiting = table.waiting; next = table.next; over = table.over } in
    let signed : c.push.new.self.items ≡ table.signed.items ++ (if old.is_signed then [] else c.args.number ∷ []) = search rules in
    record {
      serves = λ records given waiting s.
          serves-turned g.G.Gate.delivered g.G.Gate.took g.G.Gate.has_ended records given waiting waiting table later c.args.number old line s was moved refl refl
          (λ laid parts h. record { number = c.sign.ensures.number ∙ h.number; holds = c.sign.ensures.line _ _ h.holds })
          (taken-moved g.G.Gate.delivered g.G.Gate.took g.G.Gate.has_ended waiting table later c.args.number old line s.taken was moved c.sign.ensures.inbox);
      signed = has-signed g.G.Gate.delivered g.G.Gate.took g.G.Gate.has_ended table later c.args.number old line was moved refl c.sign.ensures.marked c.sign.ensures.gate signed;
    }

pub returns-else-sign : goal.returns-else-sign
returns-else-sign g c =
    let table = c.args.self.now in
    let old = c.in-Some.line.now in
    let line = c.sign.new.self in
    let lines = c.get_mut.follows.lender line in
    let was : get nat_eq table.lines c.args.number ≡ Some old = search rules in
    let moved : (n : ℕ) → get nat_eq lines n ≡ (if c.args.number == n then Some line else get nat_eq table.lines n) = search rules in
    let later : Table g.row.G.Denot = record { alloc = table.alloc; lines = lines; signed = table.signed; waiting = table.waiting; next = table.next; over = table.over } in
    let signed : table.signed.items ≡ table.signed.items ++ (if old.is_signed then [] else c.args.number ∷ []) = search rules in
    record {
      serves = λ records given waiting s.
          serves-turned g.G.Gate.delivered g.G.Gate.took g.G.Gate.has_ended records given waiting waiting table later c.args.number old line s was moved refl refl
          (λ laid parts h. record { number = c.sign.ensures.number ∙ h.number; holds = c.sign.ensures.line _ _ h.holds })
          (taken-moved g.G.Gate.delivered g.G.Gate.took g.G.Gate.has_ended waiting table later c.args.number old line s.taken was moved c.sign.ensures.inbox);
      signed = has-signed g.G.Gate.delivered g.G.Gate.took g.G.Gate.has_ended table later c.args.number old line was moved refl c.sign.ensures.marked c.sign.ensures.gate signed;
    }
