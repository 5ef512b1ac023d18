use Rattle.std.proofs.Common.{◌≡◌, ℕ, None, if◌then◌else◌, ◌==◌, rules}
use Rattle.trace_events.specs.History.{history}
use Rattle.trace_events.proofs.Judged.{AreJudged, history-judged}
use Rattle.state_incoming.specs.HeldTables.{held_in}
use Rattle.state_incoming.proofs.LetGo.{held-still, grouped-still, over-still}
use Rattle.state_incoming.proofs.deliveries.Deliveries.let_go.Goals as goal

pub returns-clause-stands : goal.returns-clause-stands
returns-clause-stands c = λ given records lawful table over.
    let past = history given records in
    let are : AreJudged given past = history-judged given records in
    let groups = c.args.self.now.groups in
    let gone = c.args.self.now.let_go.items in
    let old = held_in c.args.self.now in
    let new = held_in (record { alloc = c.args.self.now.alloc; entries = c.swap_remove.new.self; groups = groups; let_go = c.and-self.result }) in
    let removed : (n : ℕ) → new n ≡ (if c.args.number == n then None else old n) = search rules in (
      held-still given past are c.args.number over gone c.and-self.result.items c.and-self.ensures old new table.0 removed,
      (
        grouped-still given past are c.args.number over gone c.and-self.result.items c.and-self.ensures old new table.0 removed groups table.1.0,
        over-still given past are c.args.number over gone c.and-self.result.items c.and-self.ensures old new table.0 removed table.1.1,
      ),
    )
