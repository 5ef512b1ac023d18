use Rattle.std.proofs.Common.{refl}
use Rattle.trace_events.specs.Waiting.{is_undecided}
use Rattle.number_groups.specs.Groups.{is_member}
use Rattle.state_tables.specs.LetGo.{is_let_go}
use Rattle.state_incoming.specs.Grouped.{has_id}
use Rattle.state_incoming.specs.HeldTables.{held_in}
use Rattle.number_groups.specs.Ids.{same_id}
use Rattle.number_groups.specs.declared.id_on.IdOn.{IdOn}
use Rattle.state_incoming.proofs.HeldAnswers.{undecided-kept}
use Rattle.state_incoming.proofs.GroupAnswers.{judged-of, any-is}
use Rattle.state_incoming.proofs.OverKnown.{undecided-there}
use Rattle.state_incoming.proofs.deliveries.Deliveries.is_id_in_use.Goals as goal

pub returns : goal.returns
returns c = λ rules past judged table.
    let at : IdOn = record { session = c.args.session.number; id = c.args.id } in
    any-is rules past (judged-of rules past judged) (is_let_go c.args.self.now.let_go.items) (held_in c.args.self.now) table.0 (has_id at.session at.id) (λ d. is_undecided rules d past) (λ x. x.is_undecided)
    (λ d. refl) (undecided-kept rules past) (λ d. undecided-there rules past (judged-of rules past judged) (is_let_go c.args.self.now.let_go.items) table.1.1 d.number d) (is_member same_id c.args.self.now.groups.in_use at) (table.1.0.in_use at) c.is_empty.result c.is_empty.ensures
