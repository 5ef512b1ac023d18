use Rattle.std.proofs.Common.{sym, subst, Option, IfSome, refl, ◌∙◌}
use Rattle.trace_events.specs.Waiting.{is_undecided}
use Rattle.number_groups.specs.Groups.{is_member, numbers}
use Rattle.state_tables.specs.LetGo.{is_let_go}
use Rattle.state_incoming.specs.Grouped.{has_id}
use Rattle.state_incoming.specs.HeldTables.{held_in}
use Rattle.number_groups.specs.Ids.{same_id}
use Rattle.number_groups.specs.declared.id_on.IdOn.{IdOn}
use Rattle.state_incoming.proofs.HeldAnswers.{undecided-kept}
use Rattle.state_incoming.proofs.GroupAnswers.{undecided-one, judged-of, first-is}
use Rattle.trace_events.specs.Event.{Incoming}
use Rattle.state_incoming.specs.EntryAnswers.{Knows}
use Rattle.state_incoming.proofs.KnownEntries.{knows-of}
use Rattle.state_incoming.proofs.OverKnown.{undecided-there}
use Rattle.state_incoming.proofs.deliveries.Deliveries.to_tell.Goals as goal

pub returns-clause-value : goal.returns-clause-value
returns-clause-value c = λ rules past judged table.
    let at : IdOn = record { session = c.args.session.number; id = c.args.id } in
    c.kept.ensures
    ∙ first-is rules past (judged-of rules past judged) (is_let_go c.args.self.now.let_go.items) (held_in c.args.self.now) table.0 (has_id at.session at.id) (λ d. is_undecided rules d past) (λ x. x.is_undecided)
    (λ d. refl) (undecided-kept rules past) (λ d. undecided-there rules past (judged-of rules past judged) (is_let_go c.args.self.now.let_go.items) table.1.1 d.number d) (is_member same_id c.args.self.now.groups.in_use at) (table.1.0.in_use at)
    (numbers same_id c.args.self.now.groups.in_use at) (λ n. refl) (undecided-one rules past judged c.args.session c.args.id) c.first.result c.first.ensures

pub returns-clause-known : goal.returns-clause-known
returns-clause-known c = λ rules past are.
    subst (λ (o : Option Incoming). IfSome o (Knows c.args.self.now)) (sym c.kept.ensures) (knows-of rules past c.args.self.now are c.first.result)
