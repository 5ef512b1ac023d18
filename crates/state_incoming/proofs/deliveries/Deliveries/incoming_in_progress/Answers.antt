use Rattle.std.proofs.Common.{sym, subst, Option, IfSome, ◌∙◌, nat_eq}
use Rattle.trace_events.specs.View.{link_view}
use Rattle.number_groups.specs.Groups.{numbers}
use Rattle.state_tables.specs.LetGo.{is_let_go}
use Rattle.state_incoming.specs.HeldTables.{held_in}
use Rattle.state_incoming.proofs.ArrivingKnown.{progress-is}
use Rattle.state_incoming.proofs.GroupAnswers.{judged-of}
use Rattle.trace_events.specs.Event.{Incoming}
use Rattle.state_incoming.specs.EntryAnswers.{Knows}
use Rattle.state_incoming.proofs.KnownEntries.{knows-of}
use Rattle.state_incoming.proofs.OverKnown.{arriving-there}
use Rattle.state_incoming.proofs.deliveries.Deliveries.incoming_in_progress.Goals as goal

pub returns-clause-value : goal.returns-clause-value
returns-clause-value c = λ rules past judged table live.
    let l = link_view c.args.link.now in
    c.kept.ensures
    ∙ progress-is rules past (judged-of rules past judged) (is_let_go c.args.self.now.let_go.items) (held_in c.args.self.now) table.0
    (λ d. arriving-there rules past (judged-of rules past judged) (is_let_go c.args.self.now.let_go.items) table.1.1 d.number d) l live
    (numbers nat_eq c.args.self.now.groups.arriving l.number) (table.1.0.arriving l.number) c.first.result c.first.ensures

pub returns-clause-known : goal.returns-clause-known
returns-clause-known c = λ rules past are.
    subst (λ (o : Option Incoming). IfSome o (Knows c.args.self.now)) (sym c.kept.ensures) (knows-of rules past c.args.self.now are c.first.result)
