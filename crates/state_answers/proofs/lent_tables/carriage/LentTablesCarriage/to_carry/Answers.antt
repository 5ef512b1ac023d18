use Rattle.std.proofs.Common.{◌≡◌, ◌∙◌, Some, option_map}
use Rattle.trace_events.specs.TransferClause.{to_carry}
use Rattle.trace_events.specs.Event.{Incoming}
use Rattle.trace_events.specs.View.{incoming_view}
use Rattle.state_incoming.specs.EntryAnswers.{Knows}
use Rattle.state_incoming.proofs.GroupAnswers.{judged-of}
use Rattle.state_answers.proofs.LetGoKnown.{if-some, noted-kept, nothing-named}
use Rattle.state_answers.proofs.lent_tables.carriage.LentTablesCarriage.to_carry.Goals as goal

pub returns-clause-value : goal.returns-clause-value
returns-clause-value c = λ past stands whole.
    c.to_carry.ensures.value c.args._rules.now past stands.1.1.1.1.0.0 (nothing-named c.args.self.now.deliveries.now.let_go.items whole c.args.note)

pub returns-clause-known : goal.returns-clause-known
returns-clause-known c = λ past stands. c.to_carry.ensures.known c.args._rules.now past stands.1.1.1.1.0.0

pub returns-clause-found : goal.returns-clause-found
returns-clause-found c = λ past stands. c.to_carry.ensures.given c.args._rules.now past stands.1.1.1.1.0.0

pub returns-clause-all : goal.returns-clause-all
returns-clause-all c = λ past stands.
    let rules = c.args._rules.now in
    let table = c.args.self.now.deliveries.now in
    if-some (λ (d : Incoming). Knows table d → option_map incoming_view c.to_carry.result ≡ Some d) (to_carry rules c.args.note past)
    (λ d is knows. c.to_carry.ensures.value rules past stands.1.1.1.1.0.0 (noted-kept rules past (judged-of rules past stands.0) table stands.1.1.1.1.0.0 c.args.note d is knows) ∙ is)
