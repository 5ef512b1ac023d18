use Rattle.std.proofs.Common.{◌∙◌}
use Rattle.number_groups.specs.OctetGroups.{numbers}
use Rattle.trace_events.specs.History.{history}
use Rattle.trace_events.proofs.Judged.{history-judged}
use Rattle.state_tables.proofs.ConsumersOf.{consumers-count}
use Rattle.state_tables.proofs.consumers.Consumers.count.Goals as goal

pub returns-clause-known : goal.returns-clause-known
returns-clause-known c = λ rules records are.
    c.count.ensures.count
    ∙ consumers-count rules (history rules records) (history-judged rules records) c.args.address.now (numbers c.args.self.now.groups c.args.address.now) c.count.ensures.distinct (are c.args.address.now)
