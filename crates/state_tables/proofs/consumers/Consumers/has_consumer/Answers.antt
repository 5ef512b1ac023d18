use Rattle.number_groups.specs.OctetGroups.{numbers}
use Rattle.trace_events.specs.History.{history}
use Rattle.trace_events.proofs.Judged.{history-judged}
use Rattle.state_tables.specs.Consumers.{stands}
use Rattle.state_tables.proofs.ConsumersOf.{has-consumer, some-among}
use Rattle.state_tables.proofs.consumers.Consumers.has_consumer.Goals as goal

pub returns-clause-stored : goal.returns-clause-stored
returns-clause-stored c = some-among (numbers c.args.self.now.groups c.args.address.now) c.is_empty.result c.is_empty.ensures

pub returns-clause-known : goal.returns-clause-known
returns-clause-known c = λ rules records are.
    has-consumer rules (history rules records) (history-judged rules records) c.args.address.now (stands c.args.self.now c.args.address.now) (are c.args.address.now) c.is_empty.result c.is_empty.ensures
