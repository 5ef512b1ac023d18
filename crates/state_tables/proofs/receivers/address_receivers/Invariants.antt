use Rattle.std.proofs.Common.{◌≡◌, List, take}
use Rattle.std.specs.List.{filter_map}
use Rattle.capture_form.specs.Rules.{RuleSet}
use Rattle.capture_form.specs.declared.records.Record.{Record}
use Rattle.trace_events.specs.History.{history}
use Rattle.state_tables.specs.LinkTables.{AreLinked}
use Rattle.state_tables.specs.ConsumerLinks.{AreConsumerLinks}
use Rattle.state_tables.specs.Consumers.{numbers_at}
use Rattle.state_tables.specs.Receivers.{receiver_at}
use Rattle.state_tables.proofs.receivers.address_receivers.Given as goal

abbrev pub invariant-loop-index : goal.invariant-loop-index
invariant-loop-index l = (rules : RuleSet) (records : List Record) → AreConsumerLinks l.consumer_links (history rules records) → AreLinked l.links (history rules records) →
    l.receivers.items ≡ filter_map (λ n. receiver_at n (history rules records)) (take l.index (numbers_at l.consumers l.address))
