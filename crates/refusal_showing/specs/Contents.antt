-- What the tables of deliveries stand for.
use Rattle.std.specs.Prelude.{List}
use Rattle.capture_form.specs.Rules.{RuleSet}
use Rattle.trace_events.specs.Event.{Event}
use Rattle.trace_events.specs.History.{IsHistory}
use Rattle.state_incoming.specs.HeldTables.{AreHeld}
use Rattle.state_incoming.specs.declared.deliveries.Deliveries.{Deliveries}
use Rattle.state_outgoing.specs.SentTables.{AreSent}
use Rattle.state_outgoing.specs.declared.deliveries.SentDeliveries.{SentDeliveries}

-- they have what the law says of these events, which are those of some records judged by these rules
pub record TellOf (rules : RuleSet) (deliveries : Deliveries) (sent_deliveries : SentDeliveries) (past : List Event) : Type 0 where
  pub judged : IsHistory rules past
  pub held : AreHeld rules deliveries past
  pub sent : AreSent sent_deliveries past
