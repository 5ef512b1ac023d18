-- What the tables tell of what deliveries to clients carry is what the law says of it.
use Rattle.std.proofs.Common.{◌≡◌, sym, ap, ◌∙◌, inl, List, Option, Some, None, IfSome, ◌==◌}
use Rattle.capture_form.specs.Rules.{RuleSet}
use Rattle.trace_events.specs.Words.{is_some_and}
use Rattle.trace_events.specs.Event.{Event, Incoming, Outgoing}
use Rattle.trace_events.specs.Outgoing.{noted}
use Rattle.trace_events.specs.Settling.{is_closed}
use Rattle.trace_events.proofs.Judged.{AreJudged}
use Rattle.trace_events.specs.Clauses.{first_broken}
use Rattle.state_incoming.specs.EntryAnswers.{is_shut}
use Rattle.state_incoming.specs.HeldTables.{AreHeld, AreOver, held_in}
use Rattle.state_incoming.specs.declared.deliveries.Deliveries.{Deliveries}
use Rattle.state_incoming.proofs.CarriedHeld.{carried-of, carried-shut}
use Rattle.state_outgoing.specs.SentAnswers.{AreClosings, Knows, KnowsOrBegins, closes}
use Rattle.state_outgoing.specs.declared.deliveries.SentDeliveries.{SentDeliveries}

pub closings : (rules : RuleSet) (past : List Event) → AreJudged rules past → first_broken rules past ≡ None → (table : Deliveries) → AreHeld rules table past → AreOver rules table past
    → AreClosings (λ n. is_shut (held_in table n)) past
closings rules past are lawful table were over j at =
    let c = carried-of rules past are lawful (λ (k : Outgoing). k.number == j.number) j at in
    ap (closes (λ n. is_shut (held_in table n))) c.named
    ∙ (carried-shut rules past are lawful table were over j c
    ∙ sym (ap (λ note. is_some_and (noted note past) (is_closed past)) c.named ∙ ap (λ (o : Option Incoming). is_some_and o (is_closed past)) c.at))

-- what can be told of is known to the tables
pub known-one : (table : SentDeliveries) (past : List Event) (o : Option Outgoing) → IfSome o (Knows table) → IfSome o (λ j. KnowsOrBegins table past j)
known-one table past None is = tt
known-one table past (Some j) is = inl is
