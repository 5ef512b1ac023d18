-- What a next record carries and opens is known to the tables of a lawful capture.
use Rattle.std.proofs.Common.{◌≡◌, refl, ◌∙◌, inl, inr, true, List, ◌∷◌, None, IfSome, is_some}
use Rattle.capture_form.specs.Rules.{RuleSet}
use Rattle.capture_form.specs.declared.records.Record.{Record}
use Rattle.trace_events.specs.Clauses.{broken_clause, first_broken}
use Rattle.trace_events.specs.LinkClause.{asking}
use Rattle.trace_events.specs.TransferClause.{to_carry}
use Rattle.trace_events.proofs.Unopened.{broken-unopened}
use Rattle.trace_events.specs.Event.{Event, Outgoing}
use Rattle.trace_events.specs.History.{judge, judge_unopened, moment_of}
use Rattle.trace_events.specs.Said.{out_transfer}
use Rattle.trace_events.specs.Session.{has_unanswered_begin}
use Rattle.trace_events.specs.Known.{CarriesKnown, OpensKnown}
use Rattle.state_tables.proofs.OpenedKnown.{opens-known}
use Rattle.state_incoming.specs.EntryAnswers.{Knows, has_entry}
use Rattle.state_incoming.proofs.GroupAnswers.{judged-of}
use Rattle.state_outgoing.specs.SentAnswers.{KnowsOrBegins}
use Rattle.state_outgoing.specs.declared.deliveries.SentDeliveries.{SentDeliveries}
use Rattle.state_outgoing.proofs.AnswersKnown.{progress-knows}
use Rattle.state_tables.specs.declared.connections.Connections.{Connections}
use Rattle.state_tables.specs.declared.links.Links.{Links}
use Rattle.state_tables.specs.declared.consumers.Consumers.{Consumers}
use Rattle.state_tables.specs.declared.consumer_links.ConsumerLinks.{ConsumerLinks}
use Rattle.state_incoming.specs.declared.deliveries.Deliveries.{Deliveries}
use Rattle.state_tables.specs.declared.copies.Copies.{Copies}
use Rattle.state_verdicts.specs.declared.verdicts.Verdicts.{Verdicts}
use Rattle.state_answers.specs.Tables.{StandFor}
use Rattle.state_answers.proofs.CarriedKnown.{carries-known}
use Rattle.state_answers.proofs.CarriedThere.{names-known}
use Rattle.state_answers.proofs.OutgoingKnown.{BeginsOrGoesOn}

-- a record before what it opens is filled in
abbrev unopened : RuleSet → List Event → Record → Event
unopened rules past r = judge_unopened rules past r.connection (moment_of r.what) r.note

module _ (rules : RuleSet) (past : List Event) (connections : Connections) (links : Links) (consumers : Consumers) (deliveries : Deliveries) (consumer_links : ConsumerLinks) (copies : Copies)
    (sent : SentDeliveries) (verdicts : Verdicts) (are : StandFor rules connections links consumers deliveries consumer_links copies sent verdicts past) (r : Record) where
  begun-or-going : (j : Outgoing) → BeginsOrGoesOn past j → KnowsOrBegins sent past j
  begun-or-going j (inl begins) = inr begins
  begun-or-going j (inr (l, live, going)) = inl (progress-knows rules past (judged-of rules past are.0) sent are.1.1.1.1.1.1.1.1.0 l j going)

  pub next-carries : CarriesKnown (λ n. has_entry deliveries n ≡ true) (λ j. KnowsOrBegins sent past j) (unopened rules past r)
  next-carries = carries-known rules past deliveries (KnowsOrBegins sent past) are.0 are.1.1.1.1.0 begun-or-going r.connection (moment_of r.what) r.note

  pub next-opens : broken_clause rules (unopened rules past r) past ≡ None
      → OpensKnown (λ c channel. has_unanswered_begin c channel past ≡ true) (λ s handle. is_some (asking s handle past) ≡ true) (unopened rules past r)
  next-opens unbroken = opens-known rules (unopened rules past r) past are.1.1.1.1.1.1.1.0 unbroken

  pub next-names : broken_clause rules (unopened rules past r) past ≡ None
      → IfSome (out_transfer (unopened rules past r)) (λ fields. IfSome (to_carry rules (unopened rules past r).note past) (Knows deliveries))
  next-names unbroken =
      let before : first_broken rules past ≡ None = are.1.1.1.1.1.1.1.0 in
      let met : broken_clause rules (judge rules past r) past ≡ None = broken-unopened rules past r ∙ unbroken in
      let lawful : first_broken rules (judge rules past r ∷ past) ≡ None = rw (before, met) refl in
      names-known rules (judge rules past r) past ((r, refl), judged-of rules past are.0) lawful deliveries are.1.1.1.1.0.1.1 are.1.1.1.1.0.0
