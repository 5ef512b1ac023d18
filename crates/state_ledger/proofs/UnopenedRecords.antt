-- The event of a record, before what it opens is filled in: the law is asked of it there.
use Rattle.std.proofs.Common.{◌≡◌, sym, ap, subst, ◌∙◌, List, length}
use Rattle.capture_form.specs.declared.records.Record.{Record}
use Rattle.capture_form.specs.Rules.{RuleSet}
use Rattle.trace_events.specs.Event.{Event}
use Rattle.trace_events.specs.Session.{StandsLive}
use Rattle.trace_events.specs.Link.{NamesLive}
use Rattle.trace_events.specs.History.{moment_of, opened, judge}
use Rattle.trace_events.proofs.Standing.{placed-stands}
use Rattle.trace_events.specs.Clauses.{broken_clause}
use Rattle.trace_events.proofs.LiveLinks.{placed-names}
use Rattle.trace_events.proofs.Unopened.{broken-unopened}
use Rattle.state_ledger.specs.NextEvents.{unopened}

-- an event like it, at the moment that was read, is it
pub at-moment : (rules : RuleSet) (past : List Event) (r : Record) (e : Event) → e ≡ judge rules past r → (record e { moment = moment_of r.what }) ≡ judge rules past r
at-moment rules past r e same = ap (λ (x : Event). let y : Event = record x { moment = moment_of r.what } in y) same

module _ (rules : RuleSet) (past : List Event) (r : Record) (e : Event) (is : e ≡ unopened rules past r) where
  pub stands-live : StandsLive e past
  stands-live = subst (λ (x : Event). StandsLive x past) (sym is) (placed-stands past r.connection (moment_of r.what) r.note)

  pub names-live : NamesLive e past
  names-live = subst (λ (x : Event). NamesLive x past) (sym is) (placed-names past r.connection (moment_of r.what) r.note)

  pub number-is : e.number ≡ length past
  number-is = ap (λ (x : Event). x.number) is

  pub broken-is : broken_clause rules e past ≡ broken_clause rules (judge rules past r) past
  broken-is = ap (λ (x : Event). broken_clause rules x past) is ∙ sym (broken-unopened rules past r)

  pub opened-is : opened past e ≡ judge rules past r
  opened-is = ap (opened past) is
