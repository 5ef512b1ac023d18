-- One record more, taken behind those for which the tables stand.
use Rattle.std.proofs.Common.{◌≡◌, refl, sym, ap, subst, ◌∙◌, ◌<◌, ◌^◌, ℕ, List, [], ◌∷◌, ◌++◌, length, None}
use Rattle.capture_form.specs.declared.records.Record.{Record}
use Rattle.capture_form.specs.Rules.{RuleSet}
use Rattle.trace_events.specs.Event.{Event}
use Rattle.trace_events.specs.History.{judge, history}
use Rattle.trace_events.specs.Clauses.{first_broken}
use Rattle.trace_events.specs.Verdict.{tally_of}
use Rattle.trace_events.specs.declared.tally.Tally.{Tally}
use Rattle.trace_events.proofs.Lawful.{history-push}
use Rattle.state_tables.specs.Connections.{IsLawfulNext}
use Rattle.state_answers.specs.Tables.{AreTables}
use Rattle.state_answers.specs.declared.tables.Tables.{Tables}
use Rattle.state_ledger.specs.Ledger.{broken_behind}

module _ (rules : RuleSet) (records : List Record) (r : Record) where
  abbrev past : List Event
  past = history rules records

  -- the record's event, by which the tables are moved
  pub lawful-next : (e : Event) → e ≡ judge rules past r → first_broken rules past ≡ None → broken_behind rules records r ≡ None → IsLawfulNext rules records r e
  lawful-next e same lawful unbroken = (same, ap (λ (x : Event). first_broken rules (x ∷ past)) same ∙ rw (lawful, unbroken) refl)

  -- behind it stand the event and those before it
  pub longer-past : (e : Event) → e ≡ judge rules past r → e ∷ past ≡ history rules (records ++ r ∷ [])
  longer-past e same = ap (λ (x : Event). x ∷ past) same ∙ sym (history-push rules records r)

  -- tables and tally of the event and those before it are those of the longer capture
  pub longer : (tables : Tables) (tally : Tally) (e : Event) → e ≡ judge rules past r → AreTables rules tables (e ∷ past) → tally ≡ tally_of (e ∷ past)
      → AreTables rules tables (history rules (records ++ r ∷ [])) × (tally ≡ tally_of (history rules (records ++ r ∷ [])))
  longer tables tally e same are counted =
      let on = longer-past e same in
      (subst (λ (p : List Event). AreTables rules tables p) on are, counted ∙ ap tally_of on)

  -- so many records are counted
  pub few : (tally : Tally) → tally ≡ tally_of past → tally.records < 2 ^ 63 → length past < 2 ^ 63
  few tally is lt = subst (λ (n : ℕ). n < 2 ^ 63) (ap (λ (t : Tally). t.records) is) lt
