-- What a router's state stands for: the records so far, judged by its rules (own rules).
use Rattle.std.specs.Prelude.{◌≡◌, List, None}
use Rattle.capture_form.specs.declared.records.Record.{Record}
use Rattle.capture_form.specs.Rules.{RuleSet}
use Rattle.trace_events.specs.Event.{Event}
use Rattle.trace_events.specs.History.{judge, history}
use Rattle.trace_events.specs.Clauses.{broken_clause}
use Rattle.state_answers.specs.Tables.{AreTables, completed_by_all}
use Rattle.route_dues.specs.Writing.{IsInOrder}
use Rattle.route_work.specs.declared.router_state.RouterState.{RouterState}

-- a record breaks no clause behind others
abbrev pub IsUnbroken : RuleSet → List Record → Record → Type 0
IsUnbroken rules records r = let past = history rules records in broken_clause rules (judge rules past r) past ≡ None

module _ {D : Type 0} (HasAll : D → RuleSet → List Event → Type 0) where
  -- the tables tell of these records, and so how many deliveries they complete; and all that is due is listed
  pub record IsRouterState (rules : RuleSet) (state : RouterState D) (records : List Record) : Type 0 where
    pub tables : AreTables rules state.tables (history rules records)
    pub counted : state.tables.completed ≡ completed_by_all (history rules records)
    pub listed : HasAll state.dues rules (history rules records)

  -- of some records, which are in order
  pub record AreInOrder (rules : RuleSet) (state : RouterState D) : Type 0 where
    pub records : List Record
    pub stand : IsRouterState rules state records
    pub order : IsInOrder rules (history rules records)
