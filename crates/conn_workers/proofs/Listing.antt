-- What stands in a run's report of its lists.
use Rattle.std.proofs.Common.{◌≡◌, ℕ, ◌+◌, Bool, true, List, [], ◌∷◌, length, ◌∙◌, subst}
use Rattle.capture_form.specs.declared.records.Record.{Record}
use Rattle.capture_form.specs.Rules.{RuleSet}
use Rattle.capture_form.specs.Text.{Trace}
use Rattle.conn_workers.specs.Seats.{owned_below}
use Rattle.conn_workers.specs.declared.report.ConnReport.{ConnReport}
use Rattle.conn_workers.specs.Reports.{AreReported, IsRun}
use Rattle.conn_workers.specs.ServedRuns.{AreListed, IsServedRun}

module _ {G : Type 0} (gates : List G) (Follows : G → G → Type 0) (Delivered Took : G → List ℕ → Type 0) (ended : G → Bool) where
  are_listed : (records : List Record) (k : ℕ) (reports : List (ConnReport G)) → AreReported gates Follows Delivered Took ended records k reports
      → AreListed records k reports
  are_listed records k [] told = tt
  are_listed records k (report ∷ reports) told = (
    record {
      conn = told.0.conn;
      items = told.0.items;
      octets = told.0.served.octets;
      ahead = told.0.served.ahead;
      told = told.0.served.told;
      answers = told.0.served.answers;
      stream = told.0.served.stream;
      items_are = told.0.served.items_are;
      put = told.0.put;
      all = told.0.all;
      left = told.0.left;
      given = told.0.given;
    },
    are_listed records (k + 1) reports told.1,
  )

  pub served_run : (rules : RuleSet) (connections : ℕ) (capture : Trace) (conns : List (ConnReport G)) → length gates ≡ connections
      → IsRun gates Follows Delivered Took ended rules capture conns → IsServedRun rules connections capture conns
  served_run rules connections capture conns many run = record {
    count = run.count ∙ many;
    each = are_listed capture.records 0 conns run.each;
    owned = subst (λ m. owned_below m capture.records ≡ true) (run.count ∙ many) run.owned;
    rules_are = run.rules_are;
    core = run.core;
  }
