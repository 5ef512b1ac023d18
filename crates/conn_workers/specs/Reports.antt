-- What a run reports.
use Rattle.std.specs.Prelude.{◌≡◌, ℕ, ◌+◌, Bool, true, List, [], ◌∷◌, ◌++◌, length}
use Rattle.capture_form.specs.declared.records.Record.{Record}
use Rattle.capture_form.specs.Rules.{RuleSet}
use Rattle.capture_form.specs.Text.{Trace}
use Rattle.address_table.specs.Served.{AreSameRules}
use Rattle.trace_events.specs.Kept.{AreFirst}
use Rattle.core_exchange.specs.Captures.{IsOfCore}
use Rattle.core_exchange.specs.Seats.{inputs_on, outs_on, owned_below}
use Rattle.conn_workers.specs.declared.report.ConnReport.{ConnReport}
use Rattle.conn_engine.specs.Served.{IsServed}
use Rattle.conn_engine.specs.Streams.{IsWritten}
use Rattle.conn_workers.specs.Lines.{IsFrom}

module _ {G : Type 0} (gates : List G) (Follows : G → G → Type 0) (Delivered Took : G → List ℕ → Type 0) (ended : G → Bool) where
  -- Connection k of a capture: its gate was given at that place and has ended, or its engine was over. Its inputs are the
  -- items of what the gate delivered up to then, and the loss, where it was opened. What the gate took begins the answers and
  -- then all frames that were written to it, with empty ones between them where the client asks for these.
  pub record IsReported (records : List Record) (k : ℕ) (report : ConnReport G) : Type 0 where
    pub conn : report.conn ≡ k
    pub from : IsFrom gates Follows k report.gate
    pub items : inputs_on k records ≡ report.items.items
    pub frames : List (List ℕ)
    pub written : AreFirst frames (outs_on k records)
    pub served : IsServed Delivered Took ended report.gate report.items.items frames report.taken.items
    pub put : List ℕ
    pub all : IsWritten served.stream.steps (outs_on k records) put
    pub left : List ℕ
    pub given : report.taken.items ++ left ≡ served.answers ++ put

  -- the reports are those of connections k and up
  abbrev pub AreReported : List Record → ℕ → List (ConnReport G) → Type 0
  AreReported records k [] = Unit {0}
  AreReported records k (report ∷ reports) = IsReported records k report × AreReported records (k + 1) reports

  -- one report for each gate, in order, no other inputs, and a capture of a core of these rules
  pub record IsRun (rules : RuleSet) (capture : Trace) (conns : List (ConnReport G)) : Type 0 where
    pub count : length conns ≡ length gates
    pub each : AreReported capture.records 0 conns
    pub owned : owned_below (length conns) capture.records ≡ true
    pub rules_are : AreSameRules capture.rules rules
    pub core : IsOfCore capture
