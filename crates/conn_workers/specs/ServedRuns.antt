-- What a run over sockets reports. Of a socket nothing is known of what it delivered and took: the lists of the report are
-- compared with the capture.
use Rattle.std.specs.Prelude.{◌≡◌, ℕ, ◌+◌, true, List, [], ◌∷◌, ◌++◌, length}
use Rattle.capture_form.specs.declared.records.Record.{Record}
use Rattle.capture_form.specs.declared.records.What.{What}
use Rattle.capture_form.specs.Rules.{RuleSet}
use Rattle.capture_form.specs.Text.{Trace}
use Rattle.address_table.specs.Served.{AreSameRules}
use Rattle.conn_workers.specs.Captures.{IsOfCore}
use Rattle.conn_workers.specs.Seats.{inputs_on, outs_on, owned_below}
use Rattle.stream_reading.specs.Steps.{Ahead}
use Rattle.conn_workers.specs.Streams.{IsStream, IsWritten, loss_at}
use Rattle.conn_workers.specs.declared.report.ConnReport.{ConnReport}

module _ {G : Type 0} where
  -- Connection k of a capture: its inputs are the items that are told. These are what some octets of a client come to, and
  -- the loss, where it was opened; what its gate took begins the answers to these octets and then all frames that were
  -- written to it, with empty ones between them where the client asks for these. Which octets they are, a socket does not tell.
  pub record IsListed (records : List Record) (k : ℕ) (report : ConnReport G) : Type 0 where
    pub conn : report.conn ≡ k
    pub items : inputs_on k records ≡ report.items.items
    pub octets : List ℕ
    pub ahead : Ahead
    pub told : List What
    pub answers : List ℕ
    pub stream : IsStream octets ahead told answers
    pub items_are : report.items.items ≡ told ++ loss_at ahead.phase
    pub put : List ℕ
    pub all : IsWritten stream.steps (outs_on k records) put
    pub left : List ℕ
    pub given : report.taken.items ++ left ≡ answers ++ put

  -- the reports are those of connections k and up
  abbrev pub AreListed : List Record → ℕ → List (ConnReport G) → Type 0
  AreListed records k [] = Unit {0}
  AreListed records k (report ∷ reports) = IsListed records k report × AreListed records (k + 1) reports

  -- one report for each connection, in order, no other inputs, and a capture of a core of these rules
  pub record IsServedRun (rules : RuleSet) (connections : ℕ) (capture : Trace) (conns : List (ConnReport G)) : Type 0 where
    pub count : length conns ≡ connections
    pub each : AreListed capture.records 0 conns
    pub owned : owned_below connections capture.records ≡ true
    pub rules_are : AreSameRules capture.rules rules
    pub core : IsOfCore capture
