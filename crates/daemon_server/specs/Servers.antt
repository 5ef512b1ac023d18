-- A router that one owner serves (own rules).
use Rattle.std.specs.Prelude.{◌≡◌, ℕ, Bool, List, []}
use Rattle.capture_journal.specs.Journals.{IsPassedOn}
use Rattle.daemon_server.specs.Recordings.{Recording}
use Rattle.daemon_server.specs.declared.table.Table.{Table}
use Rattle.daemon_server.specs.Lines.{Serves}

-- a server as it is seen: its core, with its capture; its connections; and whether it has stopped
pub record Serving (G : Type 0) : Type 0 where
  pub core : Recording
  pub table : Table G
  pub has_stopped : Bool

abbrev pub serving : {G : Type 0} → Recording → Table G → Bool → Serving G
serving core table has_stopped = record { core = core; table = table; has_stopped = has_stopped }

module _ {G : Type 0} (Delivered Took : G → List ℕ → Type 0) (ended : G → Bool) where
  -- between two rounds: the writer has the text of all records, and has passed it on; every frame of them is laid out for its
  -- connection; and each connection is served so far, and the core has taken all that came of it, or it was served to its end
  pub record IsServing (core : Recording) (table : Table G) : Type 0 where
    pub passed : IsPassedOn core.journal
    pub serves : Serves Delivered Took ended core.journal.records [] [] table
