-- What a turn of a connection leaves (own rules).
use Rattle.std.specs.Prelude.{◌≡◌, ℕ, Bool, List, ◌++◌, All}
use Rattle.capture_form.specs.declared.records.Record.{Record}
use Rattle.capture_form.specs.declared.records.What.{What}
use Rattle.conn_engine.specs.Pausing.{Paused, resumed}
use Rattle.conn_engine.specs.declared.serving.Status.{Status}
use Rattle.conn_engine.specs.Served.{LineHolds, NothingNoted}
use Rattle.daemon_server.specs.Desks.{IsEntry, told_by}

module _ {G : Type 0} (Delivered Took : G → List ℕ → Type 0) (ended : G → Bool) where
  -- a line of which these items were taken, these frames were given and these were due has had a turn: what holds of one so far on
  -- holds of it; the items are those, and then those of the inbox; the frames that were given and those that are due are those
  pub record HasServed (items : List What) (frames due : List (List ℕ)) (connection : ℕ) (status : Status) (gate : G) (engine : Paused) (inbox : List Record) (outbox : List (List ℕ)) : Type 0 where
    pub number : engine.number ≡ connection
    pub items_now : List What
    pub frames_now : List (List ℕ)
    pub is_idle : Bool
    pub holds : LineHolds Delivered Took ended status gate (resumed engine items_now frames_now is_idle) NothingNoted
    pub taken : items_now ≡ items ++ told_by inbox
    pub given : frames_now ++ outbox ≡ frames ++ due
    pub entries : All (IsEntry connection) inbox
