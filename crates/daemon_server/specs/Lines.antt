-- The lines of one owner, beside the records of its core (own rules).
use Rattle.std.specs.Prelude.{◌≡◌, ℕ, ◌+◌, ◌-◌, ◌<◌, ◌≤◌, ◌^◌, Bool, true, List, [], ◌∷◌, ◌++◌, Option, Some, None, All, Contains, ◌⊎◌, length, take, map, filter, nat_eq, ◌==◌, if◌then◌else◌}
use Rattle.indexmap.specs.IndexMap.{get}
use Rattle.capture_form.specs.declared.records.Record.{Record}
use Rattle.capture_form.specs.declared.records.What.{What}
use Rattle.capture_form.specs.Text.{frame_of}
use Rattle.route_items.specs.Inputs.{inputs}
use Rattle.route_items.specs.WrittenFrames.{writes_on}
use Rattle.conn_engine.specs.Pausing.{Paused, resumed}
use Rattle.conn_engine.specs.declared.serving.Status.TheVariants.{Ended}
use Rattle.conn_engine.specs.Served.{LineHolds, NothingNoted}
use Rattle.daemon_server.specs.Desks.{IsEntry, told_by}
use Rattle.daemon_server.specs.declared.line.Line.{Line}
use Rattle.daemon_server.specs.declared.table.Table.{Table}

-- ---- what the records of a core have of a connection

-- what happened on it, in order
abbrev pub inputs_of : ℕ → List Record → List What
inputs_of n records = told_by (filter (λ r. r.connection == n) (inputs records))

-- the frames that were written to it, in order
abbrev pub frames_to : ℕ → List Record → List (List ℕ)
frames_to n records = map (λ r. frame_of r.what) (filter (writes_on n) records)

-- all records are of connections below n
abbrev pub AreBelow : ℕ → List Record → Type 0
AreBelow n records = All (λ r. r.connection < n) records

-- what stands in front of these, where they are the last
abbrev pub front_of : List (List ℕ) → List (List ℕ) → List (List ℕ)
front_of all last = take (length all - length last) all

-- the connection is open, or was let go
abbrev pub IsKnown : {G : Type 0} → Table G → ℕ → Type 0
IsKnown {G = G} table n = ((line : Line G) × (get nat_eq table.lines n ≡ Some line)) ⊎ Contains (map (λ p. p.0.number) table.over.items) n

-- The core has taken all that came of each connection that is open, but perhaps of those of these numbers.
abbrev pub AreTakenBut : {G : Type 0} → List ℕ → Table G → Type 0
AreTakenBut {G = G} waiting table = (n : ℕ) (line : Line G) → get nat_eq table.lines n ≡ Some line → Contains waiting n ⊎ (line.inbox.items ≡ [])

-- ---- what is done with one connection

-- the gate of a line
abbrev pub gate_of : {G : Type 0} → Option (Line G) → Option G
gate_of None = None
gate_of (Some line) = Some line.gate

-- the gate of the connection of this number, where it is open
abbrev pub gate_at : {G : Type 0} → Table G → ℕ → Option G
gate_at table n = gate_of (get nat_eq table.lines n)

-- the number that comes to those signed where a line is signed, unless it was signed before
abbrev pub news_of : {G : Type 0} → ℕ → Option (Line G) → List ℕ
news_of number None = []
news_of number (Some line) = if line.is_signed then [] else number ∷ []

module _ {G : Type 0} where
  -- the connection of this number, if it is open, is signed, once; those that were signed still are, and no gate is another one
  pub record HasSigned (number : ℕ) (earlier later : Table G) : Type 0 where
    pub signed : later.signed.items ≡ earlier.signed.items ++ news_of number (get nat_eq earlier.lines number)
    pub marked : (line : Line G) → get nat_eq later.lines number ≡ Some line → line.is_signed ≡ true
    pub gates : (n : ℕ) → gate_at later n ≡ gate_at earlier n
    pub next : later.next ≡ earlier.next

  -- a connection came at this gate: it has the next number, is open, and is signed
  pub record HasLine (gate : G) (earlier later : Table G) (number : ℕ) : Type 0 where
    pub own : number ≡ earlier.next
    pub left : earlier.next < 2 ^ 32
    pub next : later.next ≡ earlier.next + 1
    pub at : gate_at later number ≡ Some gate
    pub signed : later.signed.items ≡ earlier.signed.items ++ number ∷ []

-- the connection of this number is not among the lines any more, if it had ended and the core had taken all that came of it
abbrev pub HasLeft : {G : Type 0} → ℕ → Table G → Table G → Type 0
HasLeft {G = G} number earlier later = (line : Line G) → get nat_eq earlier.lines number ≡ Some line → line.status ≡ Ended → line.inbox.items ≡ [] → get nat_eq later.lines number ≡ None

-- a connection came at this gate, with this number; or no number was left, and nothing has changed
abbrev pub HasCome : {G : Type 0} → G → Table G → Table G → Option ℕ → Type 0
HasCome gate earlier later None = (2 ^ 32 ≤ earlier.next) × (later ≡ earlier)
HasCome gate earlier later (Some number) = HasLine gate earlier later number

module _ {G : Type 0} (Delivered Took : G → List ℕ → Type 0) (ended : G → Bool) where
  -- ---- one line

  -- These items were taken of a connection, and these frames were written to it: its engine told these and those of the inbox, and
  -- was given all of the frames but those of the outbox, as its gate delivered and took octets.
  pub record IsLine (taken : List What) (written : List (List ℕ)) (line : Line G) : Type 0 where
    pub engine : Paused
    pub is_there : line.engine ≡ Some engine
    pub own : engine.number ≡ line.number
    pub given : List (List ℕ)
    pub is_idle : Bool
    pub holds : LineHolds Delivered Took ended line.status line.gate (resumed engine (taken ++ told_by line.inbox.items) given is_idle) NothingNoted
    pub due : given ++ line.outbox.items ≡ written
    pub entries : All (IsEntry line.number) line.inbox.items

  -- ---- all lines

  -- it is connection n's, of these records, of which these are laid
  pub record IsLineOf (records laid : List Record) (n : ℕ) (line : Line G) : Type 0 where
    pub number : line.number ≡ n
    pub holds : IsLine (inputs_of n records) (frames_to n laid) line

  -- a connection that was let go: it had ended, and has no other inputs than those that its gate delivered
  pub record IsOver (records laid : List Record) (line : Line G) : Type 0 where
    pub status : line.status ≡ Ended
    pub taken_all : line.inbox.items ≡ []
    pub before : List Record
    pub behind : List Record
    pub parts : laid ≡ before ++ behind
    pub holds : IsLine (inputs_of line.number records) (frames_to line.number before) line

  -- one that was let go, beside those that are open
  pub record IsGone (records laid : List Record) (table : Table G) (line : Line G) : Type 0 where
    pub over : IsOver records laid line
    pub gone : get nat_eq table.lines line.number ≡ None
    pub below : line.number < table.next

  -- The connections of these records, of which the last ones are not laid yet: each that is open is served so far, and the core has
  -- taken all that came of it, unless its number is among those that wait; each that was let go was served to its end; and there are
  -- no inputs of others.
  pub record Serves (records given : List Record) (waiting : List ℕ) (table : Table G) : Type 0 where
    pub laid : List Record
    pub parts : laid ++ given ≡ records
    pub lines : (n : ℕ) (line : Line G) → get nat_eq table.lines n ≡ Some line → (n < table.next) × IsLineOf records laid n line
    pub over : All (λ p. IsGone records laid table p.0) table.over.items
    pub known : All (λ r. IsKnown table r.connection) (inputs records)
    pub below : AreBelow table.next laid
    pub taken : AreTakenBut waiting table
