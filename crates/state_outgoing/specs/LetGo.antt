-- Which deliveries a table lets go: those from clients by their numbers, and with each the ones to clients that carry it, once
-- these are finished (own rules).
use Rattle.std.specs.Prelude.{ℕ, Bool, ◌&&◌, not, List, Option}
use Rattle.trace_events.specs.Words.{where_passes}
use Rattle.trace_events.specs.Event.{Event, Outgoing}
use Rattle.trace_events.specs.Outgoing as law
use Rattle.state_tables.specs.LetGo.{names_let_go}
use Rattle.state_outgoing.specs.Sent.{Sent, sent_at, is_left_unsettled}

-- what a table keeps of an entry: nothing, where what its delivery carries was let go
abbrev pub where_kept : List (ℕ × Unit {0}) → Option Sent → Option Sent
where_kept gone o = where_passes (λ x. not (names_let_go gone x.delivery.note)) o

-- and so of the delivery to a client of this number
abbrev pub kept_at : List (ℕ × Unit {0}) → ℕ → List Event → Option Sent
kept_at gone n past = where_kept gone (sent_at n past)

-- a delivery to a client is finished: its last part is written, and it is not unsettled any more
abbrev pub is_finished : List Event → Outgoing → Bool
is_finished past j = law.is_sent j past && not (is_left_unsettled past j)

-- the same, by its entry
abbrev pub is_done : Sent → Bool
is_done x = x.is_sent && not x.is_unsettled
