-- What the table of connections stands for.
use Rattle.std.specs.Prelude.{◌≡◌, ℕ, true, false, ◌||◌, ◌⊎◌, List, ◌∷◌, Option, Some, None, IfSome, IsSomeAnd, is_some, option_map, option_and_then, unwrap_or, nat_eq, ◌==◌, ◌&&◌, if◌then◌else◌}
use Rattle.indexmap.specs.IndexMap.{get, spare}
use Rattle.number_runs.specs.Runs.{value_in}
use Rattle.flow_counts.specs.declared.profile.TheConstants.{MIN_MAX_FRAME_SIZE}
use Rattle.capture_form.specs.declared.records.Record.{Record}
use Rattle.capture_form.specs.Rules.{RuleSet}
use Rattle.trace_events.specs.Clauses.{first_broken}
use Rattle.trace_events.specs.History.{judge, history}
use Rattle.trace_events.specs.Words.{is_number}
use Rattle.trace_events.specs.Event.{Event, is_opened, is_lost, is_broken, is_out, channel_of}
use Rattle.trace_events.specs.Said.{in_open, is_out_close, is_in_close}
use Rattle.trace_events.specs.Connection as law
use Rattle.trace_events.specs.Connection.{is_final, bounded_limit}
use Rattle.state_counts.specs.Sessions.{session_at, opens_or_ends, session_next, session_behind}
use Rattle.state_tables.specs.Unanswered.{nothing, unanswered_at, unanswered_next}
use Rattle.state_tables.specs.declared.connection.ConnectionSummary.{ConnectionSummary}
use Rattle.state_tables.specs.declared.connection.Connection.{Connection}
use Rattle.state_tables.specs.declared.on_channels.OnChannels.{OnChannels}
use Rattle.state_counts.specs.declared.sessions.CountedSession.{CountedSession}
use Rattle.state_tables.specs.declared.unanswered.Unanswered.{Unanswered}
use Rattle.state_tables.specs.declared.connections.Connections.{Connections}

-- ---- what stands on the channels of a connection

-- the live session of a channel, and what of it is still to be answered
abbrev pub session_among : OnChannels → ℕ → Option CountedSession
session_among x channel = get nat_eq x.sessions channel

abbrev pub unanswered_among : OnChannels → ℕ → Unanswered
unanswered_among x channel = unwrap_or (get nat_eq x.unanswered channel) nothing

-- nothing stands on any channel
pub record HasNone (x : OnChannels) : Type 0 where
  pub sessions : (channel : ℕ) → session_among x channel ≡ None
  pub unanswered : (channel : ℕ) → unanswered_among x channel ≡ nothing

-- the two say the same
pub record AreSameAmong (earlier later : OnChannels) : Type 0 where
  pub sessions : (channel : ℕ) → session_among later channel ≡ session_among earlier channel
  pub unanswered : (channel : ℕ) → unanswered_among later channel ≡ unanswered_among earlier channel

-- an event stands on this channel
pub record TakesAmong (channel : ℕ) (e : Event) (earlier later : OnChannels) : Type 0 where
  pub sessions : (n : ℕ) → session_among later n ≡ (if channel == n then session_next e (session_among earlier n) else session_among earlier n)
  pub unanswered : (n : ℕ) → unanswered_among later n ≡ (if channel == n then unanswered_next e (unanswered_among earlier n) else unanswered_among earlier n)

-- one of the tables is full
abbrev pub AreFull : OnChannels → Type 0
AreFull x = (spare x.sessions ≡ 0) ⊎ (spare x.unanswered ≡ 0)

-- ---- one connection

-- before its first record
abbrev pub fresh : ConnectionSummary
fresh = record {
  is_over = false;
  was_opened = false;
  was_finished = false;
  was_stopped = false;
  has_out_frame = false;
  has_in_open = false;
  frame_limit = MIN_MAX_FRAME_SIZE;
}

-- what the law says of a connection
abbrev pub connection_at : ℕ → List Event → ConnectionSummary
connection_at c past = record {
  is_over = law.is_over c past;
  was_opened = law.was_opened c past;
  was_finished = law.was_finished c past;
  was_stopped = law.was_stopped c past;
  has_out_frame = law.has_out_frame c past;
  has_in_open = law.has_in_open c past;
  frame_limit = law.frame_limit c past;
}

-- with one event more of it; of its opens the first gives the limit
abbrev pub seen_next : Event → ConnectionSummary → ConnectionSummary
seen_next e seen = record {
  is_over = is_final e.moment || seen.is_over;
  was_opened = is_opened e.moment || seen.was_opened;
  was_finished = is_lost e.moment || is_out_close e || seen.was_finished;
  was_stopped = is_broken e.moment || is_in_close e || seen.was_stopped;
  has_out_frame = is_out e.moment || seen.has_out_frame;
  has_in_open = is_some (in_open e) || seen.has_in_open;
  frame_limit = if seen.has_in_open then seen.frame_limit else unwrap_or (option_map bounded_limit (in_open e)) seen.frame_limit;
}

-- what an entry has of a channel
abbrev pub session_on : Connection → ℕ → Option CountedSession
session_on x channel = option_and_then (λ b. session_among b.value channel) x.channels

abbrev pub unanswered_on : Connection → ℕ → Unanswered
unanswered_on x channel = unwrap_or (option_map (λ b. unanswered_among b.value channel) x.channels) nothing

-- it has come to this, and nothing stands on its channels
pub record IsBare (seen : ConnectionSummary) (x : Connection) : Type 0 where
  pub seen-is : x.seen ≡ seen
  pub sessions : (channel : ℕ) → session_on x channel ≡ None
  pub unanswered : (channel : ℕ) → unanswered_on x channel ≡ nothing

-- the two say the same
pub record IsSame (earlier later : Connection) : Type 0 where
  pub seen : later.seen ≡ earlier.seen
  pub sessions : (channel : ℕ) → session_on later channel ≡ session_on earlier channel
  pub unanswered : (channel : ℕ) → unanswered_on later channel ≡ unanswered_on earlier channel

-- an event stands on this channel, as far as sessions and answers go
pub record TakesOn (channel : ℕ) (e : Event) (earlier later : Connection) : Type 0 where
  pub seen : later.seen ≡ earlier.seen
  pub sessions : (n : ℕ) → session_on later n ≡ (if channel == n then session_next e (session_on earlier n) else session_on earlier n)
  pub unanswered : (n : ℕ) → unanswered_on later n ≡ (if channel == n then unanswered_next e (unanswered_on earlier n) else unanswered_on earlier n)

-- an event of the connection
pub record Takes (e : Event) (earlier later : Connection) : Type 0 where
  pub seen : later.seen ≡ seen_next e earlier.seen
  pub sessions : (n : ℕ) → session_on later n ≡ session_behind e n (session_on earlier n)
  pub unanswered : (n : ℕ) → unanswered_on later n ≡ (if is_number (channel_of e.moment) n then unanswered_next e (unanswered_on earlier n) else unanswered_on earlier n)

-- one of its tables is full, or it has none
abbrev pub IsFull : Connection → Type 0
IsFull x = IfSome x.channels (λ b. AreFull b.value)

-- ---- all of them

-- what the table has of a connection without an entry: what its run says
abbrev pub seen_over : Connections → ℕ → ConnectionSummary
seen_over table c = unwrap_or (value_in table.over c) fresh

-- what it has of a connection, and of a channel
abbrev pub seen_in : Connections → ℕ → ConnectionSummary
seen_in table c = unwrap_or (option_map (λ x. x.seen) (get nat_eq table.entries c)) (seen_over table c)

abbrev pub session_in : Connections → ℕ → ℕ → Option CountedSession
session_in table c channel = option_and_then (λ x. session_on x channel) (get nat_eq table.entries c)

abbrev pub unanswered_in : Connections → ℕ → ℕ → Unanswered
unanswered_in table c channel = unwrap_or (option_map (λ x. unanswered_on x channel) (get nat_eq table.entries c)) nothing

-- an entry has come to this, and nothing stands on its channels
abbrev pub IsDone : ConnectionSummary → Option Connection → Type 0
IsDone seen entry = IsSomeAnd entry (λ x. (x.seen ≡ seen) × (x.channels ≡ None))

-- the table is what these events left, as far as connections go
abbrev pub AreSeen : Connections → List Event → Type 0
AreSeen table past = (c : ℕ) → seen_in table c ≡ connection_at c past

-- and as far as sessions and answers on their channels go
pub record AreKept (table : Connections) (past : List Event) : Type 0 where
  pub connections : AreSeen table past
  pub sessions : (c channel : ℕ) → session_in table c channel ≡ session_at c channel past
  pub unanswered : (c channel : ℕ) → unanswered_in table c channel ≡ unanswered_at c channel past

-- the event is that of the next record of a capture that is lawful with it
abbrev pub IsLawfulNext : RuleSet → List Record → Record → Event → Type 0
IsLawfulNext rules records r e =
    (e ≡ judge rules (history rules records) r) × (first_broken rules (e ∷ history rules records) ≡ None)

-- an event was taken
pub record TakesOne (e : Event) (earlier later : Connections) : Type 0 where
  pub seen : (c : ℕ) → seen_in later c ≡ (if e.connection == c then seen_next e (seen_in earlier c) else seen_in earlier c)
  pub sessions : (c channel : ℕ) → session_in later c channel ≡ (if e.connection == c then session_behind e channel (session_in earlier c channel) else session_in earlier c channel)
  pub unanswered : (c channel : ℕ) → unanswered_in later c channel
      ≡ (if e.connection == c && is_number (channel_of e.moment) channel then unanswered_next e (unanswered_in earlier c channel) else unanswered_in earlier c channel)

-- the tables say the same
pub record AreSame (earlier later : Connections) : Type 0 where
  pub seen : (c : ℕ) → seen_in later c ≡ seen_in earlier c
  pub sessions : (c channel : ℕ) → session_in later c channel ≡ session_in earlier c channel
  pub unanswered : (c channel : ℕ) → unanswered_in later c channel ≡ unanswered_in earlier c channel

-- no room is left for what the event adds: for a begin or an end, in a table of its connection that is full or is not there
-- yet; or the connection has no entry, and so no table for a begin or an end, or the table of connections is full
abbrev pub NoRoomIn : Connections → Event → Option Connection → Type 0
NoRoomIn table e (Some x) = (opens_or_ends e ≡ true) × IsFull x
NoRoomIn table e None = (opens_or_ends e ≡ true) ⊎ (spare table.entries ≡ 0)

abbrev pub HasNoRoom : Connections → Event → Type 0
HasNoRoom table e = NoRoomIn table e (get nat_eq table.entries e.connection)
