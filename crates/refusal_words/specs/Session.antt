-- The session on a channel, by what the records so far do to it, the newest first (AMQP 1.0, 2.5.6: a sender may send as
-- many transfers as the window that the receiver told last).
use Rattle.std.specs.Prelude.{ℕ, ◌+◌, Bool, true, false, List, [], ◌∷◌, Option, Some, None, option_map, filter_map, if◌then◌else◌}
use Rattle.amqp_perf.specs.declared.begin.Begin.{Begin}
use Rattle.amqp_perf.specs.declared.flow.Flow.{Flow}
use Rattle.amqp_perf.specs.Meaning.{Meaning, ABegin, AFlow, ATransfer, AnEnd}
use Rattle.capture_view.specs.declared.names.ChannelKey.{ChannelKey}
use Rattle.capture_view.specs.Named.{is_channel}
use Rattle.capture_view.specs.Numbers.{most}
use Rattle.capture_view.specs.Saying.{Says}
use Rattle.capture_view.specs.Viewed.{Happening, In, Out, Viewed}
use Rattle.refusal_words.specs.declared.session.Opened.{Opened}
use Rattle.refusal_words.specs.declared.session.Windowed.{Windowed}

-- ---- words

-- what is there, if it stands here
abbrev pub if_here : {A : Type 0} → Bool → Option A → Option A
if_here here None = None
if_here here (Some x) = if here then Some x else None

-- ---- what a record does to the session on a channel (own rule: by the client's and the router's performatives on it)

-- what moves the window of a session that lives: a flow of the client's, in the record of this number, or a transfer of
-- the router's
pub data SessionChange : Type 0 where
  TheirFlow : ℕ → Flow → SessionChange
  OurTransfer : SessionChange

-- a begin of the client's, and one of the router's, in the record of this number; such a change; an end in either direction
pub data SessionEvent : Type 0 where
  TheirBegin : ℕ → Begin → SessionEvent
  OurBegin : ℕ → SessionEvent
  Changes : SessionChange → SessionEvent
  AnyEnd : SessionEvent

abbrev pub heard_change : ℕ → Meaning → Option SessionChange
heard_change number (AFlow flow) = Some (TheirFlow number flow)
heard_change number _ = None

abbrev pub written_change : Meaning → Option SessionChange
written_change (ATransfer fields) = Some OurTransfer
written_change _ = None

-- what the client says in the record of this number, and what the router says
abbrev pub heard : ℕ → Meaning → Option SessionEvent
heard number (ABegin begin) = Some (TheirBegin number begin)
heard number (AnEnd condition) = Some AnyEnd
heard number meaning = option_map Changes (heard_change number meaning)

abbrev pub written : ℕ → Meaning → Option SessionEvent
written number (ABegin begin) = Some (OurBegin number)
written number (AnEnd condition) = Some AnyEnd
written number meaning = option_map Changes (written_change meaning)

-- what happens in a record of this number, on this connection
abbrev pub event_by : ChannelKey → ℕ → ℕ → Happening → Option SessionEvent
event_by key number connection (In (Says channel meaning rest)) =
    if_here (is_channel (record { connection = connection; channel = channel }) key) (heard number meaning)
event_by key number connection (Out (Says channel meaning rest)) =
    if_here (is_channel (record { connection = connection; channel = channel }) key) (written number meaning)
event_by key number connection _ = None

abbrev pub session_event : ChannelKey → Viewed → Option SessionEvent
session_event key view = event_by key view.number view.connection view.happened

-- the events of a channel
abbrev pub session_events : ChannelKey → List Viewed → List SessionEvent
session_events key past = filter_map (session_event key) past

-- ---- what they come to

-- the client's last begin, which tells the first window of a session (2.7.2)
abbrev pub last_begin : List SessionEvent → Option Opened
last_begin [] = None
last_begin (TheirBegin number begin ∷ past) = Some (record { number = number; incoming_window = begin.incoming_window })
last_begin (event ∷ past) = last_begin past

-- a session lives: the router has begun it, and no end stands since (2.5.1, 2.5.2)
abbrev pub lives : List SessionEvent → Bool
lives [] = false
lives (OurBegin number ∷ past) = true
lives (AnyEnd ∷ past) = false
lives (event ∷ past) = lives past

-- the record of the router's begin, by which the session is named (own rule)
abbrev pub began : List SessionEvent → ℕ
began [] = 0
began (OurBegin number ∷ past) = number
began (event ∷ past) = began past

-- the client's begin that opened it, which the router's answers: its last one in front of that (2.5.1)
abbrev pub opened : List SessionEvent → Option Opened
opened [] = None
opened (OurBegin number ∷ past) = last_begin past
opened (event ∷ past) = opened past

-- the client's last flow since the router's begin (2.7.4)
abbrev pub window : List SessionEvent → Option Windowed
window [] = None
window (Changes (TheirFlow number flow) ∷ past) =
    Some (record { number = number; next_incoming_id = flow.next_incoming_id; incoming_window = flow.incoming_window })
window (OurBegin number ∷ past) = None
window (event ∷ past) = window past

-- how many transfers the router has sent since that flow, or else since its begin: each takes one off the window (2.5.6)
abbrev pub sent : List SessionEvent → ℕ
sent [] = 0
sent (Changes OurTransfer ∷ past) = sent past + 1
sent (Changes (TheirFlow number flow) ∷ past) = 0
sent (OurBegin number ∷ past) = 0
sent (event ∷ past) = sent past

-- where the window of a session comes from: its record, and what the window is counted from
pub record SessionTold : Type 0 where
  pub number : ℕ
  pub opened : Option Opened
  pub window : Option Windowed
  pub sent : ℕ

abbrev pub told : List SessionEvent → SessionTold
told past = record { number = began past; opened = opened past; window = window past; sent = most (sent past) }

-- the same of the session that lives
abbrev pub session_of : List SessionEvent → Option SessionTold
session_of past = if lives past then Some (told past) else None

-- of one that begins in this record
abbrev pub fresh_session : ℕ → Option Opened → SessionTold
fresh_session number opening = record { number = number; opened = opening; window = None; sent = 0 }
