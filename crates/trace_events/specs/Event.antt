-- A record of a capture, with what the records before it say of it.
use Rattle.std.specs.Prelude.{ℕ, Bool, true, false, ◌&&◌, List, Option, Some, None, ◌==◌}
use Rattle.amqp_perf.specs.declared.attach.Role.{Role}
use Rattle.pairing_cert.specs.declared.note.Note.{Note}
use Rattle.trace_events.specs.declared.fault.Fault.{Fault}
-- A session is named by the record of its Out begin. The ids are those with which either side began; their window is
-- that of the client's begin (part 2 of the standard, section 2.5).
use Rattle.trace_events.specs.declared.session.Session.{Session}
use Rattle.trace_events.specs.Words.{is_some_and, is_number}
use Rattle.trace_events.specs.Frame.{Frame, Spoken, spoken_in, channel_in}

-- A link, named by the record of its Out attach, whose role it has: a receiver's is a producer's link, a sender's a
-- consumer's. The counts are the initial-delivery-counts of either side (part 2, section 2.6).
pub record Link : Type 0 where
  pub number : ℕ
  pub session : Session
  pub handle : ℕ
  pub role : Role
  pub address : List ℕ
  pub is_pre_settled : Bool
  pub our_first_count : ℕ
  pub their_first_count : ℕ

-- A delivery from a client, named by the record of its first transfer, whose id and message-format it has (part 2,
-- section 2.6.12).
pub record Incoming : Type 0 where
  pub number : ℕ
  pub link : Link
  pub id : Option ℕ
  pub format : ℕ

-- A delivery to a client, named by the record of its first transfer, whose id, settled flag and note it has.
pub record Outgoing : Type 0 where
  pub number : ℕ
  pub link : Link
  pub id : Option ℕ
  pub is_settled : Bool
  pub note : Note

-- what happened
pub data Moment : Type 0 where
  Opened : Moment
  In : Frame → Moment
  Out : Frame → Moment
  Lost : Moment
  Broken : Moment

-- What an event has. number, connection, moment and note are the record's own; an Opened, Lost or Broken has nothing else:
-- it isn't heard, and has none of the rest. A frame has:
--
-- | field    | if the client wrote it (In)                  | if the router wrote it (Out)                       |
-- |----------|----------------------------------------------|----------------------------------------------------|
-- | session  | of a performative the live one of its        | the same, but of a begin the one that it begins    |
-- |          | channel                                      |                                                    |
-- | link     | of a flow, transfer or detach the live one   | the same, and of an attach with source and target  |
-- |          | of its handle on that session                | on a live session the one that it opens            |
-- | incoming | of a heard transfer without fault the        | none                                               |
-- |          | delivery in progress on the producer's link, |                                                    |
-- |          | or the one that it begins                    |                                                    |
-- | outgoing | none                                         | of a transfer the delivery in progress on the      |
-- |          |                                              | consumer's link, or the one that it begins         |
-- | told     | none                                         | of a receiver's disposition the number of the      |
-- |          |                                              | delivery of its first id, whose outcome it tells   |
-- | settled  | none                                         | of a sender's disposition the number of the        |
-- |          |                                              | delivery of its first id, which it settles         |
-- | is_heard | true, unless it is passed over or the        | false                                              |
-- |          | connection is over                           |                                                    |
-- | fault    | of a heard one its fault, if it has one      | none                                               |
--
-- `judge` (of `History`) fills these in five steps, `placed`, `heard`, `faulted`, `delivered` and `opened`, each of which
-- reads only what the steps before it have filled.
pub record Event : Type 0 where
  pub number : ℕ
  pub connection : ℕ
  pub moment : Moment
  pub note : Note
  -- the live session on which a frame stands; an Out begin's own
  pub session : Option Session
  -- the live link whose handle a flow, transfer or detach names; an Out attach's own
  pub link : Option Link
  -- the delivery that a transfer begins or goes on with, by its direction
  pub incoming : Option Incoming
  pub outgoing : Option Outgoing
  -- the incoming delivery whose outcome an Out disposition tells, and the outgoing one that it settles
  pub told : Option ℕ
  pub settled : Option ℕ
  pub is_heard : Bool
  pub fault : Option Fault

-- "Before a record" is the list of the events before it, the newest first.
--
-- Arguments stand in one order, in all that the law is made of: the rules; what is asked about, be it an event, a connection,
-- a session, a link or a delivery; numbers and fields of it; last `past`, the events before. Behind `past` stands only what
-- is asked of one after the other, by a filter, a find or where there is one (`is_live past l`), what is tried by its cases,
-- and what a step of `judge` is given.

-- ---- what happened

abbrev pub in_frame : Moment → Option Frame
in_frame (In frame) = Some frame
in_frame _ = None

abbrev pub out_frame : Moment → Option Frame
out_frame (Out frame) = Some frame
out_frame _ = None

abbrev pub is_opened : Moment → Bool
is_opened Opened = true
is_opened _ = false

abbrev pub is_lost : Moment → Bool
is_lost Lost = true
is_lost _ = false

abbrev pub is_broken : Moment → Bool
is_broken Broken = true
is_broken _ = false

abbrev pub is_out : Moment → Bool
is_out (Out frame) = true
is_out _ = false

-- ---- where they stand

-- the performative of a frame, in either direction
abbrev pub spoken_of : Moment → Option Spoken
spoken_of (In frame) = spoken_in frame.body
spoken_of (Out frame) = spoken_in frame.body
spoken_of _ = None

-- the channel of a whole frame, in either direction
abbrev pub channel_of : Moment → Option ℕ
channel_of (In frame) = channel_in frame.body
channel_of (Out frame) = channel_in frame.body
channel_of _ = None

abbrev pub is_on_channel : ℕ → ℕ → Event → Bool
is_on_channel c channel e = is_number (channel_of e.moment) channel && (e.connection == c)

-- it stands on the session, or names the link while it lives
abbrev pub is_on_session : Session → Event → Bool
is_on_session s e = is_some_and e.session (λ t. t.number == s.number) && (e.connection == s.connection)

abbrev pub is_on_link : Link → Event → Bool
is_on_link l e = is_some_and e.link (λ m. m.number == l.number) && (e.connection == l.session.connection)
