-- What the entry of a session stands for.
use Rattle.std.specs.Prelude.{ℕ, Bool, ◌-◌, ◌||◌, ◌==◌, List, [], Option, Some, None, is_some, option_map, if◌then◌else◌}
use Rattle.flow_counts.specs.declared.events.WindowEvent.{WindowEvent}
use Rattle.flow_counts.specs.declared.events.WindowEvent.TheVariants.{TheirFlow, Sent, OurFlow, Received}
use Rattle.flow_counts.specs.declared.profile.TheConstants.{INCOMING_WINDOW}
use Rattle.flow_counts.specs.Serial.{serial_add}
use Rattle.flow_counts.specs.Window.{lag}
use Rattle.trace_events.specs.Words.{is_number, is_some_and}
use Rattle.trace_events.specs.Event.{Event, channel_of}
use Rattle.trace_events.specs.Said.{in_begin, out_begin, is_in_end, is_out_end}
use Rattle.trace_events.specs.declared.session.Session.{Session}
use Rattle.trace_events.specs.Connection.{is_final}
use Rattle.trace_events.specs.Session.{live_session}
use Rattle.trace_events.specs.Outgoing.{outgoing_begun, next_delivery_id}
use Rattle.trace_events.specs.Window as law
use Rattle.trace_events.specs.Window.{window_event}
use Rattle.state_counts.specs.declared.sessions.CountedSession.{CountedSession}

-- a session with what the law says of its windows
abbrev pub counted : Session → List Event → CountedSession
counted s past = record {
  session = s;
  window = law.session_window s past;
  given_window = law.given_window s past;
  next_outgoing_id = law.next_outgoing_id s past;
  next_incoming_id = law.next_incoming_id s past;
  next_delivery_id = next_delivery_id s past;
}

-- the live session of a channel with its counts
abbrev pub session_at : ℕ → ℕ → List Event → Option CountedSession
session_at c channel past = option_map (λ s. counted s past) (live_session c channel past)

-- before its first event
abbrev pub begun : Session → CountedSession
begun s = counted s []

-- its windows, with one more of its events
abbrev pub moved : CountedSession → Option WindowEvent → CountedSession
moved x None = x
moved x (Some Sent) = record x { window = x.window - 1; next_outgoing_id = serial_add x.next_outgoing_id 1 }
moved x (Some Received) = record x { given_window = x.given_window - 1; next_incoming_id = serial_add x.next_incoming_id 1 }
moved x (Some OurFlow) = record x { given_window = INCOMING_WINDOW }
moved x (Some (TheirFlow expected window)) = record x { window = window - lag x.session.our_first_id x.next_outgoing_id expected }

-- a delivery to the client begins with the event
abbrev pub begins_delivery : Event → Session → Bool
begins_delivery e s = is_some_and (outgoing_begun e) (λ j. j.link.session.number == s.number)

-- with one more of its events, as far as windows and deliveries go
abbrev pub moved_by : Event → CountedSession → CountedSession
moved_by e x =
    let later = moved x (window_event e.moment) in
    if begins_delivery e x.session then record later { next_delivery_id = serial_add later.next_delivery_id 1 } else later

-- a begin or an end, in either direction
abbrev pub opens_or_ends : Event → Bool
opens_or_ends e = is_some (in_begin e) || is_some (out_begin e) || is_in_end e || is_out_end e

-- what an event of the channel makes of its session: an end leaves none, the router's begin another, and any other event
-- moves its counts
abbrev pub session_next : Event → Option CountedSession → Option CountedSession
session_next e earlier =
    if is_in_end e || is_out_end e then None
    else if is_some (out_begin e) then option_map begun e.session
    else option_map (moved_by e) earlier

-- what an event of the connection makes of the session on a channel: the last one leaves none
abbrev pub session_behind : Event → ℕ → Option CountedSession → Option CountedSession
session_behind e channel earlier =
    if is_final e.moment then None else if is_number (channel_of e.moment) channel then session_next e earlier else earlier
