-- The session on a channel (part 2 of the standard, section 2.5).
use Rattle.std.specs.Prelude.{ℕ, Bool, true, false, ◌&&◌, ◌||◌, List, [], ◌∷◌, Option, Some, None, IfSome, is_some, is_none, option_map, filter, filter_map, find, ◌==◌, ◌≡◌, if◌then◌else◌}
use Rattle.amqp_perf.specs.declared.begin.Begin.{Begin}
use Rattle.trace_events.specs.Words.{is_some_and}
use Rattle.trace_events.specs.Event.{Event, is_on_channel}
use Rattle.trace_events.specs.declared.session.Session.{Session}
use Rattle.trace_events.specs.Said.{in_begin, out_begin, is_in_end, is_out_end}
use Rattle.trace_events.specs.Connection.{is_over}

abbrev pub begins_in : ℕ → ℕ → Event → Bool
begins_in c channel e = is_some (in_begin e) && is_on_channel c channel e

abbrev pub begins_out : ℕ → ℕ → Event → Bool
begins_out c channel e = is_some (out_begin e) && is_on_channel c channel e

abbrev pub ends_in : ℕ → ℕ → Event → Bool
ends_in c channel e = is_in_end e && is_on_channel c channel e

abbrev pub ends_out : ℕ → ℕ → Event → Bool
ends_out c channel e = is_out_end e && is_on_channel c channel e

-- the client's last begin on the channel
abbrev pub last_in_begin : ℕ → ℕ → List Event → Option Begin
last_in_begin c channel [] = None
last_in_begin c channel (e ∷ past) =
    let earlier = last_in_begin c channel past in if begins_in c channel e then in_begin e else earlier

-- the session that an Out begin, in this record, begins; its opening is the client's last begin, and its numbers are 0
-- where there is none
abbrev pub new_session : ℕ → ℕ → ℕ → Begin → Option Begin → Session
new_session number c channel ours (Some theirs) =
    record { number = number; connection = c; channel = channel; our_first_id = ours.next_outgoing_id; their_first_id = theirs.next_outgoing_id; their_window = theirs.incoming_window }
new_session number c channel ours None =
    record { number = number; connection = c; channel = channel; our_first_id = ours.next_outgoing_id; their_first_id = 0; their_window = 0 }

abbrev pub session_begun : ℕ → ℕ → Event → List Event → Option Session
session_begun c channel e past =
    option_map (λ ours. new_session e.number c channel ours (last_in_begin c channel past)) (out_begin e)

-- the session of the channel's last Out begin, if no end in either direction stands there since
abbrev pub last_session : ℕ → ℕ → List Event → Option Session
last_session c channel [] = None
last_session c channel (e ∷ past) =
    let earlier = last_session c channel past in
    if ends_in c channel e || ends_out c channel e then None
    else if begins_out c channel e then session_begun c channel e past else earlier

-- the live session: that one, if the connection isn't over
abbrev pub live_session : ℕ → ℕ → List Event → Option Session
live_session c channel past = if is_over c past then None else last_session c channel past

abbrev pub is_live_session : List Event → Session → Bool
is_live_session past s = is_some_and (live_session s.connection s.channel past) (λ t. t.number == s.number)

-- the client hasn't ended the channel's last session
abbrev pub is_unended : ℕ → ℕ → List Event → Bool
is_unended c channel [] = false
is_unended c channel (e ∷ past) =
    let earlier = is_unended c channel past in
    if begins_out c channel e then true else if ends_in c channel e then false else earlier

-- the router has ended the channel's last session, and the client hasn't: its end is awaited
abbrev pub awaits_end : ℕ → ℕ → List Event → Bool
awaits_end c channel [] = false
awaits_end c channel (e ∷ past) =
    let earlier = awaits_end c channel past in
    if begins_out c channel e || ends_in c channel e then false
    else if ends_out c channel e then is_unended c channel past else earlier

-- the session that an Out begin began
abbrev pub own_session : Event → Option Session
own_session e = if is_some (out_begin e) then e.session else None

-- all that have begun, the last first
abbrev pub sessions_begun : List Event → List Session
sessions_begun past = filter_map own_session past

-- those that live
abbrev pub live_sessions : List Event → List Session
live_sessions past = filter (is_live_session past) (sessions_begun past)

-- since the channel's last Out begin a begin of the client stands there that was heard and had no fault
abbrev pub has_unanswered_begin : ℕ → ℕ → List Event → Bool
has_unanswered_begin c channel [] = false
has_unanswered_begin c channel (e ∷ past) =
    let earlier = has_unanswered_begin c channel past in
    if begins_out c channel e then false
    else begins_in c channel e && e.is_heard && is_none e.fault || earlier

-- since the last Out end of the channel the client has ended a session that was live
abbrev pub owes_end : ℕ → ℕ → List Event → Bool
owes_end c channel [] = false
owes_end c channel (e ∷ past) =
    let earlier = owes_end c channel past in
    if ends_out c channel e then false else ends_in c channel e && is_some e.session || earlier

-- the session that began in this record
abbrev pub session_at : ℕ → List Event → Option Session
session_at n past = find (λ s. s.number == n) (sessions_begun past)

-- it is the live session of its channel
abbrev pub IsLiveOn : Session → List Event → Type 0
IsLiveOn s past = live_session s.connection s.channel past ≡ Some s

-- where an event stands on a session, that one lives before it; what the event opens itself is no such
abbrev pub StandsLive : Event → List Event → Type 0
StandsLive e past = IfSome e.session (λ s. IsLiveOn s past)
