-- Which frames of a client are heard, and which are passed over (own rules).
use Rattle.std.specs.Prelude.{Bool, true, false, ◌&&◌, ◌||◌, not, List}
use Rattle.amqp_perf.specs.Meaning.{Meaning, AnOpen, AClose}
use Rattle.trace_events.specs.Words.{is_some_and}
use Rattle.trace_events.specs.Frame.{Body, NoFrame, Empty, NoPerformative, Says}
use Rattle.trace_events.specs.Event.{Event}
use Rattle.trace_events.specs.Said.{handle_in}
use Rattle.trace_events.specs.Connection.{is_over}
use Rattle.trace_events.specs.Session.{awaits_end}
use Rattle.trace_events.specs.Link.{awaits_detach}

-- an open or a close belongs to its connection, whatever its channel
abbrev pub is_of_connection : Meaning → Bool
is_of_connection (AnOpen fields) = true
is_of_connection (AClose error) = true
is_of_connection _ = false

-- a flow, transfer or detach whose handle awaits the client's detach
abbrev pub is_on_detached : Event → Meaning → List Event → Bool
is_on_detached e meaning past =
    is_some_and e.session (λ s. is_some_and (handle_in meaning) (λ handle. awaits_detach s handle past))

-- on a connection that isn't over, these are passed over: an empty body; all but opens and closes on a channel that
-- awaits the client's end; what stands on a handle that awaits its detach
abbrev pub is_passed_over : Event → Body → List Event → Bool
is_passed_over e NoFrame past = false
is_passed_over e (Empty channel) past = true
is_passed_over e (NoPerformative channel) past = awaits_end e.connection channel past
is_passed_over e (Says spoken) past =
    not (is_of_connection spoken.meaning)
    && (awaits_end e.connection spoken.channel past || is_on_detached e spoken.meaning past)

abbrev pub is_heard_body : Event → Body → List Event → Bool
is_heard_body e body past = not (is_over e.connection past || is_passed_over e body past)
