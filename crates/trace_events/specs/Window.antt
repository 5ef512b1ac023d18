-- The windows of a session, as the counts of `flow_counts` over its own events (part 2 of the standard, section 2.5.6).
use Rattle.std.specs.Prelude.{ℕ, List, Option, Some, None, option_and_then, if◌then◌else◌}
use Rattle.std.specs.List.{filter_map}
use Rattle.amqp_perf.specs.Meaning.{Meaning, AFlow, ATransfer}
use Rattle.flow_counts.specs.declared.events.WindowEvent.{WindowEvent}
use Rattle.flow_counts.specs.declared.events.WindowEvent.TheVariants.{TheirFlow, Sent, OurFlow, Received}
use Rattle.flow_counts.specs.Window as counts
use Rattle.flow_counts.specs.GivenWindow as given
use Rattle.trace_events.specs.Frame.{spoken_in}
use Rattle.trace_events.specs.Event.{Event, Moment, In, Out, is_on_session}
use Rattle.trace_events.specs.declared.session.Session.{Session}

-- what a performative of the client moves: its flows and all its transfers count, also faulty ones and those that are
-- passed over on a handle whose detach is awaited
abbrev pub in_window_event : Meaning → Option WindowEvent
in_window_event (AFlow flow) = Some (TheirFlow flow.next_incoming_id flow.incoming_window)
in_window_event (ATransfer fields) = Some Received
in_window_event _ = None

abbrev pub out_window_event : Meaning → Option WindowEvent
out_window_event (AFlow flow) = Some OurFlow
out_window_event (ATransfer fields) = Some Sent
out_window_event _ = None

abbrev pub window_event : Moment → Option WindowEvent
window_event (In frame) = option_and_then (λ spoken. in_window_event spoken.meaning) (spoken_in frame.body)
window_event (Out frame) = option_and_then (λ spoken. out_window_event spoken.meaning) (spoken_in frame.body)
window_event _ = None

-- the session's own events, those that move its windows
abbrev pub window_events : Session → List Event → List WindowEvent
window_events s past = filter_map (λ e. if is_on_session s e then window_event e.moment else None) past

-- how many transfers may still go to the client
abbrev pub session_window : Session → List Event → ℕ
session_window s past = counts.window s.our_first_id s.their_window (window_events s past)

-- how many may still come from it
abbrev pub given_window : Session → List Event → ℕ
given_window s past = given.given_window (window_events s past)

-- the id of the next transfer to the client, and of the next one from it
abbrev pub next_outgoing_id : Session → List Event → ℕ
next_outgoing_id s past = counts.next_id s.our_first_id (window_events s past)

abbrev pub next_incoming_id : Session → List Event → ℕ
next_incoming_id s past = given.next_incoming_id s.their_first_id (window_events s past)
