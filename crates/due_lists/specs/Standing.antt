-- The deliveries to consumers that are in progress, and those that may go on: on links whose session has window (part 2 of
-- the standard, sections 2.5.6 and 2.6.14).
use Rattle.std.specs.Prelude.{◌≡◌, Bool, true, false, List, Option, Some, None, is_some, nat_lt}
use Rattle.amqp_perf.specs.Meaning.{flag}
use Rattle.flow_counts.specs.declared.events.WindowEvent.{WindowEvent}
use Rattle.flow_counts.specs.declared.events.WindowEvent.TheVariants.{TheirFlow, Sent, OurFlow, Received}
use Rattle.trace_events.specs.Words.{is_some_and}
use Rattle.trace_events.specs.Event.{Event, Link}
use Rattle.trace_events.specs.declared.session.Session.{Session}
use Rattle.trace_events.specs.Said.{out_transfer}
use Rattle.trace_events.specs.Link.{IsLiveLink, is_consumer}
use Rattle.trace_events.specs.Outgoing.{in_progress}
use Rattle.trace_events.specs.Window.{session_window, window_event}
use Rattle.trace_duties.specs.Quiet.{stands_still}

-- a consumer's live link with a delivery in progress
pub record IsGoing (l : Link) (past : List Event) : Type 0 where
  pub live : IsLiveLink l past
  pub consumer : is_consumer l ≡ true
  pub going : is_some (in_progress l past) ≡ true

-- the session has window
abbrev pub has_window : Session → List Event → Bool
has_window s past = nat_lt 0 (session_window s past)

-- the event is a part of a delivery to a client, with more to come
abbrev pub goes_on : Event → Bool
goes_on e = is_some_and (out_transfer e) (λ fields. flag fields.more)

-- the event is a flow of the client, which may give window
abbrev pub is_their_flow : Option WindowEvent → Bool
is_their_flow (Some (TheirFlow expected window)) = true
is_their_flow (Some Sent) = false
is_their_flow (Some OurFlow) = false
is_their_flow (Some Received) = false
is_their_flow None = false

abbrev pub grants_window : Event → Bool
grants_window e = is_their_flow (window_event e.moment)

-- a live link on which a delivery may go on
pub record IsStill (l : Link) (past : List Event) : Type 0 where
  pub live : IsLiveLink l past
  pub still : stands_still past l ≡ true
