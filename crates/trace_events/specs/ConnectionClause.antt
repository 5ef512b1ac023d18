-- L1: a frame that the router writes, on its connection.
use Rattle.std.specs.Prelude.{ℕ, Bool, ◌&&◌, ◌||◌, not, List, length, is_some, is_none, nat_le, if◌then◌else◌}
use Rattle.amqp_perf.specs.Meaning.{Meaning}
use Rattle.trace_events.specs.Frame.{Frame}
use Rattle.trace_events.specs.Event.{Event}
use Rattle.trace_events.specs.Said.{as_open}
use Rattle.trace_events.specs.Connection.{was_opened, was_finished, was_stopped, has_out_frame, frame_limit}
use Rattle.trace_events.specs.Heard.{is_of_connection}

-- the first frame that is written is an open, and no other is (part 2 of the standard, section 2.4.1)
abbrev pub is_open_in_place : ℕ → Meaning → List Event → Bool
is_open_in_place c meaning past =
    if has_out_frame c past then is_none (as_open meaning) else is_some (as_open meaning)

-- the connection was opened, and is neither lost nor closed by the router; behind the client's close or a broken stands
-- an open or a close alone
abbrev pub may_be_written : ℕ → Meaning → List Event → Bool
may_be_written c meaning past =
    was_opened c past && not (was_finished c past) && is_open_in_place c meaning past
    && (is_of_connection meaning || not (was_stopped c past))

-- within the longest frame that may be written
abbrev pub fits_limit : ℕ → Frame → List Event → Bool
fits_limit c frame past = nat_le (length frame.octets) (frame_limit c past)
