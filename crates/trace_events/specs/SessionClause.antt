-- L2 and L13: begins and ends that the router writes.
use Rattle.std.specs.Prelude.{ℕ, Bool, ◌&&◌, ◌||◌, List, is_some, ◌==◌}
use Rattle.amqp_perf.specs.declared.begin.Begin.{Begin}
use Rattle.flow_counts.specs.declared.profile.TheConstants.{INCOMING_WINDOW}
use Rattle.trace_events.specs.Words.{is_number}
use Rattle.trace_events.specs.Event.{Event}
use Rattle.trace_events.specs.Session.{has_unanswered_begin, owes_end}

abbrev pub answers_begin : ℕ → ℕ → Begin → List Event → Bool
answers_begin c channel begin past =
    has_unanswered_begin c channel past && is_number begin.remote_channel channel
    && begin.incoming_window == INCOMING_WINDOW

abbrev pub may_end : Event → ℕ → List Event → Bool
may_end e channel past = is_some e.session || owes_end e.connection channel past
