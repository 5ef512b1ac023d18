-- By which events nothing more is to be told of a delivery from a client, as far as their kind and its number tell.
use Rattle.std.specs.Prelude.{ℕ, Bool, ◌&&◌, ◌||◌, List, ◌==◌}
use Rattle.std.specs.List.{list_any}
use Rattle.amqp_perf.specs.Meaning.{DispositionFields, flag}
use Rattle.trace_events.specs.Words.{is_number, is_some_and}
use Rattle.trace_events.specs.Event.{Event, Link}
use Rattle.trace_events.specs.Link.{is_producer, is_sender}
use Rattle.trace_events.specs.Said.{in_disposition}

-- a disposition is of a producer, and settles
abbrev pub settles_sent : DispositionFields → Bool
settles_sent fields = is_sender fields.role && flag fields.settled

abbrev pub settles_ids : Event → Bool
settles_ids e = is_some_and (in_disposition e) settles_sent

-- the event tells the delivery of the number, is a part of it, settles deliveries by their ids, or ends a producer's link
abbrev pub may_close : Event → List Link → ℕ → Bool
may_close e ended n =
    settles_ids e || list_any is_producer ended || (is_number e.told n || is_some_and e.incoming (λ d. d.number == n))
