-- How many deliveries on a link to a client are unsettled (own rules).
use Rattle.std.specs.Prelude.{ℕ, ◌&&◌, List, count_by}
use Rattle.trace_events.specs.Event.{Event, Link}
use Rattle.trace_events.specs.Outgoing.{is_on, outgoing_deliveries}
use Rattle.state_outgoing.specs.Sent.{is_left_unsettled}

abbrev pub unsettled_count : Link → List Event → ℕ
unsettled_count l past = count_by (λ j. is_on l j && is_left_unsettled past j) (outgoing_deliveries past)
