-- What a disposition covers and says (part 2 of the standard, section 2.7.6).
use Rattle.std.specs.Prelude.{ℕ, Bool, ◌||◌, Option, is_some}
use Rattle.flow_counts.specs.Covers.{covers}
use Rattle.amqp_perf.specs.Nested.{StateFields}
use Rattle.amqp_perf.specs.Meaning.{DispositionFields, flag, last_id}
use Rattle.trace_events.specs.Words.{is_some_and, where_passes}

-- the id of a delivery; one without id is covered by nothing
abbrev pub covers_id : DispositionFields → Option ℕ → Bool
covers_id fields id = is_some_and id (covers fields.first (last_id fields))

-- the outcome that it tells: a terminal state (part 3, section 3.4)
abbrev pub terminal_state : DispositionFields → Option StateFields
terminal_state fields = where_passes (λ state. is_some state.outcome) fields.state

-- it decides the deliveries that it covers
abbrev pub is_decisive : DispositionFields → Bool
is_decisive fields = flag fields.settled || is_some (terminal_state fields)
