-- How many deliveries wait at an address (own rules).
use Rattle.std.specs.Prelude.{ℕ, ◌&&◌, List, count_by, bytes_eq}
use Rattle.capture_form.specs.Rules.{RuleSet}
use Rattle.trace_events.specs.Event.{Event}
use Rattle.trace_events.specs.Incoming.{address_of, incoming_deliveries}
use Rattle.trace_events.specs.Waiting.{is_waiting}

abbrev pub waiting_count : RuleSet → List ℕ → List Event → ℕ
waiting_count rules address past = count_by (λ d. bytes_eq (address_of d past) address && is_waiting rules d past) (incoming_deliveries past)
