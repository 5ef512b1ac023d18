-- Deliveries from clients that an event decides, and the one that it begins (own rules).
use Rattle.std.specs.Prelude.{ℕ, Bool, ◌&&◌, not, List, ◌∷◌, count_by}
use Rattle.capture_form.specs.Rules.{RuleSet}
use Rattle.trace_events.specs.Words.{is_some_and}
use Rattle.trace_events.specs.Event.{Event, Link, Incoming}
use Rattle.trace_events.specs.Incoming.{incoming_begun, incoming_deliveries, is_from}
use Rattle.trace_events.specs.Waiting.{is_undecided}

-- it was undecided, and behind the event it isn't
abbrev pub decides : RuleSet → Event → List Event → Incoming → Bool
decides rules e past d = is_undecided rules d past && not (is_undecided rules d (e ∷ past))

-- how many deliveries of the link the event decides
abbrev pub decided_count : RuleSet → Link → Event → List Event → ℕ
decided_count rules l e past = count_by (λ d. is_from l d && decides rules e past d) (incoming_deliveries past)

-- the event begins a delivery of the link, and doesn't decide it at once
abbrev pub begins_undecided : RuleSet → Link → Event → List Event → Bool
begins_undecided rules l e past = is_some_and (incoming_begun e) (λ d. is_from l d && is_undecided rules d (e ∷ past))
