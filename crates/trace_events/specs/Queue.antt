-- Deliveries that wait, as the queue of their address (own rules).
use Rattle.std.specs.Prelude.{ℕ, Bool, ◌&&◌, not, List, ◌∷◌, filter, filter_map, reverse, bytes_eq}
use Rattle.capture_form.specs.Rules.{RuleSet}
use Rattle.trace_events.specs.Words.{is_some_and}
use Rattle.trace_events.specs.Event.{Event, Incoming}
use Rattle.trace_events.specs.Address.{has_consumer}
use Rattle.trace_events.specs.Incoming.{address_of, completed_by}
use Rattle.trace_events.specs.Outgoing.{outgoing_begun, names}
use Rattle.trace_events.specs.Waiting.{is_waiting}

-- a delivery to a client that carries it begins with the event
abbrev pub pairs : Incoming → Event → Bool
pairs d e = is_some_and (outgoing_begun e) (λ j. names d.number j.note)

-- behind the event its address still has a consumer, and the event doesn't pair it
abbrev pub stays : Event → List Event → Incoming → Bool
stays e past d = has_consumer (address_of d (e ∷ past)) (e ∷ past) && not (pairs d e)

-- all that are complete, the last completed first
abbrev pub completed_deliveries : List Event → List Incoming
completed_deliveries past = filter_map completed_by past

abbrev pub waits_at : RuleSet → List ℕ → List Event → Incoming → Bool
waits_at rules address past d = bytes_eq (address_of d past) address && is_waiting rules d past

-- those that wait at the address, in the order in which they were completed
abbrev pub waiting_queue : RuleSet → List ℕ → List Event → List Incoming
waiting_queue rules address past = reverse (filter (waits_at rules address past) (completed_deliveries past))
