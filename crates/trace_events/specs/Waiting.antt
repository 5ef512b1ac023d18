-- What becomes of a delivery from a client: whether it waits for a consumer, is gone, or is decided (own rules).
use Rattle.std.specs.Prelude.{ℕ, Bool, false, ◌&&◌, ◌||◌, not, List, [], ◌∷◌, count_by, bytes_eq, ◌==◌}
use Rattle.std.specs.List.{list_any}
use Rattle.capture_form.specs.Rules.{RuleSet}
use Rattle.trace_events.specs.Words.{is_number}
use Rattle.trace_events.specs.Event.{Event, Link, Incoming}
use Rattle.trace_events.specs.declared.session.Session.{Session}
use Rattle.trace_events.specs.Link.{is_live}
use Rattle.trace_events.specs.Address.{has_multicast, has_consumer}
use Rattle.trace_events.specs.Incoming.{address_of, incoming_deliveries, completes, is_complete, is_aborted, is_settled, is_told, is_from}
use Rattle.trace_events.specs.Outgoing.{is_paired}

-- asked of complete deliveries
abbrev pub is_of_multicast : RuleSet → Incoming → List Event → Bool
is_of_multicast rules d past = has_multicast rules (address_of d past)

-- at each moment since the delivery's completion its address had a consumer
abbrev pub always_had_consumer : Incoming → List Event → Bool
always_had_consumer d [] = false
always_had_consumer d (e ∷ past) =
    let earlier = always_had_consumer d past in has_consumer (address_of d (e ∷ past)) (e ∷ past) && (completes d e || earlier)

-- an anycast delivery that is complete, and that went to no consumer
abbrev pub is_unpaired : RuleSet → Incoming → List Event → Bool
is_unpaired rules d past = not (is_of_multicast rules d past) && is_complete d past && not (is_paired d past)

-- it waits for a consumer that may be sent it
abbrev pub is_waiting : RuleSet → Incoming → List Event → Bool
is_waiting rules d past = is_unpaired rules d past && always_had_consumer d past

-- it found no consumer, or lost the last one, and goes to none any more
abbrev pub is_gone : RuleSet → Incoming → List Event → Bool
is_gone rules d past = is_unpaired rules d past && not (always_had_consumer d past)

-- of a live link: it isn't complete, it waits, or it is neither settled nor told; an aborted one is decided
abbrev pub is_undecided : RuleSet → Incoming → List Event → Bool
is_undecided rules d past =
    is_live past d.link && not (is_aborted d past)
    && (not (is_complete d past) || is_waiting rules d past || not (is_settled d past || is_told d past))

abbrev pub undecided_count : RuleSet → Link → List Event → ℕ
undecided_count rules l past = count_by (λ d. is_from l d && is_undecided rules d past) (incoming_deliveries past)

-- the undecided delivery of this id on the session
abbrev pub is_undecided_of : RuleSet → Session → ℕ → List Event → Incoming → Bool
is_undecided_of rules s id past d = d.link.session.number == s.number && is_number d.id id && is_undecided rules d past

-- a delivery waits at the address
abbrev pub has_waiting : RuleSet → List ℕ → List Event → Bool
has_waiting rules address past =
    list_any (λ d. bytes_eq (address_of d past) address && is_waiting rules d past) (incoming_deliveries past)
