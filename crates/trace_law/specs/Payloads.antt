-- The payload of a delivery, read backwards from its last octet.
use Rattle.std.specs.Prelude.{ℕ, Bool, List, [], ◌∷◌, ◌++◌, reverse, Option, Some, None, option_and_then, bytes_eq, if◌then◌else◌, ◌==◌}
use Rattle.trace_law.specs.declared.delivery.payload.Delivery.{Delivery}
use Rattle.trace_law.specs.declared.delivery.payload.Delivery.TheVariants.{Incoming, Outgoing}
use Rattle.trace_law.specs.declared.delivery.payload.Backward.{Backward}
use Rattle.trace_events.specs.Words.{is_some_and}
use Rattle.trace_events.specs.Event.{Event}
use Rattle.trace_events.specs.Said.{in_spoken, out_spoken}
use Rattle.trace_events.specs.Incoming.{part_payload}
use Rattle.trace_law.specs.OnStack.{events}

-- what an event adds to the delivery's payload
abbrev pub part_of : Delivery → Event → List ℕ
part_of (Incoming n) e = if is_some_and e.incoming (λ d. d.number == n) then part_payload (in_spoken e) else []
part_of (Outgoing n) e = if is_some_and e.outgoing (λ j. j.number == n) then part_payload (out_spoken e) else []

-- its payload, the last octet first
abbrev pub backward : Delivery → List Event → List ℕ
backward delivery [] = []
backward delivery (e ∷ past) = reverse (part_of delivery e) ++ backward delivery past

-- what a cursor has still to give, in this order
abbrev pub left : Backward → List ℕ
left cursor = reverse cursor.part.now ++ backward cursor.delivery (events cursor.rest.now)

-- the first octet, and what is behind it
abbrev pub first_octet : List ℕ → Option ℕ
first_octet [] = None
first_octet (octet ∷ rest) = Some octet

abbrev pub rest_octets : List ℕ → Option (List ℕ)
rest_octets [] = None
rest_octets (octet ∷ rest) = Some rest

-- without as many as the other has; none where it has fewer
abbrev pub without : List ℕ → List ℕ → Option (List ℕ)
without whole [] = Some whole
without [] (octet ∷ rest) = None
without (other ∷ whole) (octet ∷ rest) = without whole rest

-- both with the last octet first: the octets of the second are the first ones of the first
abbrev pub begins_with : List ℕ → List ℕ → Bool
begins_with whole so_far =
    is_some_and (option_and_then (without whole) (without whole so_far)) (λ front. bytes_eq front so_far)
