-- The links of consumers, as the counts of `flow_counts` over their own events: what each event of a capture does to them.
use Rattle.std.specs.Prelude.{ℕ, Bool, ◌&&◌, not, List, [], ◌∷◌, ◌++◌, Option, Some, None, is_some, is_none, filter, map, if◌then◌else◌}
use Rattle.flow_counts.specs.Picks.{AddressEvent, Attached, Detached, Begun, Decided}
use Rattle.trace_events.specs.Event.{Event, Link, Outgoing}
use Rattle.trace_events.specs.Link.{is_consumer, is_live, own_link, links}
use Rattle.trace_events.specs.Credit.{begins_outgoing}
use Rattle.trace_events.specs.Outgoing.{outgoing_deliveries, decision}

-- the links that an event ends, by a detach, an end, a close, or the loss of the connection
abbrev pub detaches_consumer : Event → List Event → Link → Bool
detaches_consumer e past l = is_consumer l && is_live past l && not (is_live (e ∷ past) l)

abbrev pub detached_by : Event → List Event → List AddressEvent
detached_by e past = map (λ l. Detached l.number) (filter (detaches_consumer e past) (links past))

-- the deliveries that it decides
abbrev pub decides_outgoing : Event → List Event → Outgoing → Bool
decides_outgoing e past j = is_none (decision j past) && is_some (decision j (e ∷ past))

abbrev pub decided_by : Event → List Event → List AddressEvent
decided_by e past = map (λ j. Decided j.link.number) (filter (decides_outgoing e past) (outgoing_deliveries past))

-- the delivery that it begins
abbrev pub begun_on : Option Outgoing → ℕ → List AddressEvent
begun_on (Some j) number = Begun j.link.number number ∷ []
begun_on None number = []

abbrev pub begun_by : Event → List AddressEvent
begun_by e = if begins_outgoing e then begun_on e.outgoing e.number else []

-- the link that it opens
abbrev pub attached_as : Option Link → List AddressEvent
attached_as (Some l) = if is_consumer l then Attached l.number l.address l.is_pre_settled ∷ [] else []
attached_as None = []

-- all of them, the newest first; an event of a capture does only one of these
abbrev pub address_events : List Event → List AddressEvent
address_events [] = []
address_events (e ∷ past) =
    let earlier = address_events past in
    detached_by e past ++ (decided_by e past ++ (begun_by e ++ (attached_as (own_link e) ++ earlier)))
