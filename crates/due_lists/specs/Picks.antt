-- What is kept of the links of consumers for picks (own rules, after the message routing of the Qpid Dispatch Router).
use Rattle.std.specs.Prelude.{ℕ, Bool, ◌&&◌, List, [], ◌∷◌, ◌++◌, Option, Some, None, is_none, option_and_then, if◌then◌else◌}
use Rattle.flow_counts.specs.Picks.{AddressEvent}
use Rattle.address_table.specs.Links.{IsCount}
use Rattle.trace_events.specs.Event.{Event}
use Rattle.trace_events.specs.Link.{is_live}
use Rattle.trace_events.specs.Work.{decides_now}
use Rattle.state_outgoing.specs.Sent.{Sent}
use Rattle.trace_duties.specs.Consumers.{address_events}
use Rattle.due_lists.specs.AddressCounts.{decided_on}
use Rattle.due_lists.specs.declared.picks.Picks.{Picks}

-- the table has counted what happened to the links of consumers
abbrev pub ArePicks : Picks → List Event → Type 0
ArePicks picks past = IsCount picks.table (address_events past)

-- ---- what an event decides (part 2 of the standard, sections 2.6.12 and 2.7.6)

-- what the table of deliveries has of it says that the consumer decides it with the event
abbrev pub decides : Event → List Event → Sent → Bool
decides e past x = is_none x.decision && (is_live past x.delivery.link && decides_now e x.delivery)

-- the link of the delivery, if the event decides it
abbrev pub decided_link : Event → List Event → Option Sent → Option ℕ
decided_link e past o = option_and_then (λ x. if decides e past x then Some x.delivery.link.number else None) o

-- of the deliveries of these numbers those that the event decides, the first last
abbrev pub decided_among : Event → List Event → (ℕ → Option Sent) → List ℕ → List AddressEvent
decided_among e past kept [] = []
decided_among e past kept (n ∷ ns) = decided_on (decided_link e past (kept n)) ++ decided_among e past kept ns
