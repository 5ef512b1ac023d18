-- What is left to be written while a step goes on, as a number (own rule): each frame that is due lessens it, so that a
-- step ends.
use Rattle.std.specs.Prelude.{ℕ, ◌+◌, ◌*◌, ◌-◌, not, List, filter, count_by}
use Rattle.std.specs.List.{sum_by}
use Rattle.flow_counts.specs.declared.profile.TheConstants.{CAPACITY}
use Rattle.trace_events.specs.Event.{Event, Link}
use Rattle.trace_events.specs.Session.{sessions_begun}
use Rattle.trace_events.specs.Link.{is_producer, is_consumer, links}
use Rattle.trace_events.specs.Window.{session_window}
use Rattle.trace_events.specs.Credit.{link_credit, given_credit}
use Rattle.trace_events.specs.Incoming.{incoming_deliveries, is_told}
use Rattle.trace_events.specs.Outgoing.{outgoing_deliveries, is_settled_by_router}
use Rattle.trace_duties.specs.Quiet.{lacks_window}

-- All sessions, links and deliveries are counted, also those that are over: what is left of them stays as it is.

abbrev pub to_consumers : List Event → List Link
to_consumers past = filter is_consumer (links past)

abbrev pub from_producers : List Event → List Link
from_producers past = filter is_producer (links past)

-- how many transfers may still go to clients, by the windows of their sessions
abbrev pub sendable : List Event → ℕ
sendable past = sum_by (λ s. session_window s past) (sessions_begun past)

-- how many sessions are to be given their window anew
abbrev pub lacking : List Event → ℕ
lacking past = count_by (lacks_window past) (sessions_begun past)

-- how much credit consumers have, which a drain answer uses up
abbrev pub drainable : List Event → ℕ
drainable past = sum_by (λ l. link_credit l past) (to_consumers past)

-- how much credit producers could be given
abbrev pub grantable : List Event → ℕ
grantable past = sum_by (λ l. CAPACITY - given_credit l past) (from_producers past)

-- of how many deliveries from clients no outcome was told
abbrev pub untold : List Event → ℕ
untold past = count_by (λ d. not (is_told d past)) (incoming_deliveries past)

-- how many deliveries to clients the router hasn't settled
abbrev pub unsettled : List Event → ℕ
unsettled past = count_by (λ j. not (is_settled_by_router j past)) (outgoing_deliveries past)

-- all of it; a transfer counts twice, since it may begin a delivery that is to be settled
abbrev pub work_left : List Event → ℕ
work_left past = 2 * sendable past + lacking past + drainable past + grantable past + untold past + unsettled past
