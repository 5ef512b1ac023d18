-- What the list of deliveries that may go on has, and what it answers.
use Rattle.std.specs.Prelude.{◌≡◌, ℕ, Bool, true, List, Some, drop, length, nat_eq}
use Rattle.number_groups.specs.Groups.{is_member}
use Rattle.trace_events.specs.Event.{Event, Link, Incoming, Outgoing}
use Rattle.trace_events.specs.Link.{IsLiveLink}
use Rattle.trace_events.specs.Incoming as incoming
use Rattle.trace_events.specs.Outgoing as outgoing
use Rattle.trace_events.specs.Outgoing.{in_progress, noted}
use Rattle.trace_duties.specs.Quiet.{stands_still}
use Rattle.trace_events.specs.View.{link_view}
use Rattle.number_groups.specs.Ascending.{has}
use Rattle.due_lists.specs.Standing.{IsGoing, has_window}
use Rattle.due_lists.specs.declared.parts.DuePart.{DuePart}
use Rattle.due_lists.specs.declared.parts.DeliveriesInProgress.{DeliveriesInProgress}

-- the link of this number stands among those of the session
abbrev pub stands : DeliveriesInProgress → ℕ → ℕ → Bool
stands parts session n = is_member nat_eq parts.of_session session n

-- it is a candidate
abbrev pub waits : DeliveriesInProgress → ℕ → Bool
waits parts n = has parts.links n

-- each link with a delivery in progress stands with its session, and is a candidate where that has window
abbrev pub HasParts : DeliveriesInProgress → List Event → Type 0
HasParts parts past = (l : Link) → IsGoing l past
    → (stands parts l.session.number l.number ≡ true) × (has_window l.session past ≡ true → waits parts l.number ≡ true)

-- on a live link that stands still, this is left of the delivery in progress, and the note is its note
pub record IsDuePart (part : DuePart) (past : List Event) : Type 0 where
  pub delivery : Outgoing
  pub carried : Incoming
  pub live : IsLiveLink (link_view part.link) past
  pub still : stands_still past (link_view part.link) ≡ true
  pub going : in_progress (link_view part.link) past ≡ Some delivery
  pub note : part.note ≡ delivery.note
  pub named : noted delivery.note past ≡ Some carried
  pub rest : part.rest.now ≡ drop (length (outgoing.payload delivery past)) (incoming.payload carried past)
