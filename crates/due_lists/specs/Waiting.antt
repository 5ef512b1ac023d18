-- What the list of deliveries that wait has, and what it answers (own rules, after the message routing of the Qpid Dispatch
-- Router).
use Rattle.std.specs.Prelude.{◌≡◌, ℕ, Bool, true, false, not, List, Option, Some, None, if◌then◌else◌}
use Rattle.capture_form.specs.Rules.{RuleSet}
use Rattle.trace_events.specs.Words.{is_some_and}
use Rattle.trace_events.specs.Event.{Event, Link, Incoming}
use Rattle.trace_events.specs.Incoming.{address_of, completed_before, incoming_at, payload}
use Rattle.trace_events.specs.Link.{IsLiveLink, is_consumer, link_at}
use Rattle.trace_duties.specs.Diligent.{is_next_waiting, is_picked_link}
use Rattle.trace_events.specs.View.{incoming_view, link_view}
use Rattle.due_lists.specs.Picks.{ArePicks}
use Rattle.due_lists.specs.Queues.{HaveQueues}
use Rattle.due_lists.specs.AddressesToTry.{is_to_try}
use Rattle.due_lists.specs.BySession.{stands}
use Rattle.due_lists.specs.Waking.{MayBegin}
use Rattle.due_lists.specs.declared.begin.DueBegin.{DueBegin}
use Rattle.due_lists.specs.declared.waiting.Waiting.{Waiting}

-- the picks and the queues are those of the events, each live link of a consumer stands with its session, and an address at
-- which a delivery may begin is to be looked at
pub record HasWaiting (rules : RuleSet) (waiting : Waiting) (past : List Event) : Type 0 where
  pub picks : ArePicks waiting.picks past
  pub queues : HaveQueues rules waiting.queues past
  pub stands : (l : Link) → IsLiveLink l past → is_consumer l ≡ true → stands waiting.links l.session.number l.number ≡ true
  pub to_try : (d : Incoming) (l : Link) → MayBegin rules past d l → is_to_try waiting.to_try (address_of d past) ≡ true

-- the delivery that comes next at its address, and the live link that is picked for it
pub record IsDueWaiting (rules : RuleSet) (due : DueBegin) (past : List Event) : Type 0 where
  pub live : IsLiveLink (link_view due.link) past
  pub at : link_at (link_view due.link).number past ≡ Some (link_view due.link)
  pub found : incoming_at (incoming_view due.delivery).number past ≡ Some (incoming_view due.delivery)
  pub payload : due.payload.now ≡ payload (incoming_view due.delivery) past
  pub next : is_next_waiting rules past (incoming_view due.delivery) ≡ true
  pub picked : is_picked_link rules past (incoming_view due.delivery) (link_view due.link) ≡ true

-- no delivery may begin at the address
abbrev pub NoneBegins : RuleSet → List Event → List ℕ → Type 0
NoneBegins rules past address = (d : Incoming) (l : Link) → MayBegin rules past d l → address_of d past ≡ address → ⊥

-- no delivery that may begin was completed before it
abbrev pub IsEarliest : RuleSet → DueBegin → List Event → Type 0
IsEarliest rules due past = (d : Incoming) (l : Link) → MayBegin rules past d l → completed_before d (incoming_view due.delivery) past ≡ false

-- there is one, and the delivery was not completed before it
abbrev pub is_ahead : List Event → Option DueBegin → Incoming → Bool
is_ahead past first d = is_some_and first (λ due. not (completed_before d (incoming_view due.delivery) past))

-- of two the one whose delivery was completed first
abbrev pub earlier_of : List Event → Option DueBegin → DueBegin → DueBegin
earlier_of past None b = b
earlier_of past (Some a) b = if completed_before (incoming_view b.delivery) (incoming_view a.delivery) past then b else a
