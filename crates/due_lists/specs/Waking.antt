-- The anycast deliveries that wait and may begin, and the events behind which one may that might not before (part 2 of the
-- standard, sections 2.5.6, 2.6.7 and 2.6.14).
use Rattle.std.specs.Prelude.{◌≡◌, true, false, List, Some}
use Rattle.capture_form.specs.Rules.{RuleSet}
use Rattle.trace_events.specs.Event.{Event, Link, Incoming, Outgoing}
use Rattle.trace_events.specs.Incoming.{address_of, incoming_at}
use Rattle.trace_events.specs.Link.{IsLiveLink, is_consumer}
use Rattle.trace_events.specs.Waiting.{is_waiting}
use Rattle.trace_events.specs.TransferClause.{may_take}
use Rattle.due_lists.specs.Standing.{goes_on, grants_window, has_window}

-- the delivery waits, and the live link of a consumer of its address may be sent one
pub record MayBegin (rules : RuleSet) (past : List Event) (d : Incoming) (l : Link) : Type 0 where
  pub found : incoming_at d.number past ≡ Some d
  pub waits : is_waiting rules d past ≡ true
  pub live : IsLiveLink l past
  pub consumer : is_consumer l ≡ true
  pub address : l.address ≡ address_of d past
  pub takes : may_take past l ≡ true

-- a flow of the client names the link, and may give it credit
pub record IsCredited (e : Event) (l : Link) : Type 0 where
  pub link : e.link ≡ Some l
  pub flow : grants_window e ≡ true

-- with the event the delivery in progress on the link ends
pub record IsFreed (e : Event) (l : Link) : Type 0 where
  pub delivery : Outgoing
  pub is : e.outgoing ≡ Some delivery
  pub link : delivery.link ≡ l
  pub last : goes_on e ≡ false

-- a flow of the client may give window to the link's session, which had none
pub record IsGranted (e : Event) (past : List Event) (l : Link) : Type 0 where
  pub session : e.session ≡ Some l.session
  pub live : IsLiveLink l past
  pub flow : grants_window e ≡ true
  pub shut : has_window l.session past ≡ false
