-- The links of producers that may be given more credit (part 2 of the standard, section 2.6.7; when: own rule), and the events
-- that may bring one there.
use Rattle.std.specs.Prelude.{◌≡◌, ℕ, Bool, true, false, List, Option, Some}
use Rattle.capture_form.specs.Rules.{RuleSet}
use Rattle.trace_events.specs.Words.{is_some_and}
use Rattle.trace_events.specs.Event.{Event, Link, Incoming}
use Rattle.trace_events.specs.Said.{in_disposition}
use Rattle.trace_events.specs.Address.{has_consumer}
use Rattle.trace_events.specs.Ends.{ends_link}
use Rattle.trace_events.specs.Incoming.{incoming_at}
use Rattle.trace_events.specs.Link.{IsLiveLink, is_consumer, is_producer, is_sender, opened_consumer}
use Rattle.trace_events.specs.Waiting.{has_waiting, is_undecided}
use Rattle.trace_events.specs.FlowClause.{may_be_topped_up}

-- a producer's live link
pub record IsProducing (l : Link) (past : List Event) : Type 0 where
  pub live : IsLiveLink l past
  pub producer : is_producer l ≡ true

-- which is to be given more credit
pub record IsToppable (rules : RuleSet) (l : Link) (past : List Event) : Type 0 where
  pub live : IsLiveLink l past
  pub producer : is_producer l ≡ true
  pub may : may_be_topped_up rules past l ≡ true

-- a producer's disposition stands on its session
abbrev pub settles : Event → Bool
settles e = is_some_and (in_disposition e) (λ fields. is_sender fields.role)

-- the event tells of, or carries, this undecided delivery of the link
pub record IsDecidedOn (rules : RuleSet) (past : List Event) (l : Link) (number : Option ℕ) : Type 0 where
  pub delivery : Incoming
  pub is : number ≡ Some delivery.number
  pub at : incoming_at delivery.number past ≡ Some delivery
  pub undecided : is_undecided rules delivery past ≡ true
  pub link : delivery.link ≡ l

-- the event opens the first consumer's link of the address
pub record IsServedFirst (e : Event) (past : List Event) (l : Link) : Type 0 where
  pub consumer : Link
  pub opened : opened_consumer e ≡ Some consumer
  pub address : consumer.address ≡ l.address
  pub unserved : has_consumer l.address past ≡ false

-- the event ends a consumer's link at whose address deliveries wait
pub record EndsWaited (rules : RuleSet) (e : Event) (past : List Event) : Type 0 where
  pub link : Link
  pub live : IsLiveLink link past
  pub ends : ends_link link e ≡ true
  pub consumer : is_consumer link ≡ true
  pub waits : has_waiting rules link.address past ≡ true
