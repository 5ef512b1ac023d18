-- What the list of unsent copies has, and what it answers (own rules).
use Rattle.std.specs.Prelude.{◌≡◌, ℕ, true, false, List, Some}
use Rattle.capture_form.specs.Rules.{RuleSet}
use Rattle.trace_events.specs.Event.{Event, Link, Incoming}
use Rattle.trace_events.specs.Link.{IsLiveLink, is_consumer, link_at}
use Rattle.trace_events.specs.Incoming.{incoming_at, payload, completion}
use Rattle.trace_events.specs.Due.{is_unsent, has_unsent}
use Rattle.trace_events.specs.TransferClause.{may_take}
use Rattle.trace_duties.specs.Quiet.{has_earlier_unsent}
use Rattle.trace_events.specs.View.{link_view, incoming_view}
use Rattle.state_tables.specs.Copies.{AreCopies}
use Rattle.state_incoming.specs.EntryAnswers.{Knows}
use Rattle.state_incoming.specs.declared.deliveries.Deliveries.{Deliveries}
use Rattle.due_lists.specs.UnsentNumbers.{Waits, copy_on, stands}
use Rattle.due_lists.specs.declared.begin.DueBegin.{DueBegin}
use Rattle.due_lists.specs.declared.copies.UnsentCopies.{UnsentCopies}

-- a copy of the delivery is due to the live link, and not sent
pub record IsUnsentOn (rules : RuleSet) (l : Link) (d : Incoming) (past : List Event) : Type 0 where
  pub live : IsLiveLink l past
  pub found : incoming_at d.number past ≡ Some d
  pub unsent : is_unsent rules d l past ≡ true

-- what is listed is listed under the record that completed it; each unsent copy is, its link stands with its session, and is a
-- candidate where it may be sent a delivery
pub record HasUnsent (rules : RuleSet) (copies : UnsentCopies) (past : List Event) : Type 0 where
  pub are : AreCopies rules copies.copies past
  pub ranked : (link c n : ℕ) → copy_on copies.unsent link c ≡ Some n → (d : Incoming) → d.number ≡ n → completion d past ≡ Some c
  pub listed : (l : Link) (d : Incoming) → IsUnsentOn rules l d past → (c : ℕ) → completion d past ≡ Some c → copy_on copies.unsent l.number c ≡ Some d.number
  pub stands : (l : Link) (d : Incoming) → IsUnsentOn rules l d past → stands copies.unsent l.session.number l.number ≡ true
  pub waits : (l : Link) (d : Incoming) → IsUnsentOn rules l d past → may_take past l ≡ true → Waits copies.unsent l.number

-- the earliest unsent copy of a consumer's live link that may be sent a delivery
pub record IsDueCopy (rules : RuleSet) (copy : DueBegin) (past : List Event) : Type 0 where
  pub live : IsLiveLink (link_view copy.link) past
  pub at : link_at (link_view copy.link).number past ≡ Some (link_view copy.link)
  pub consumer : is_consumer (link_view copy.link) ≡ true
  pub found : incoming_at (incoming_view copy.delivery).number past ≡ Some (incoming_view copy.delivery)
  pub takes : may_take past (link_view copy.link) ≡ true
  pub unsent : is_unsent rules (incoming_view copy.delivery) (link_view copy.link) past ≡ true
  pub earliest : has_earlier_unsent rules past (link_view copy.link) (incoming_view copy.delivery) ≡ false
  pub payload : copy.payload.now ≡ payload (incoming_view copy.delivery) past

-- a live link with an unsent copy, which may be sent a delivery
pub record IsReady (rules : RuleSet) (l : Link) (past : List Event) : Type 0 where
  pub live : IsLiveLink l past
  pub takes : may_take past l ≡ true
  pub some : has_unsent rules l past ≡ true

-- a delivery that the table knows, of which a copy is unsent
pub record IsKnownCopy (rules : RuleSet) (table : Deliveries) (l : Link) (past : List Event) (d : Incoming) : Type 0 where
  pub known : Knows table d
  pub found : incoming_at d.number past ≡ Some d
  pub unsent : is_unsent rules d l past ≡ true
