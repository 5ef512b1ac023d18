-- Which deliveries from clients a table may let go: those of which nothing can come any more.
use Rattle.std.specs.Prelude.{◌≡◌, ℕ, Bool, true, false, ◌&&◌, ◌||◌, not, List, Some, Contains}
use Rattle.capture_form.specs.Rules.{RuleSet}
use Rattle.trace_events.specs.Due.{is_unsent}
use Rattle.trace_events.specs.Event.{Event, Link, Incoming, Outgoing}
use Rattle.trace_events.specs.Link.{IsLiveLink}
use Rattle.trace_events.specs.Outgoing.{is_sent, names, outgoing_deliveries}
use Rattle.trace_events.specs.Work.{stands_unsettled}
use Rattle.state_incoming.specs.Held.{Held, held_at, says_copied, says_paired}

-- a delivery to a client is finished: its last part is written, and it is not unsettled any more
abbrev pub is_finished : List Event → Outgoing → Bool
is_finished past j = is_sent j past && not (not j.link.is_pre_settled && stands_unsettled past j)

-- all that carries the delivery of this number is finished
abbrev pub AreFinished : ℕ → List Event → Type 0
AreFinished n past = (j : Outgoing) → Contains (outgoing_deliveries past) j → names n j.note ≡ true → is_finished past j ≡ true

-- no copy of it is to begin any more on a link that lives
abbrev pub HasAllCopies : RuleSet → Incoming → List Event → Type 0
HasAllCopies rules d past = (l : Link) → IsLiveLink l past → is_unsent rules d l past ≡ false

-- of anycast, it went to a consumer, and of multicast it is complete; and nothing more is to be told of it
abbrev pub is_spent : Held → Bool
is_spent x = (says_paired x.fate || says_copied x.fate) && x.is_closed

-- nothing can come of the delivery of this number any more
pub record IsOver (rules : RuleSet) (n : ℕ) (past : List Event) : Type 0 where
  pub entry : Held
  pub at : held_at rules n past ≡ Some entry
  pub spent : is_spent entry ≡ true
  pub finished : AreFinished n past
  pub copied : HasAllCopies rules entry.delivery past
