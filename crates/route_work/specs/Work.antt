-- What the lists of a router's work have together, and that nothing is left of a kind.
use Rattle.std.specs.Prelude.{◌≡◌, true, List}
use Rattle.capture_form.specs.Rules.{RuleSet}
use Rattle.trace_events.specs.Event.{Event}
use Rattle.trace_duties.specs.Quiet.{none_waits_in_vain, none_stands_still, none_is_untold, none_lacks_credit, none_lacks_window, none_is_undrained, copies_are_sent, none_is_unsettled}
use Rattle.due_outcomes.specs.Untold.{HasUntold}
use Rattle.due_outcomes.specs.Unsettled.{HasUnsettled}
use Rattle.due_lists.specs.Parts.{HasParts}
use Rattle.due_lists.specs.Drains.{HasDrains}
use Rattle.due_lists.specs.Credits.{HasCredits}
use Rattle.due_lists.specs.Windows.{HasLacking}
use Rattle.due_lists.specs.Waiting.{HasWaiting}
use Rattle.due_lists.specs.Copies.{HasUnsent}
use Rattle.route_work.specs.declared.telling.Telling.{Telling}
use Rattle.route_work.specs.declared.sending.Sending.{Sending}
use Rattle.route_work.specs.declared.flowing.Flowing.{Flowing}
use Rattle.route_work.specs.declared.work.Work.{Work}

-- ---- all that is due is listed

pub record HasTelling (rules : RuleSet) (telling : Telling) (past : List Event) : Type 0 where
  pub untold : HasUntold rules telling.untold past
  pub unsettled : HasUnsettled telling.unsettled past

pub record HasSending (rules : RuleSet) (sending : Sending) (past : List Event) : Type 0 where
  pub parts : HasParts sending.parts past
  pub waiting : HasWaiting rules sending.waiting past
  pub copies : HasUnsent rules sending.copies past

pub record HasFlowing (rules : RuleSet) (flowing : Flowing) (past : List Event) : Type 0 where
  pub drains : HasDrains rules flowing.drains past
  pub credits : HasCredits rules flowing.credits past
  pub windows : HasLacking flowing.windows past

pub record HasWork (rules : RuleSet) (work : Work) (past : List Event) : Type 0 where
  pub telling : HasTelling rules work.telling past
  pub sending : HasSending rules work.sending past
  pub flowing : HasFlowing rules work.flowing past

-- ---- nothing is left

-- no outcome could be told, and no delivery is to be settled
pub record IsAllTold (rules : RuleSet) (past : List Event) : Type 0 where
  pub outcomes : none_is_untold rules past ≡ true
  pub settlings : none_is_unsettled past ≡ true

-- no delivery may go on or begin
pub record IsAllSent (rules : RuleSet) (past : List Event) : Type 0 where
  pub parts : none_stands_still past ≡ true
  pub waiting : none_waits_in_vain rules past ≡ true
  pub copies : copies_are_sent rules past ≡ true

-- no drain may be answered, and no credit or window is to be given
pub record IsAllGiven (rules : RuleSet) (past : List Event) : Type 0 where
  pub drains : none_is_undrained rules past ≡ true
  pub credits : none_lacks_credit rules past ≡ true
  pub windows : none_lacks_window past ≡ true
