-- The deliveries to settle with their consumers, as candidates (part 2 of the standard, section 2.6.12; own rules).
use Rattle.std.specs.Prelude.{◌≡◌, ℕ, Bool, true, false, ◌||◌, List, Option, Some, Contains, is_some}
use Rattle.trace_events.specs.Event.{Event, Incoming, Outgoing}
use Rattle.trace_events.specs.Outgoing.{decision, noted, outgoing_deliveries}
use Rattle.trace_events.specs.Settling.{is_closed, is_to_settle}
use Rattle.number_groups.specs.Ascending.{has}
use Rattle.state_incoming.specs.EntryAnswers.{is_shut}
use Rattle.state_incoming.specs.HeldTables.{held_in}
use Rattle.state_incoming.specs.declared.deliveries.Deliveries.{Deliveries}
use Rattle.state_outgoing.specs.Sent.{Sent, is_left_unsettled}
use Rattle.state_outgoing.specs.SentAnswers.{carried}
use Rattle.due_outcomes.specs.Parked.{is_parked}
use Rattle.due_outcomes.specs.declared.parked.Parked.{Parked}
use Rattle.due_outcomes.specs.declared.unsettled.Unsettled.{Unsettled}

-- its consumer has decided it
abbrev pub is_decided : List Event → Outgoing → Bool
is_decided past j = is_some (decision j past)

-- Every delivery that is to be settled is a candidate. So is each that is decided and still unsettled, or it is parked under
-- what it carries, of which more is to be told.
pub record HasUnsettled (unsettled : Unsettled) (past : List Event) : Type 0 where
  pub due : (j : Outgoing) → Contains (outgoing_deliveries past) j → is_to_settle past j ≡ true → has unsettled.candidates j.number ≡ true
  pub decided : (j : Outgoing) → Contains (outgoing_deliveries past) j → is_left_unsettled past j ≡ true → is_decided past j ≡ true → (d : Incoming) → noted j.note past ≡ Some d → is_closed past d ≡ false
      → has unsettled.candidates j.number || is_parked unsettled.parked d.number j.number ≡ true

-- the entry of the number is parked under what it carries, of which more is to be told
pub record IsParked (parked : Parked) (deliveries : Deliveries) (number : ℕ) (entry : Option Sent) : Type 0 where
  pub under : ℕ
  pub carries : carried entry ≡ Some under
  pub opens : is_shut (held_in deliveries under) ≡ false
  pub at : is_parked parked under number ≡ true
