-- The unsettled deliveries of which an event's consumer speaks are found.
use Rattle.std.proofs.Common.{◌≡◌, ◌∙◌, ℕ, true, List, Some, IfSome, is_some}
use Rattle.std.specs.Prelude.{Contains}
use Rattle.capture_form.specs.Rules.{RuleSet}
use Rattle.number_groups.specs.Numbers.{is_among}
use Rattle.trace_events.specs.Event.{Event, Outgoing}
use Rattle.trace_events.specs.Outgoing.{answering, outgoing_deliveries}
use Rattle.trace_events.proofs.Judged.{AreJudged}
use Rattle.state_outgoing.specs.Sent.{is_left_unsettled, sent}
use Rattle.state_outgoing.specs.SentTables.{IsTable, sent_in}
use Rattle.state_outgoing.specs.IdRanges.{IsCounted}
use Rattle.state_outgoing.specs.SentTouched.{is_spoken_of, spoken_ids}
use Rattle.state_outgoing.specs.declared.deliveries.SentDeliveries.{SentDeliveries}
use Rattle.state_outgoing.proofs.SentFound.{speaks}
use Rattle.state_outgoing.proofs.SentKept.{contained-at, unfinished-entry, unsettled-unfinished}

module _ (rules : RuleSet) (past : List Event) (are : AreJudged rules past) (table : SentDeliveries) (is_table : IsTable table past) (e : Event)
    (small : IfSome (spoken_ids e) IsCounted) (spoken : List ℕ) (among : (n : ℕ) → is_among spoken n ≡ is_spoken_of table.groups e n) where
  module _ (j : Outgoing) (has : Contains (outgoing_deliveries past) j) (opens : is_left_unsettled past j ≡ true) (says : is_some (answering j e) ≡ true) where
    entry : sent_in table j.number ≡ Some (sent past j)
    entry = unfinished-entry table past is_table j.number j (contained-at rules past are j has) (unsettled-unfinished past j opens)

    -- its own number is among those found
    pub speaks-among : is_among spoken j.number ≡ true
    speaks-among = among j.number ∙ speaks table.groups (sent_in table) is_table.groups j.number (sent past j) entry opens e small says
