-- What lists that are empty leave of what is due in front of others.
use Rattle.std.proofs.Common.{◌≡◌, refl, Bool, true, ◌&&◌, List, Option, Some, None, IfSome}
use Rattle.capture_form.specs.Rules.{RuleSet}
use Rattle.capture_form.specs.declared.records.Record.{Record}
use Rattle.trace_events.specs.Event.{Event}
use Rattle.trace_events.specs.History.{history}
use Rattle.trace_events.proofs.Judged.{history-judged}
use Rattle.trace_events.specs.View.{incoming_view}
use Rattle.trace_duties.specs.Quiet.{none_stands_still, none_is_undrained, none_lacks_credit}
use Rattle.trace_duties.specs.Turn.{is_all_told, is_all_sent, is_all_drained, is_all_credited, is_first_to_begin}
use Rattle.due_lists.specs.Waiting.{IsEarliest}
use Rattle.due_lists.specs.declared.begin.DueBegin.{DueBegin}
use Rattle.due_lists.proofs.InVain.{first-begins}
use Rattle.route_work.specs.Work.{IsAllTold, IsAllSent}

pub both : (a b : Bool) → a ≡ true → b ≡ true → a && b ≡ true
both a b one other = rw (one, other) refl

module _ (rules : RuleSet) (past : List Event) (told : IsAllTold rules past) where
  pub all_told : is_all_told rules past ≡ true
  all_told = both _ _ told.outcomes told.settlings

  pub all_gone : none_stands_still past ≡ true → is_all_told rules past && none_stands_still past ≡ true
  all_gone parts = both _ _ all_told parts

  module _ (sent : IsAllSent rules past) where
    pub all_sent : is_all_sent rules past ≡ true
    all_sent = both _ _ (both _ _ (all_gone sent.parts) sent.waiting) sent.copies

    pub all_drained : none_is_undrained rules past ≡ true → is_all_drained rules past ≡ true
    all_drained drains = both _ _ all_sent drains

    pub all_credited : none_is_undrained rules past ≡ true → none_lacks_credit rules past ≡ true → is_all_credited rules past ≡ true
    all_credited drains credits = both _ _ (all_drained drains) credits

-- of the deliveries that wait the first is the earliest
pub earliest_first : (rules : RuleSet) (records : List Record) (o : Option DueBegin) → IfSome o (λ due. IsEarliest rules due (history rules records))
    → IfSome o (λ due. is_first_to_begin rules (history rules records) (incoming_view due.delivery) ≡ true)
earliest_first rules records None is = tt
earliest_first rules records (Some due) is = first-begins rules (history rules records) (history-judged rules records) (incoming_view due.delivery) is
