-- The deliveries to settle, in a lawful history: how one event moves them, whatever it is.
use Rattle.std.proofs.Common.{◌≡◌, refl, sym, ap, subst, ◌∙◌, Bool, true, false, not, ◌&&◌, ◌||◌, List, [], ◌∷◌, Option, Some, None, IfSome, is_some, filter, reverse, ◌==◌, eqb-true}
use Rattle.std.specs.Prelude.{Contains}
use Rattle.std.specs.List.{AllByRecursion}
use Rattle.capture_form.specs.Rules.{RuleSet}
use Rattle.trace_events.specs.Event.{Event, Incoming, Outgoing}
use Rattle.trace_events.specs.Link.{is_live}
use Rattle.trace_events.specs.Ends.{ends_link}
use Rattle.trace_events.specs.Outgoing.{outgoing_begun, outgoing_deliveries, decision, is_settled_by_consumer, is_settled_by_router}
use Rattle.trace_events.specs.Settling.{is_to_settle}
use Rattle.trace_events.specs.Work.{deliveries_to_settle, carries_closed, keeps_unsettled, comes_to_settle}
use Rattle.trace_events.proofs.Judged.{AreJudged}
use Rattle.trace_events.proofs.Links.{passing}
use Rattle.trace_events.proofs.OutgoingLinks.{decision-begun}
use Rattle.trace_events.proofs.SettlingSteps.{StandsOn, is_to_settle-step, deliveries_to_settle-step, deliveries_to_settle-stay}
use Rattle.trace_events.specs.Clauses.{first_broken}
use Rattle.trace_events.proofs.Parts.{all_such}
use Rattle.trace_events.proofs.BegunDeliveries.{IsBegun, begun-noted, begun-noted_later, judged-begun}
use Rattle.trace_events.proofs.LinkEnds.{is_live-next}
use Rattle.trace_events.proofs.WaitingQueue.{in_filter, filter_has, in_reverse, reverse_has}

never : (live by_consumer by_router closed : Bool) → live && false && by_consumer && by_router && closed ≡ false
never true by_consumer by_router closed = refl
never false by_consumer by_router closed = refl

module _ (rules : RuleSet) (e : Event) (past : List Event) (are : AreJudged rules (e ∷ past)) (lawful : first_broken rules past ≡ None) where
  -- a delivery that began before stands on its link, and on that of what it carries
  pub begun-stands_on : (j : Outgoing) → IsBegun past j → StandsOn e past j
  begun-stands_on j b =
      let d = b.delivery in
      let is = begun-noted past j b in
      record {
        live = is_live-next rules e past are j.link b.linked.at;
        noted_still = begun-noted_later rules e past are j b ∙ sym is;
        carried = subst (λ (o : Option Incoming). IfSome o (λ d. is_live (e ∷ past) d.link ≡ is_live past d.link && not (ends_link d.link e))) (sym is)
            (is_live-next rules e past are d.link b.kept.link.at);
      }

  -- one that begins with the event is not to be settled yet
  pub begun-not_to_settle : (j : Outgoing) → outgoing_begun e ≡ Some j → is_to_settle (e ∷ past) j ≡ false
  begun-not_to_settle j begun =
      let own = passing (λ (x : Outgoing). x.number == e.number) e.outgoing j begun in
      let none : decision j (e ∷ past) ≡ None = decision-begun rules e past j are (eqb-true j.number e.number own.1) in
      ap (λ o. is_live (e ∷ past) j.link && is_some o && not (is_settled_by_consumer j (e ∷ past)) && not (is_settled_by_router j (e ∷ past)) && carries_closed (e ∷ past) j) none
      ∙ never (is_live (e ∷ past) j.link) (not (is_settled_by_consumer j (e ∷ past))) (not (is_settled_by_router j (e ∷ past))) (carries_closed (e ∷ past) j)

  stand_on : AllByRecursion (StandsOn e past) (outgoing_deliveries past)
  stand_on = all_such (IsBegun past) (StandsOn e past) (outgoing_deliveries past) begun-stands_on (judged-begun rules past are.1 lawful)

  -- one that was to be settled, or comes to be, and that the event leaves unsettled
  pub is_to_settle_moves : (j : Outgoing) → IsBegun past j → is_to_settle (e ∷ past) j ≡ (is_to_settle past j || comes_to_settle e past j) && keeps_unsettled e j
  is_to_settle_moves j b = is_to_settle-step e past j (begun-stands_on j b)

  -- those that were to be settled, and those that come to be, but for those that the event settles or whose link it ends
  pub deliveries_to_settle_move : deliveries_to_settle (e ∷ past)
      ≡ filter (keeps_unsettled e) (filter (λ j. is_to_settle past j || comes_to_settle e past j) (reverse (outgoing_deliveries past)))
  deliveries_to_settle_move = deliveries_to_settle-step e past stand_on begun-not_to_settle

  -- where none comes
  pub deliveries_to_settle_stay : AllByRecursion (λ j. comes_to_settle e past j ≡ false) (outgoing_deliveries past) → deliveries_to_settle (e ∷ past) ≡ filter (keeps_unsettled e) (deliveries_to_settle past)
  deliveries_to_settle_stay none = deliveries_to_settle-stay e past stand_on begun-not_to_settle none

-- ---- which deliveries they are

pub listed_to_settle : (past : List Event) (j : Outgoing) → Contains (deliveries_to_settle past) j → Contains (outgoing_deliveries past) j × (is_to_settle past j ≡ true)
listed_to_settle past j listed =
    let h = in_filter (is_to_settle past) (reverse (outgoing_deliveries past)) j listed in
    (in_reverse (outgoing_deliveries past) j h.0, h.1)

pub to_settle_listed : (past : List Event) (j : Outgoing) → Contains (outgoing_deliveries past) j → is_to_settle past j ≡ true → Contains (deliveries_to_settle past) j
to_settle_listed past j known is = filter_has (is_to_settle past) (reverse (outgoing_deliveries past)) j is (reverse_has (outgoing_deliveries past) j known)
