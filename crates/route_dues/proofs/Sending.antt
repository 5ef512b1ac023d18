-- What is to be sent may be: a delivery in progress goes on; a copy that is due begins; and the next delivery that waits
-- begins on the link that is picked.
use Rattle.std.proofs.Common.{◌≡◌, refl, sym, ap, subst, ◌∙◌, Bool, true, false, ◌&&◌, ◌||◌, not, List, length, Option, Some, None, is_some, nat_lt, ne_eqb, arith}
use Rattle.std.specs.Prelude.{is_none, Contains}
use Rattle.pairing_cert.specs.declared.note.Note.TheVariants as notes
use Rattle.capture_form.specs.Rules.{RuleSet}
use Rattle.trace_events.specs.Event.{Event, Link, Incoming, Outgoing}
use Rattle.trace_events.specs.Link.{link_at, is_consumer, IsLiveLink}
use Rattle.trace_events.specs.Window.{session_window}
use Rattle.trace_events.specs.Credit.{link_credit}
use Rattle.trace_events.specs.Incoming.{address_of, incoming_at, incoming_deliveries, is_complete, completed_before}
use Rattle.trace_events.specs.Outgoing.{in_progress, noted, is_paired}
use Rattle.trace_events.specs.Waiting.{is_of_multicast, is_waiting, always_had_consumer}
use Rattle.trace_events.specs.Address.{has_multicast}
use Rattle.trace_events.specs.Due.{is_unsent}
use Rattle.trace_events.proofs.Along.{and_first, and_last}
use Rattle.trace_events.proofs.Judged.{AreJudged, judged-born}
use Rattle.trace_events.proofs.StepWords.{and-false}
use Rattle.trace_events.proofs.FirstSent.{due_copy, GoesFirst, copy_goes_first, waiting_goes_first}
use Rattle.trace_events.proofs.IncomingProgress.{judged-kept}
use Rattle.trace_events.proofs.Parts.{IsKept, each_delivery}
use Rattle.trace_events.proofs.WaitingQueue.{all_contained}
use Rattle.trace_events.proofs.LinkEnds.{lives-live}
use Rattle.trace_events.proofs.OutgoingProgress.{judged-carrying, carrying-noted, carrying-not_gone, carrying-link}
use Rattle.trace_events.specs.TransferClause.{is_in_order, may_take}
use Rattle.trace_duties.specs.Quiet.{stands_still, has_earlier_unsent}
use Rattle.trace_duties.specs.Diligent.{is_next_waiting, is_picked_link, all_keep}
use Rattle.trace_duties.specs.Order.{CopiesInOrder}
use Rattle.trace_duties.proofs.PicksInOrder.{kept_in_order, none-before}
use Rattle.route_dues.specs.Writing.{IsLawful, MayFollow}
use Rattle.route_dues.specs.Transfers.{first_frame, next_frame}
use Rattle.route_answers.proofs.Words.{or_left, or_right, both}
use Rattle.route_dues.proofs.Connections.{lawful_judged}
use Rattle.route_dues.proofs.LiveLinks.{live_found, live_lives}
use Rattle.route_dues.proofs.PartsFollow.{first_follows, next_follows}
use Rattle.route_dues.proofs.Picked.{is_picked-link}

same_some : {A : Type 0} (a b : A) → Some a ≡ Some b → a ≡ b
same_some a b is = cc

-- ---- a delivery goes on

module _ (rules : RuleSet) (past : List Event) (l : Link) (d : Incoming) (j : Outgoing) (lawful : IsLawful rules past) (live : IsLiveLink l past)
    (stands : stands_still past l ≡ true) (going : in_progress l past ≡ Some j) (named : noted j.note past ≡ Some d) where
  pub goes_on : MayFollow rules past l.session.connection j.note (next_frame past l d j)
  goes_on =
      let are = lawful_judged rules past lawful in
      let c = (judged-carrying rules past are lawful.unbroken l j going).1 in
      let on = carrying-link rules past l j are lawful.unbroken (live_found rules past are l live) going in
      let one : c.delivery ≡ d = same_some c.delivery d (sym (carrying-noted past j c) ∙ named) in
      let below = c.below in
      subst (λ note. MayFollow rules past l.session.connection note (next_frame past l d j)) (sym c.named)
      (subst (λ (x : Incoming). MayFollow rules past l.session.connection (notes.Pair c.delivery.number) (next_frame past l x j)) one
      (next_follows rules past l c.delivery lawful (record {
        live = live;
        consumes = and_first (is_consumer l) (is_some (in_progress l past)) (and_first (is_consumer l && is_some (in_progress l past)) (nat_lt 0 (session_window l.session past)) stands);
        window = and_last (is_consumer l && is_some (in_progress l past)) (nat_lt 0 (session_window l.session past)) stands;
        known = c.found;
        complete = c.complete;
        stays = carrying-not_gone rules past j c;
        address = sym c.address ∙ ap (λ (k : Link). k.address) on;
      }) j going (ne_eqb j.number (length past) (λ same. omega (arith, same, below))) c.named c.carried))

-- ---- a delivery begins

none_of : {A : Type 0} (o : Option A) → is_none o ≡ true → o ≡ None
none_of None is = refl
none_of (Some x) is = absurd cc

module _ (rules : RuleSet) (past : List Event) (l : Link) (d : Incoming) (lawful : IsLawful rules past) (live : IsLiveLink l past) (consumes : is_consumer l ≡ true)
    (found : incoming_at d.number past ≡ Some d) (takes : may_take past l ≡ true) where
  begin_by : GoesFirst rules l past d → address_of d past ≡ l.address → is_in_order l past d ≡ true → has_earlier_unsent rules past l d ≡ false → is_of_multicast rules d past || is_next_waiting rules past d && is_picked_link rules past d l ≡ true
      → MayFollow rules past l.session.connection (notes.Pair d.number) (first_frame past l d)
  begin_by goes address order earliest picked =
      let counts = and_first (nat_lt 0 (link_credit l past) && nat_lt 0 (session_window l.session past)) (is_none (in_progress l past)) takes in
      first_follows rules past l d lawful (judged-born rules past (lawful_judged rules past lawful)) (record {
        carries = record {
          live = live;
          consumes = consumes;
          window = and_last (nat_lt 0 (link_credit l past)) (nat_lt 0 (session_window l.session past)) counts;
          known = found;
          complete = goes.complete;
          stays = goes.whole;
          address = address;
        };
        none = none_of (in_progress l past) (and_last (nat_lt 0 (link_credit l past) && nat_lt 0 (session_window l.session past)) (is_none (in_progress l past)) takes);
        credit = and_first (nat_lt 0 (link_credit l past)) (nat_lt 0 (session_window l.session past)) counts;
        first = goes.first;
        order = order;
        earliest = earliest;
        picked = picked;
      })

  -- a copy
  pub copy_begins : CopiesInOrder rules past → is_unsent rules d l past ≡ true → has_earlier_unsent rules past l d ≡ false → MayFollow rules past l.session.connection (notes.Pair d.number) (first_frame past l d)
  copy_begins order unsent earliest =
      let are = lawful_judged rules past lawful in
      let copy = due_copy rules past are l d found (and_first _ _ unsent) in
      begin_by (copy_goes_first rules past are l d found unsent) copy.address
      (order l d (live_found rules past are l live) (live_lives past l live) unsent) earliest
      (or_left (is_of_multicast rules d past) (is_next_waiting rules past d && is_picked_link rules past d l) copy.multicast)

-- a link that carries anycast deliveries has no copies to send
waits-alone : (many complete paired had : Bool) → not many && complete && not paired && had ≡ true → many ≡ false
waits-alone false complete paired had is = refl
waits-alone true complete paired had is = absurd cc

no_copies : (rules : RuleSet) (past : List Event) → AreJudged rules past → (l : Link) (d : Incoming) → address_of d past ≡ l.address → is_waiting rules d past ≡ true → has_earlier_unsent rules past l d ≡ false
no_copies rules past are l d at waits = none-before (λ (x : Incoming). completed_before x d past && is_unsent rules x l past) (incoming_deliveries past) (λ x there. by x there (is_unsent rules x l past) refl)
  where
    by : (x : Incoming) → Contains (incoming_deliveries past) x → (b : Bool) → is_unsent rules x l past ≡ b → completed_before x d past && b ≡ false
    by x there false unsent = and-false (completed_before x d past)
    by x there true unsent =
        let kept = all_contained (IsKept past) (incoming_deliveries past) x (each_delivery (IsKept past) past (judged-kept rules past are).each) there in
        let copy = due_copy rules past are l x kept.at (and_first _ _ unsent) in
        let alone : is_of_multicast rules d past ≡ false = waits-alone (is_of_multicast rules d past) (is_complete d past) (is_paired d past) (always_had_consumer d past) waits in
        let many : is_of_multicast rules d past ≡ true = ap (has_multicast rules) (at ∙ sym copy.address) ∙ copy.multicast in
        let never : true ≡ false = sym many ∙ alone in
        absurd cc

-- the next one of those that wait
module _ (rules : RuleSet) (past : List Event) (l : Link) (d : Incoming) (lawful : IsLawful rules past) (keeps : all_keep rules past ≡ true) (at : link_at l.number past ≡ Some l)
    (found : incoming_at d.number past ≡ Some d) (next : is_next_waiting rules past d ≡ true) (picked : is_picked_link rules past d l ≡ true) where
  pub next_begins : MayFollow rules past l.session.connection (notes.Pair d.number) (first_frame past l d)
  next_begins =
      let are = lawful_judged rules past lawful in
      let is = is_picked-link rules past are d l at picked in
      let waits = and_first (is_waiting rules d past) _ next in
      begin_by rules past l d lawful (lives-live rules past are l at is.lives) is.consumes found is.takes
      (waiting_goes_first rules past l d waits) is.address
      (kept_in_order rules past are lawful.unbroken keeps l d at found is.address waits) (no_copies rules past are l d is.address waits)
      (or_right (is_of_multicast rules d past) (is_next_waiting rules past d && is_picked_link rules past d l) (both (is_next_waiting rules past d) (is_picked_link rules past d l) next picked))
