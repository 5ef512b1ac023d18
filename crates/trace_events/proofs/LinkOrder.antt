-- The order of completion on a link, in a lawful history: what one more event leaves of it.
use Rattle.std.proofs.Common.{◌≡◌, refl, sym, ap, subst, ◌∙◌, ◌⊎◌, inl, inr, List, [], ◌∷◌, length, Bool, true, false, Option, Some, None, find, option_and_then, if◌then◌else◌, ◌==◌, arith, eqb-true, ne_eqb}
use Rattle.std.specs.List.{AllByRecursion, cons_option}
use Rattle.pairing_cert.specs.declared.note.Note.TheVariants as notes
use Rattle.capture_form.specs.Rules.{RuleSet}
use Rattle.trace_events.specs.Words.{is_some_and, is_none_or}
use Rattle.trace_events.specs.Event.{Event, Link, Incoming, Outgoing}
use Rattle.trace_events.specs.Link as all
use Rattle.trace_events.specs.Link.{own_link, link_at}
use Rattle.trace_events.specs.Credit.{begins_outgoing}
use Rattle.trace_events.specs.Incoming.{address_of, completes, is_complete, completed_before}
use Rattle.trace_events.specs.Outgoing.{outgoing_begun, outgoing_deliveries, is_on, noted}
use Rattle.trace_events.proofs.Along.{and_then_some}
use Rattle.trace_events.proofs.Judged.{AreJudged}
use Rattle.trace_events.proofs.Links as links
use Rattle.trace_events.proofs.LinkNumbers.{own_link-number}
use Rattle.trace_events.proofs.OutgoingLinks.{IsOnEarlier, judged-on_earlier, deliveries-earlier_now}
use Rattle.trace_events.proofs.OutgoingSteps.{names_on}
use Rattle.trace_events.specs.Clauses.{first_broken}
use Rattle.trace_events.specs.TransferClause.{carried_before, is_in_order}
use Rattle.trace_events.proofs.BegunDeliveries.{begun-noted, begun-noted_later, begun-noted_now, begun-here, begun-own, begun-carries, begun-names, found-begun}
use Rattle.trace_events.proofs.ClausesMet.{lawful-past}
use Rattle.trace_events.proofs.CompletionOrder.{before-completed}
use Rattle.trace_events.proofs.WaitingQueue.{before_stays}

-- ---- the delivery that the last one begun on a link carries

none_or : {A : Type 0} (o : Option A) (test : A → Bool) → ((x : A) → o ≡ Some x → test x ≡ true) → is_none_or o test ≡ true
none_or None test each = refl
none_or (Some x) test each = each x refl

-- in order behind it
pub in_order-by : (l : Link) (past : List Event) (d : Incoming) → ((b : Incoming) → carried_before l past ≡ Some b → completed_before b d past ≡ true) → is_in_order l past d ≡ true
in_order-by l past d each = none_or (carried_before l past) (λ b. completed_before b d past) each

pub in_order-is : (l : Link) (past : List Event) (d b : Incoming) → is_in_order l past d ≡ true → carried_before l past ≡ Some b → completed_before b d past ≡ true
in_order-is l past d b order is = sym (ap (λ o. is_none_or o (λ b. completed_before b d past)) is) ∙ order

same_some : {A : Type 0} (a b : A) → Some a ≡ Some b → a ≡ b
same_some a b is = cc

-- it is complete, and of the link's address where the link is known
pub carried-begun : (rules : RuleSet) (past : List Event) → AreJudged rules past → first_broken rules past ≡ None → (l : Link) (b : Incoming) → carried_before l past ≡ Some b → is_complete b past ≡ true
carried-begun rules past are lawful l b is =
    let step = and_then_some (λ (j : Outgoing). noted j.note past) (find (is_on l) (outgoing_deliveries past)) b is in
    let begun = found-begun rules past are lawful (is_on l) step.0 step.1 in
    subst (λ (x : Incoming). is_complete x past ≡ true) (same_some begun.delivery b (sym (begun-noted past step.0 begun) ∙ step.2)) begun.complete

-- the event begins a delivery on the link, which carries this one
pub record BeginsWith (e : Event) (past : List Event) (l : Link) (b : Incoming) : Type 0 where
  pub delivery : Outgoing
  pub begun : outgoing_begun e ≡ Some delivery
  pub on : (delivery.link.number == l.number) ≡ true
  pub linked : links.IsKnown (e ∷ past) delivery.link
  pub named : e.note ≡ notes.Pair b.number
  pub is : noted e.note past ≡ Some b
  pub complete : is_complete b past ≡ true
  pub address : delivery.link.address ≡ address_of b past

module _ (rules : RuleSet) (e : Event) (past : List Event) (are : AreJudged rules (e ∷ past)) (lawful : first_broken rules (e ∷ past) ≡ None) (l : Link) (b : Incoming) where
  -- of one that began before, what it carries is what it carried
  carried_still : (j : Outgoing) → find (is_on l) (outgoing_deliveries past) ≡ Some j → noted j.note (e ∷ past) ≡ Some b → carried_before l past ≡ Some b
  carried_still j found is =
      let begun = found-begun rules past are.1 (lawful-past rules e past lawful) (is_on l) j found in
      let one : begun.delivery ≡ b = same_some begun.delivery b (sym (begun-noted_later rules e past are j begun) ∙ is) in
      ap (option_and_then (λ (j : Outgoing). noted j.note past)) found ∙ (begun-noted past j begun ∙ ap Some one)

  earlier_by : option_and_then (λ (j : Outgoing). noted j.note (e ∷ past)) (find (is_on l) (outgoing_deliveries past)) ≡ Some b → carried_before l past ≡ Some b
  earlier_by is =
      let step = and_then_some (λ (j : Outgoing). noted j.note (e ∷ past)) (find (is_on l) (outgoing_deliveries past)) b is in
      carried_still step.0 step.1 step.2

  begun_by : (j : Outgoing) → outgoing_begun e ≡ Some j → (here : Bool) → is_on l j ≡ here
      → option_and_then (λ (j : Outgoing). noted j.note (e ∷ past)) (if here then Some j else find (is_on l) (outgoing_deliveries past)) ≡ Some b
      → BeginsWith e past l b ⊎ (carried_before l past ≡ Some b)
  begun_by j begun true on is =
      let c = begun-carries rules e past are lawful j begun in
      let now = begun-here rules e past are lawful j begun in
      let one : c.delivery ≡ b = same_some c.delivery b (sym (begun-noted_now rules e past are lawful j begun) ∙ is) in
      inl (record {
        delivery = j;
        begun = begun;
        on = on;
        linked = now.linked;
        named = c.named ∙ ap (λ (x : Incoming). notes.Pair x.number) one;
        is = c.is ∙ ap Some one;
        complete = subst (λ (x : Incoming). is_complete x past ≡ true) one c.complete;
        address = c.address ∙ ap (λ (x : Incoming). address_of x past) one;
      })
  begun_by j begun false on is = inr (earlier_by is)

  carried_by : (o : Option Outgoing) → outgoing_begun e ≡ o
      → option_and_then (λ (j : Outgoing). noted j.note (e ∷ past)) (find (is_on l) (cons_option o (outgoing_deliveries past))) ≡ Some b
      → BeginsWith e past l b ⊎ (carried_before l past ≡ Some b)
  carried_by None none is = inr (earlier_by is)
  carried_by (Some j) begun is = begun_by j begun (is_on l j) refl is

  -- what the last one begun carries then, it carried before, or the event begins it
  pub carried-cases : carried_before l (e ∷ past) ≡ Some b → BeginsWith e past l b ⊎ (carried_before l past ≡ Some b)
  carried-cases is = carried_by (outgoing_begun e) refl is

  pub carried-complete : carried_before l (e ∷ past) ≡ Some b → is_complete b past ≡ true
  carried-complete is = elim (carried-cases is) [
    | inl here ↦ here.complete
    | inr before ↦ carried-begun rules past are.1 (lawful-past rules e past lawful) l b before
  ]

-- of a link that is known, it names that delivery there and no other
module _ (rules : RuleSet) (e : Event) (past : List Event) (are : AreJudged rules (e ∷ past)) (lawful : first_broken rules (e ∷ past) ≡ None) (l : Link) (b : Incoming)
    (at : link_at l.number (e ∷ past) ≡ Some l) (here : BeginsWith e past l b) where
  pub begins-link : here.delivery.link ≡ l
  begins-link =
      let j = here.delivery in
      same_some j.link l (sym here.linked.at ∙ (ap (λ n. link_at n (e ∷ past)) (eqb-true j.link.number l.number here.on) ∙ at))

  pub begins-address : l.address ≡ address_of b past
  begins-address = ap (λ (m : Link). m.address) (sym begins-link) ∙ here.address

  pub begins-on : e.link ≡ Some l
  begins-on = (begun-own rules e past are lawful here.delivery here.begun).1 ∙ ap Some begins-link

  pub begins : begins_outgoing e ≡ true
  begins =
      let own = links.passing (λ (x : Outgoing). x.number == e.number) e.outgoing here.delivery here.begun in
      ap (λ o. is_some_and o (λ (x : Outgoing). x.number == e.number)) own.0 ∙ own.1

  pub begins-names : (d : Incoming) → names_on d l e ≡ (b.number == d.number)
  begins-names d =
      let c = begun-carries rules e past are lawful here.delivery here.begun in
      let one : c.delivery ≡ b = same_some c.delivery b (sym c.is ∙ here.is) in
      ap (λ (m : Link). names_on d m e) (sym begins-link) ∙ (begun-names rules e past are lawful here.delivery here.begun d ∙ ap (λ (x : Incoming). x.number == d.number) one)

-- ---- on a link that opens with the event nothing has begun

none_on : (l : Link) (js : List Outgoing) → AllByRecursion (IsOnEarlier l.number) js → find (is_on l) js ≡ None
none_on l [] all = refl
none_on l (j ∷ js) all =
    let lt = all.0 in
    ap (λ b. if b then Some j else find (is_on l) js) (ne_eqb j.link.number l.number (λ same. omega (arith, same, lt))) ∙ none_on l js all.1

pub new-in_order : (rules : RuleSet) (e : Event) (past : List Event) → AreJudged rules (e ∷ past) → (l : Link) (d : Incoming) → l.number ≡ length past → is_in_order l (e ∷ past) d ≡ true
new-in_order rules e past are l d new =
    let all = subst (λ n. AllByRecursion (IsOnEarlier n) (outgoing_deliveries (e ∷ past))) (sym new) (deliveries-earlier_now e past (judged-on_earlier rules (e ∷ past) are)) in
    ap (λ o. is_none_or (option_and_then (λ (j : Outgoing). noted j.note (e ∷ past)) o) (λ b. completed_before b d (e ∷ past))) (none_on l (outgoing_deliveries (e ∷ past)) all)

-- a link is known before the event, or opens with it
pub link-cases : (rules : RuleSet) (e : Event) (past : List Event) → AreJudged rules (e ∷ past) → (l : Link) → link_at l.number (e ∷ past) ≡ Some l → (link_at l.number past ≡ Some l) ⊎ (l.number ≡ length past)
link-cases rules e past are l at = by (own_link e) refl at
  where
    test : (m : Link) → own_link e ≡ Some m → (b : Bool) → (m.number == l.number) ≡ b → (if b then Some m else link_at l.number past) ≡ Some l → (link_at l.number past ≡ Some l) ⊎ (l.number ≡ length past)
    test m own true same at = inr (sym (eqb-true m.number l.number same) ∙ own_link-number rules e past m are own)
    test m own false same at = inl at

    by : (o : Option Link) → own_link e ≡ o → find (λ (m : Link). m.number == l.number) (cons_option o (all.links past)) ≡ Some l → (link_at l.number past ≡ Some l) ⊎ (l.number ≡ length past)
    by None none at = inl at
    by (Some m) own at = test m own (m.number == l.number) refl at

-- ---- a step

module _ (rules : RuleSet) (e : Event) (past : List Event) (are : AreJudged rules (e ∷ past)) (lawful : first_broken rules (e ∷ past) ≡ None) (l : Link) (d : Incoming) where
  -- what the event completes is in order
  pub in_order-completed : completes d e ≡ true → is_in_order l (e ∷ past) d ≡ true
  in_order-completed here = in_order-by l (e ∷ past) d (λ b is. before-completed rules e past are b d (carried-complete rules e past are lawful l b is) here)

  -- what was in order stays so, unless the event begins a delivery on the link that carries one which was not completed before it
  pub in_order-stays : is_in_order l past d ≡ true → ((b : Incoming) → BeginsWith e past l b → completed_before b d past ≡ true) → is_in_order l (e ∷ past) d ≡ true
  in_order-stays order begun =
      in_order-by l (e ∷ past) d (λ b is. elim (carried-cases rules e past are lawful l b is) [
        | inl here ↦ before_stays rules e past are b d (begun b here)
        | inr before ↦ before_stays rules e past are b d (in_order-is l past d b order before)
      ])
