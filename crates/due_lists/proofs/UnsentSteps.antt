-- A copy that is unsent behind one more event: it was before, or comes due with the event.
use Rattle.std.proofs.Common.{◌≡◌, refl, sym, ap, subst, ◌∙◌, ℕ, suc, ◌-◌, ◌≤◌, Bool, true, false, not, ◌&&◌, ◌||◌, inl, inr, List, [], ◌∷◌, length, Option, Some, None, IfSome, is_some, bytes_eq, nat_lt, if◌then◌else◌, ◌==◌, arith, eqb-true, eq-eqb, ltb-true}
use Rattle.std.specs.List.{list_any}
use Rattle.flow_counts.specs.Credit as counts
use Rattle.capture_form.specs.Rules.{RuleSet}
use Rattle.trace_events.specs.Words.{is_some_and, where_passes}
use Rattle.trace_events.specs.Event.{Event, Link, Incoming, is_on_link}
use Rattle.trace_events.specs.Said.{in_transfer, out_transfer}
use Rattle.trace_events.specs.Address.{has_multicast, is_consumer_of}
use Rattle.trace_events.specs.Credit.{link_credit, begun_count}
use Rattle.trace_events.specs.Due.{is_copied_to, makes_due, due_count, is_due, is_unsent}
use Rattle.trace_events.specs.Incoming.{address_of, is_last_part, completed_by, completes, is_complete, incoming_at, incoming_begun}
use Rattle.trace_events.specs.Link.{IsLiveLink, is_consumer, is_live}
use Rattle.trace_events.specs.Outgoing.{names, is_named_on}
use Rattle.trace_events.specs.Waiting.{is_of_multicast}
use Rattle.trace_events.proofs.Along.{and_first, and_last, some_passes}
use Rattle.trace_events.proofs.DueSteps.{is_unsent-stays}
use Rattle.trace_events.proofs.Judged.{AreJudged}
use Rattle.trace_events.proofs.LinkNumbers.{judged-found, own_link-number}
use Rattle.trace_events.proofs.Links as links
use Rattle.trace_events.proofs.OutgoingSteps.{names_on}
use Rattle.trace_events.proofs.SessionPlaces.{session-connection}
use Rattle.trace_events.proofs.StepWords.{and-false}
use Rattle.trace_events.specs.Clauses.{first_broken}
use Rattle.trace_events.proofs.IncomingProgress.{judged-kept}
use Rattle.trace_events.proofs.Incomings.{judged-sound}
use Rattle.trace_events.proofs.OneConsumer.{some-and, found-at}
use Rattle.trace_events.proofs.Parts.{IsKept, holds_some}
use Rattle.trace_events.proofs.Undecided.{link_of_session}
use Rattle.trace_events.proofs.UnsentCopies.{unsent_complete}
use Rattle.state_tables.specs.Addressed.{IsAddressed}
use Rattle.state_tables.specs.ConsumerLinks.{consumer_at}
use Rattle.state_tables.specs.Copies.{AreReceiversOf, AreReceivers, copied_by, names_at}
use Rattle.state_tables.specs.declared.copies.Receiver.{Receiver}
use Rattle.due_lists.proofs.DrainingLinks.{event-link, link-unused}
use Rattle.due_lists.proofs.LiveOnes.{link-before, link-found}
use Rattle.due_lists.proofs.PartsDue.{consumer-found}
use Rattle.due_lists.specs.UnsentNumbers.{receives}
use Rattle.due_lists.specs.Copies.{IsUnsentOn}

same_some : {A : Type 0} (a b : A) → Some a ≡ Some b → a ≡ b
same_some a b is = cc

-- ---- nothing is due to a link before its record

none-below : (n : ℕ) → nat_lt n 0 ≡ false
none-below n = by (nat_lt n 0) refl
  where
    by : (b : Bool) → nat_lt n 0 ≡ b → b ≡ false
    by false is = refl
    by true is = let lt = ltb-true n 0 is in absurd (omega (arith, lt))

both-off : (b : Bool) → (if b then false else false) ≡ false
both-off true = refl
both-off false = refl

pub none-due : (rules : RuleSet) (past : List Event) → AreJudged rules past → (l : Link) → length past ≤ suc l.number → (d : Incoming) → is_due rules d l past ≡ false
none-due rules [] are l later d = refl
none-due rules (e ∷ past) are l later d =
    ap (λ b. if completes d e then b else is_due rules d l past) makes
    ∙ (ap (λ b. if completes d e then false else b) (none-due rules past are.1 l (omega (arith, later)) d) ∙ both-off (completes d e))
  where
    credit : link_credit l past ≡ 0
    credit = ap (λ own. counts.credit l.our_first_count own) (link-unused rules past l are.1 (omega (arith, later)))

    makes : makes_due rules l e past (due_count rules l past) ≡ false
    makes =
        ap (λ n. is_copied_to rules l e past && nat_lt (due_count rules l past - begun_count l past) n) credit
        ∙ (ap (λ b. is_copied_to rules l e past && b) (none-below (due_count rules l past - begun_count l past)) ∙ and-false (is_copied_to rules l e past))

-- ---- receivers

completed_part : (b : Bool) (o : Option Incoming) (d : Incoming) → (if b then o else None) ≡ Some d → o ≡ Some d
completed_part true o d is = is
completed_part false o d is = absurd cc

any-first : (receivers : List Receiver) (link credit : ℕ) → list_any (λ (x : Receiver). x.link == link && (x.credit == credit)) receivers ≡ true → receives receivers link ≡ true
any-first [] link credit is = absurd cc
any-first (x ∷ xs) link credit is = by (x.link == link) (x.credit == credit) is (any-first xs link credit)
  where
    by : (a b : Bool) → (a && b) || list_any (λ (x : Receiver). x.link == link && (x.credit == credit)) xs ≡ true
        → (list_any (λ (x : Receiver). x.link == link && (x.credit == credit)) xs ≡ true → receives xs link ≡ true) → a || receives xs link ≡ true
    by true b is rest = refl
    by false b is rest = rest is

-- ---- one more event

-- the copy comes due with the event
pub record IsComing (e : Event) (receivers : List Receiver) (past : List Event) (l : Link) (d : Incoming) : Type 0 where
  pub part : e.incoming ≡ Some d
  pub receives : receives receivers l.number ≡ true
  pub at : consumer_at l.number past ≡ Some l

module _ (rules : RuleSet) (e : Event) (past : List Event) (are : AreJudged rules (e ∷ past)) (lawful : first_broken rules (e ∷ past) ≡ None)
    (l : Link) (d : Incoming) (h : IsUnsentOn rules l d (e ∷ past)) where
  due : is_due rules d l (e ∷ past) ≡ true
  due = and_first (is_due rules d l (e ∷ past)) (not (is_named_on d l (e ∷ past))) h.unsent

  pub lived : IsLiveLink l past
  lived = elim (link-before rules e past are l h.live) [
    | inl own ↦
        let number = own_link-number rules e past l are own in
        let never : false ≡ true = sym (none-due rules (e ∷ past) are l (omega (arith, number)) d) ∙ due in
        absurd cc
    | inr live ↦ live
  ]

  pub coming : (address : List ℕ) → IsAddressed e past address → (receivers : List Receiver) → AreReceivers rules address e past receivers → completes d e ≡ true → IsComing e receivers past l d
  coming address addressed receivers given here =
      let makes : makes_due rules l e past (due_count rules l past) ≡ true = sym (ap (λ b. if b then makes_due rules l e past (due_count rules l past) else is_due rules d l past) here) ∙ due in
      let copied : is_copied_to rules l e past ≡ true = and_first (is_copied_to rules l e past) (nat_lt (due_count rules l past - begun_count l past) (link_credit l past)) makes in
      let x = some-and (completed_by e) (λ x. is_of_multicast rules x (e ∷ past) && is_consumer_of (address_of x (e ∷ past)) past l) copied in
      let same : (x.0.number == d.number) ≡ true = sym (ap (λ o. is_some_and o (λ (other : Incoming). other.number == d.number)) x.1) ∙ here in
      let part = completed_part (is_some_and (in_transfer e) is_last_part) e.incoming x.0 x.1 in
      let kept = holds_some (IsKept (e ∷ past)) e.incoming x.0 part (judged-kept rules (e ∷ past) are).each.0 in
      let one : x.0 ≡ d = same_some x.0 d (sym kept.at ∙ (ap (λ n. incoming_at n (e ∷ past)) (eqb-true x.0.number d.number same) ∙ h.found)) in
      let for : address_of x.0 (e ∷ past) ≡ address = holds_some (λ (other : Incoming). address_of other (e ∷ past) ≡ address) (completed_by e) x.0 x.1 addressed in
      let held : has_multicast rules address && is_consumer_of address past l ≡ true = sym (ap (λ a. has_multicast rules a && is_consumer_of a past l) for) ∙ x.2 in
      let many = and_first (has_multicast rules address) (is_consumer_of address past l) held in
      let of = and_last (has_multicast rules address) (is_consumer_of address past l) held in
      let both = and_first (is_consumer l && bytes_eq l.address address) (is_live past l) of in
      let consumer = and_first (is_consumer l) (bytes_eq l.address address) both in
      let copy : copied_by rules address e ≡ Some x.0 = ap (where_passes (λ (other : Incoming). has_multicast rules address)) x.1 ∙ ap (λ b. if b then Some x.0 else None) many in
      let those : AreReceiversOf address past receivers = subst (λ (o : Option Incoming). IfSome o (λ other. AreReceiversOf address past receivers)) copy given in
      let at = link-found rules past are.1 l lived in
      let one_of : list_any (λ (x : Receiver). x.link == l.number && (x.credit == link_credit l past)) receivers ≡ true =
      those l.number (link_credit l past)
      ∙ (ap (λ o. is_some_and o (λ (m : Link). is_consumer_of address past m && (link_credit m past == link_credit l past))) at
      ∙ (ap (λ b. b && (link_credit l past == link_credit l past)) of ∙ eq-eqb (link_credit l past) (link_credit l past) refl)) in
      record {
        part = part ∙ ap Some one;
        receives = any-first receivers l.number (link_credit l past) one_of;
        at = consumer-found rules past are.1 l lived consumer;
      }

  -- it was unsent before, and the event does not name it
  module _ (none : completes d e ≡ false) where
    both : is_unsent rules d l past && not (names_on d l e) ≡ true
    both = sym (is_unsent-stays rules l e past d none) ∙ h.unsent

    pub was : IsUnsentOn rules l d past
    was = record {
      live = lived;
      found = elim (found-at rules e past are d.number d (incoming_begun e) refl h.found) [
        | inl before ↦ before
        | inr new ↦
            let complete = unsent_complete rules past d l (and_first (is_unsent rules d l past) (not (names_on d l e)) both) in
            let fresh : is_complete d past ≡ false = (judged-sound rules past are.1).fresh d (omega (arith, new)) in
            absurd cc
      ];
      unsent = and_first (is_unsent rules d l past) (not (names_on d l e)) both;
    }

    off : (b : Bool) → not b ≡ true → b ≡ false
    off false is = refl
    off true is = absurd cc

    unnamed : names_on d l e ≡ false
    unnamed = off (names_on d l e) (and_last (is_unsent rules d l past) (not (names_on d l e)) both)

    on_connection : e.link ≡ Some l → l.session.connection ≡ e.connection
    on_connection is = elim (links.of_kind rules past are.0.0 l (subst (λ (x : Event). x.link ≡ Some l) are.0.1 is)) [
      | inl opens ↦
          let own = links.opened_number rules past are.0.0 l opens (subst (λ (x : Event). x.link ≡ Some l) are.0.1 is) in
          let lt = (judged-found rules past are.1 l.number l (link-found rules past are.1 l lived)).1 in
          absurd (omega (arith, own, lt))
      | inr named ↦
          ap (λ s. s.connection) (link_of_session named.0 named.2.0 past l named.2.1).0
          ∙ (session-connection rules past are.0.0 named.0 named.1 ∙ sym (ap (λ (x : Event). x.connection) are.0.1))
    ]

    -- the link that the event names is this one where the number is
    on-own : is_some_and e.link (λ (m : Link). m.number == l.number) ≡ true → is_on_link l e ≡ true
    on-own on =
        let m = some_passes (λ (m : Link). m.number == l.number) e.link on in
        let own : e.link ≡ Some l = m.1 ∙ ap Some (event-link rules e past are l m.0 h.live m.1 m.2) in
        ap (λ b. b && (e.connection == l.session.connection)) on ∙ eq-eqb e.connection l.session.connection (sym (on_connection own))

    pub unlinked : is_on_link l e ≡ false → is_some_and e.link (λ (m : Link). m.number == l.number) ≡ false
    unlinked apart = by (is_some_and e.link (λ (m : Link). m.number == l.number)) refl
      where
        by : (b : Bool) → is_some_and e.link (λ (m : Link). m.number == l.number) ≡ b → b ≡ false
        by false is = refl
        by true is = let never : true ≡ false = sym (on-own is) ∙ apart in absurd cc

    pub not-named : names_at l.number d.number e ≡ false
    not-named = by (names_at l.number d.number e) refl
      where
        by : (b : Bool) → names_at l.number d.number e ≡ b → b ≡ false
        by false is = refl
        by true is =
            let written = and_first (is_some (out_transfer e)) (is_some_and e.link (λ (m : Link). m.number == l.number)) (and_first (is_some (out_transfer e) && is_some_and e.link (λ (m : Link). m.number == l.number)) (names d.number e.note) is) in
            let on = and_last (is_some (out_transfer e)) (is_some_and e.link (λ (m : Link). m.number == l.number)) (and_first (is_some (out_transfer e) && is_some_and e.link (λ (m : Link). m.number == l.number)) (names d.number e.note) is) in
            let named = and_last (is_some (out_transfer e) && is_some_and e.link (λ (m : Link). m.number == l.number)) (names d.number e.note) is in
            let stands = on-own on in
            let never : names_on d l e ≡ true = ap (λ b. b && names d.number e.note && is_on_link l e) written ∙ (ap (λ b. b && is_on_link l e) named ∙ stands) in
            sym never ∙ unnamed
