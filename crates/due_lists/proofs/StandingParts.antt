-- The deliveries in progress behind one more event, and the window of their sessions.
use Rattle.std.proofs.Common.{◌≡◌, refl, ap, ◌∙◌, ℕ, Bool, true, false, ◌⊎◌, inl, inr, List, ◌∷◌, Option, Some, None, is_some, nat_lt, if◌then◌else◌, ◌==◌, ltb-true, lt-ltb, arith}
use Rattle.std.specs.List.{cons_option}
use Rattle.capture_form.specs.Rules.{RuleSet}
use Rattle.flow_counts.specs.declared.events.WindowEvent.{WindowEvent}
use Rattle.flow_counts.specs.declared.events.WindowEvent.TheVariants.{TheirFlow, Sent, OurFlow, Received}
use Rattle.flow_counts.specs.Window as counts
use Rattle.trace_events.specs.Words.{is_some_and}
use Rattle.trace_events.specs.Event.{Event, Link, Outgoing, is_on_session}
use Rattle.trace_events.specs.declared.session.Session.{Session}
use Rattle.trace_events.specs.Session.{IsLiveOn}
use Rattle.trace_events.specs.Link.{own_link}
use Rattle.trace_events.specs.Outgoing.{in_progress}
use Rattle.trace_events.specs.Window.{window_event, window_events}
use Rattle.trace_events.proofs.OutgoingSteps.{is_part_on}
use Rattle.trace_events.specs.Clauses.{first_broken}
use Rattle.trace_events.proofs.Along.{and_first}
use Rattle.trace_events.proofs.Judged.{AreJudged}
use Rattle.trace_events.proofs.LinkNumbers.{own_link-number}
use Rattle.trace_events.proofs.ClausesMet.{lawful-past}
use Rattle.trace_events.proofs.OutgoingProgress.{judged-carrying, carrying-link}
use Rattle.due_lists.specs.Standing.{IsGoing, has_window, goes_on, is_their_flow, grants_window}
use Rattle.due_lists.proofs.LiveOnes.{link-before, link-found, event-session}

-- ---- the window of a session

-- only a flow of the client gives it
gains : (first begun : ℕ) (o : Option WindowEvent) (own : List WindowEvent) → nat_lt 0 (counts.window first begun (cons_option o own)) ≡ true
    → (is_their_flow o ≡ true) ⊎ (nat_lt 0 (counts.window first begun own) ≡ true)
gains first begun None own has = inr has
gains first begun (Some (TheirFlow expected window)) own has = inl refl
gains first begun (Some OurFlow) own has = inr has
gains first begun (Some Received) own has = inr has
gains first begun (Some Sent) own has =
    let lt = ltb-true 0 (counts.window first begun (Sent ∷ own)) has in
    inr (lt-ltb 0 (counts.window first begun own) (omega (arith, lt)))

module _ (rules : RuleSet) (e : Event) (past : List Event) (are : AreJudged rules (e ∷ past)) (s : Session) (live : IsLiveOn s (e ∷ past)) where
  on : (o : Option Session) → e.session ≡ o → is_some_and o (λ t. t.number == s.number) ≡ true → e.session ≡ Some s
  on None is same = absurd cc
  on (Some t) is same = is ∙ ap Some (event-session rules e past are s t live is same)

  -- a live session that has window had it before, or the event is its client's flow
  pub window-before : has_window s (e ∷ past) ≡ true → ((e.session ≡ Some s) × (grants_window e ≡ true)) ⊎ (has_window s past ≡ true)
  window-before has = by (is_on_session s e) refl has
    where
      by : (b : Bool) → is_on_session s e ≡ b → nat_lt 0 (counts.window s.our_first_id s.their_window (cons_option (if b then window_event e.moment else None) (window_events s past))) ≡ true
          → ((e.session ≡ Some s) × (grants_window e ≡ true)) ⊎ (has_window s past ≡ true)
      by false off has = inr has
      by true stands has = elim (gains s.our_first_id s.their_window (window_event e.moment) (window_events s past) has) [
        | inl flow ↦ inl (on e.session refl (and_first (is_some_and e.session (λ t. t.number == s.number)) (e.connection == s.connection) stands), flow)
        | inr had ↦ inr had
      ]

-- ---- deliveries in progress

-- the event is a part of a delivery on the link, and more follows
pub record IsPartOn (e : Event) (l : Link) : Type 0 where
  pub delivery : Outgoing
  pub is : e.outgoing ≡ Some delivery
  pub link : delivery.link ≡ l
  pub more : goes_on e ≡ true

some-is : {A : Type 0} (o : Option A) → is_some o ≡ true → (x : A) × (o ≡ Some x)
some-is None is = absurd cc
some-is (Some x) is = (x, refl)

module _ (rules : RuleSet) (e : Event) (past : List Event) (are : AreJudged rules (e ∷ past)) (lawful : first_broken rules (e ∷ past) ≡ None)
    (l : Link) (h : IsGoing l (e ∷ past)) where
  -- the event begins the delivery or goes on with it
  part : (j : Outgoing) → in_progress l (e ∷ past) ≡ Some j → e.outgoing ≡ Some j → goes_on e ≡ true → IsPartOn e l
  part j going is more = record {
    delivery = j;
    is = is;
    link = carrying-link rules (e ∷ past) l j are lawful (link-found rules (e ∷ past) are l h.live) going;
    more = more;
  }

  going-part : (more : Bool) → goes_on e ≡ more → (j : Outgoing) → in_progress l (e ∷ past) ≡ Some j → (if more then e.outgoing else None) ≡ Some j → IsPartOn e l
  going-part true more j going is = part j going is more
  going-part false more j going is = absurd cc

  -- none is in progress on a link that the event opens
  opened : {A : Type 0} → own_link e ≡ Some l → is_some (in_progress l past) ≡ true → A
  opened own was =
      let j = some-is (in_progress l past) was in
      let carrying = judged-carrying rules past are.1 (lawful-past rules e past lawful) l j.0 j.1 in
      let number = own_link-number rules e past l are own in
      absurd (omega (arith, number, carrying.0, carrying.1.linked.before))

  earlier : is_some (in_progress l past) ≡ true → IsGoing l past
  earlier was = elim (link-before rules e past are l h.live) [
    | inl own ↦ opened own was
    | inr live ↦ record { live = live; consumer = h.consumer; going = was }
  ]

  -- what is in progress was so before, or the event is a part of it
  pub going-before : IsPartOn e l ⊎ ((is_part_on l e ≡ false) × IsGoing l past)
  going-before =
      let j = some-is (in_progress l (e ∷ past)) h.going in
      by (is_part_on l e) refl j.0 j.1 j.1
    where
      by : (b : Bool) → is_part_on l e ≡ b → (j : Outgoing) → in_progress l (e ∷ past) ≡ Some j → (if b then (if goes_on e then e.outgoing else None) else in_progress l past) ≡ Some j
          → IsPartOn e l ⊎ ((is_part_on l e ≡ false) × IsGoing l past)
      by true on j going is = inl (going-part (goes_on e) refl j going is)
      by false apart j going is = inr (apart, earlier (ap is_some is))
