-- What is left behind an event of the router's own: no part of it grows, but for a delivery that begins.
use Rattle.std.proofs.Common.{◌≡◌, refl, sym, ap, subst, ◌∙◌, ℕ, ◌+◌, ◌-◌, ◌≤◌, ◌<◌, Bool, true, false, cond, not, inl, inr, List, [], ◌∷◌, length, Option, Some, None, filter, if◌then◌else◌, ◌==◌, eqb-true, arith}
use Rattle.std.specs.Prelude.{Contains, count_by}
use Rattle.std.specs.List.{sum_by, cons_option, AllByRecursion}
use Rattle.std.proofs.lemmas.List.Sums.{sum_by-cons}
use Rattle.capture_form.specs.Rules.{RuleSet}
use Rattle.flow_counts.specs.declared.profile.TheConstants.{CAPACITY}
use Rattle.flow_counts.specs.declared.events.WindowEvent.TheVariants as windows
use Rattle.flow_counts.specs.Credit.{LinkEvent, OurFlow}
use Rattle.flow_counts.specs.Credit as credits
use Rattle.flow_counts.specs.GivenCredit as given
use Rattle.flow_counts.specs.Window as counts
use Rattle.trace_events.specs.Words.{is_some_and, is_number}
use Rattle.trace_events.specs.Event.{Event, Link, Incoming, Outgoing, is_on_session, is_on_link}
use Rattle.trace_events.specs.declared.session.Session.{Session}
use Rattle.trace_events.specs.Session.{own_session, sessions_begun}
use Rattle.trace_events.specs.Link.{is_producer, is_consumer, links, link_at, own_link}
use Rattle.trace_events.specs.Window.{session_window, window_event, window_events}
use Rattle.trace_events.specs.Credit.{link_credit, given_credit, link_event, link_events}
use Rattle.trace_events.specs.Incoming.{incoming_begun, incoming_deliveries, is_told}
use Rattle.trace_events.specs.Outgoing.{outgoing_begun, outgoing_deliveries, is_settled_by_router}
use Rattle.trace_events.proofs.Along.{and_first}
use Rattle.trace_events.proofs.Judged.{AreJudged}
use Rattle.trace_events.proofs.LinkNumbers.{links-found}
use Rattle.trace_events.proofs.Links.{IsKnown}
use Rattle.trace_events.proofs.WaitingQueue.{contains_none, contains_cases, in_filter}
use Rattle.trace_duties.specs.Quiet.{lacks_window}
use Rattle.route_dues.specs.Work.{to_consumers, from_producers, sendable, lacking, drainable, grantable, untold, unsettled}
use Rattle.route_dues.proofs.OwnCounts.{IsOurs, IsOurCredit, window-most, window-less, lacks, lacks-most, lacks-less, credit-most, credit-less, short-most, short-less}
use Rattle.route_dues.proofs.Sums.{sum-most, sum-less, absent-most, absent-less, no_more}

-- the event is of the router's own, opens no session and no link, and begins no delivery of a client
pub record IsOwn (e : Event) : Type 0 where
  pub no_session : own_session e ≡ None
  pub no_link : own_link e ≡ None
  pub no_incoming : incoming_begun e ≡ None
  pub windows : IsOurs (window_event e.moment)
  pub credits : IsOurCredit (link_event e e.moment)

same_some : {A : Type 0} (a b : A) → Some a ≡ Some b → a ≡ b
same_some a b is = cc

all_in : {A : Type 0} (P : A → Type 0) (xs : List A) (x : A) → AllByRecursion P xs → Contains xs x → P x
all_in P [] x all there = contains_none x there
all_in P (y ∷ ys) x all there = elim (contains_cases y ys x there) [
  | inl same ↦ subst P same all.0
  | inr later ↦ all_in P ys x all.1 later
]

-- the link of an event that has the number of one of the links is that one
pub on-known : (rules : RuleSet) (past : List Event) → AreJudged rules past → (e : Event) (m : Link) → e.link ≡ Some m → IsKnown past m
    → (l : Link) → Contains (links past) l → is_on_link l e ≡ true → m ≡ l
on-known rules past are e m is known l there on =
    let at = (all_in (λ k. (link_at k.number past ≡ Some k) × (k.number < length past)) (links past) l (links-found rules past are) there).0 in
    let same : (m.number == l.number) ≡ true =
    sym (ap (λ o. is_some_and o (λ (k : Link). k.number == l.number)) is) ∙ and_first (is_some_and e.link (λ k. k.number == l.number)) (e.connection == l.session.connection) on in
    same_some m l (sym known.at ∙ (ap (λ n. link_at n past) (eqb-true m.number l.number same) ∙ at))

module _ (e : Event) (past : List Event) (own : IsOwn e) where
  -- ---- sessions

  window-kept : (s : Session) → Contains (sessions_begun past) s → session_window s (e ∷ past) ≤ session_window s past
  window-kept s there = window-most s.our_first_id s.their_window (window_event e.moment) (window_events s past) own.windows (is_on_session s e)

  same_sendable : sendable (e ∷ past) ≡ sum_by (λ s. session_window s (e ∷ past)) (sessions_begun past)
  same_sendable = ap (λ o. sum_by (λ s. session_window s (e ∷ past)) (cons_option o (sessions_begun past))) own.no_session

  pub sendable-most : sendable (e ∷ past) ≤ sendable past
  sendable-most =
      subst (λ n. n ≤ sendable past) (sym same_sendable)
      (sum-most (λ s. session_window s (e ∷ past)) (λ s. session_window s past) (sessions_begun past) window-kept)

  -- a transfer takes one of its session's window
  pub sendable-less : window_event e.moment ≡ Some windows.Sent → (s : Session) → Contains (sessions_begun past) s → is_on_session s e ≡ true → 1 ≤ session_window s past
      → sendable (e ∷ past) < sendable past
  sendable-less sends s there on has =
      subst (λ n. n < sendable past) (sym same_sendable)
      (sum-less (λ s. session_window s (e ∷ past)) (λ s. session_window s past) (sessions_begun past) window-kept s there
      (subst (λ o. counts.window s.our_first_id s.their_window (cons_option (if is_on_session s e then o else None) (window_events s past)) < session_window s past) (sym sends)
      (window-less s.our_first_id s.their_window (window_events s past) (is_on_session s e) on has)))

  lacks-kept : (s : Session) → Contains (sessions_begun past) s → cond (lacks_window (e ∷ past) s) 1 0 ≤ cond (lacks_window past s) 1 0
  lacks-kept s there = lacks-most (window_event e.moment) (window_events s past) own.windows (is_on_session s e)

  same_lacking : lacking (e ∷ past) ≡ count_by (lacks_window (e ∷ past)) (sessions_begun past)
  same_lacking = ap (λ o. count_by (lacks_window (e ∷ past)) (cons_option o (sessions_begun past))) own.no_session

  pub lacking-most : lacking (e ∷ past) ≤ lacking past
  lacking-most =
      subst (λ n. n ≤ lacking past) (sym same_lacking)
      (sum-most (λ s. cond (lacks_window (e ∷ past) s) 1 0) (λ s. cond (lacks_window past s) 1 0) (sessions_begun past) lacks-kept)

  -- a flow gives its session the window anew
  pub lacking-less : window_event e.moment ≡ Some windows.OurFlow → (s : Session) → Contains (sessions_begun past) s → is_on_session s e ≡ true → lacks_window past s ≡ true
      → lacking (e ∷ past) < lacking past
  lacking-less flows s there on low =
      subst (λ n. n < lacking past) (sym same_lacking)
      (sum-less (λ s. cond (lacks_window (e ∷ past) s) 1 0) (λ s. cond (lacks_window past s) 1 0) (sessions_begun past) lacks-kept s there
      (subst (λ o. cond (lacks (cons_option (if is_on_session s e then o else None) (window_events s past))) 1 0 < cond (lacks_window past s) 1 0) (sym flows)
      (lacks-less (window_events s past) (is_on_session s e) on low)))

  -- ---- links

  credit-kept : (l : Link) → Contains (to_consumers past) l → link_credit l (e ∷ past) ≤ link_credit l past
  credit-kept l there = credit-most l.our_first_count (link_event e e.moment) (link_events l past) own.credits (is_on_link l e)

  same_drainable : drainable (e ∷ past) ≡ sum_by (λ l. link_credit l (e ∷ past)) (to_consumers past)
  same_drainable = ap (λ o. sum_by (λ l. link_credit l (e ∷ past)) (filter is_consumer (cons_option o (links past)))) own.no_link

  pub drainable-most : drainable (e ∷ past) ≤ drainable past
  drainable-most =
      subst (λ n. n ≤ drainable past) (sym same_drainable)
      (sum-most (λ l. link_credit l (e ∷ past)) (λ l. link_credit l past) (to_consumers past) credit-kept)

  -- a drain answer uses its link's credit up
  pub drainable-less : (count left : Option ℕ) (drain : Bool) → link_event e e.moment ≡ Some (OurFlow count left drain) → left ≡ Some 0 → drain ≡ true
      → (l : Link) → Contains (to_consumers past) l → is_on_link l e ≡ true → 1 ≤ link_credit l past → drainable (e ∷ past) < drainable past
  drainable-less count left drain flows used drains l there on has =
      subst (λ n. n < drainable past) (sym same_drainable)
      (sum-less (λ l. link_credit l (e ∷ past)) (λ l. link_credit l past) (to_consumers past) credit-kept l there
      (subst (λ o. credits.credit l.our_first_count (cons_option (if is_on_link l e then o else None) (link_events l past)) < link_credit l past) (sym flows)
      (credit-less l.our_first_count count left drain (link_events l past) used drains (is_on_link l e) on has)))

  -- the producer's link that the event names has no less credit behind it
  module _ (more_given : (l : Link) → Contains (links past) l → is_producer l ≡ true → is_on_link l e ≡ true → given_credit l past ≤ given_credit l (e ∷ past)) where
    given-kept : (l : Link) → Contains (from_producers past) l → CAPACITY - given_credit l (e ∷ past) ≤ CAPACITY - given_credit l past
    given-kept l there = by (is_on_link l e) refl
      where
        from : Contains (links past) l × (is_producer l ≡ true)
        from = in_filter is_producer (links past) l there

        by : (b : Bool) → is_on_link l e ≡ b → CAPACITY - given_credit l (e ∷ past) ≤ CAPACITY - given_credit l past
        by true on = short-most (given_credit l past) (given_credit l (e ∷ past)) (more_given l from.0 from.1 on)
        by false off =
            subst (λ b. CAPACITY - given.given_credit (cons_option (if b then link_event e e.moment else None) (link_events l past)) ≤ CAPACITY - given_credit l past) (sym off)
            (no_more (CAPACITY - given_credit l past))

    same_grantable : grantable (e ∷ past) ≡ sum_by (λ l. CAPACITY - given_credit l (e ∷ past)) (from_producers past)
    same_grantable = ap (λ o. sum_by (λ l. CAPACITY - given_credit l (e ∷ past)) (filter is_producer (cons_option o (links past)))) own.no_link

    pub grantable-most : grantable (e ∷ past) ≤ grantable past
    grantable-most =
        subst (λ n. n ≤ grantable past) (sym same_grantable)
        (sum-most (λ l. CAPACITY - given_credit l (e ∷ past)) (λ l. CAPACITY - given_credit l past) (from_producers past) given-kept)

    -- a flow that gives one of them more leaves less to be given
    pub grantable-less : (l : Link) → Contains (from_producers past) l → given_credit l past < given_credit l (e ∷ past) → given_credit l past < CAPACITY → grantable (e ∷ past) < grantable past
    grantable-less l there more few =
        subst (λ n. n < grantable past) (sym same_grantable)
        (sum-less (λ l. CAPACITY - given_credit l (e ∷ past)) (λ l. CAPACITY - given_credit l past) (from_producers past) given-kept l there
        (short-less (given_credit l past) (given_credit l (e ∷ past)) more few))

  -- ---- deliveries

  told-kept : (d : Incoming) → Contains (incoming_deliveries past) d → cond (not (is_told d (e ∷ past))) 1 0 ≤ cond (not (is_told d past)) 1 0
  told-kept d there = absent-most (is_number e.told d.number) (is_told d past)

  same_untold : untold (e ∷ past) ≡ count_by (λ d. not (is_told d (e ∷ past))) (incoming_deliveries past)
  same_untold = ap (λ o. count_by (λ d. not (is_told d (e ∷ past))) (cons_option o (incoming_deliveries past))) own.no_incoming

  pub untold-most : untold (e ∷ past) ≤ untold past
  untold-most =
      subst (λ n. n ≤ untold past) (sym same_untold)
      (sum-most (λ d. cond (not (is_told d (e ∷ past))) 1 0) (λ d. cond (not (is_told d past)) 1 0) (incoming_deliveries past) told-kept)

  -- an outcome tells one
  pub untold-less : (d : Incoming) → Contains (incoming_deliveries past) d → is_number e.told d.number ≡ true → is_told d past ≡ false → untold (e ∷ past) < untold past
  untold-less d there tells none =
      subst (λ n. n < untold past) (sym same_untold)
      (sum-less (λ d. cond (not (is_told d (e ∷ past))) 1 0) (λ d. cond (not (is_told d past)) 1 0) (incoming_deliveries past) told-kept d there
      (absent-less (is_number e.told d.number) (is_told d past) tells none))

  settled-kept : (j : Outgoing) → Contains (outgoing_deliveries past) j → cond (not (is_settled_by_router j (e ∷ past))) 1 0 ≤ cond (not (is_settled_by_router j past)) 1 0
  settled-kept j there = absent-most (is_number e.settled j.number) (is_settled_by_router j past)

  kept_count : count_by (λ j. not (is_settled_by_router j (e ∷ past))) (outgoing_deliveries past) ≤ unsettled past
  kept_count = sum-most (λ j. cond (not (is_settled_by_router j (e ∷ past))) 1 0) (λ j. cond (not (is_settled_by_router j past)) 1 0) (outgoing_deliveries past) settled-kept

  -- a transfer begins one at most
  pub unsettled-most : unsettled (e ∷ past) ≤ unsettled past + 1
  unsettled-most = by (outgoing_begun e)
    where
      count : List Outgoing → ℕ
      count js = count_by (λ j. not (is_settled_by_router j (e ∷ past))) js

      one : (b : Bool) → cond b 1 0 ≤ 1
      one true = omega arith
      one false = omega arith

      joined : (a p m n : ℕ) → a ≡ p + m → p ≤ 1 → m ≤ n → a ≤ n + 1
      joined a p m n is first rest = omega (arith, is, first, rest)

      by : (o : Option Outgoing) → count (cons_option o (outgoing_deliveries past)) ≤ unsettled past + 1
      by None = let kept = kept_count in omega (arith, kept)
      by (Some j) =
          joined (count (j ∷ outgoing_deliveries past)) (cond (not (is_settled_by_router j (e ∷ past))) 1 0) (count (outgoing_deliveries past)) (unsettled past)
          (sum_by-cons (λ j. cond (not (is_settled_by_router j (e ∷ past))) 1 0) j (outgoing_deliveries past)) (one (not (is_settled_by_router j (e ∷ past)))) kept_count

  -- any other none
  module _ (none : outgoing_begun e ≡ None) where
    same_unsettled : unsettled (e ∷ past) ≡ count_by (λ j. not (is_settled_by_router j (e ∷ past))) (outgoing_deliveries past)
    same_unsettled = ap (λ o. count_by (λ j. not (is_settled_by_router j (e ∷ past))) (cons_option o (outgoing_deliveries past))) none

    pub unsettled-kept : unsettled (e ∷ past) ≤ unsettled past
    unsettled-kept = subst (λ n. n ≤ unsettled past) (sym same_unsettled) kept_count

    -- a settling settles one
    pub unsettled-less : (j : Outgoing) → Contains (outgoing_deliveries past) j → is_number e.settled j.number ≡ true → is_settled_by_router j past ≡ false → unsettled (e ∷ past) < unsettled past
    unsettled-less j there settles open' =
        subst (λ n. n < unsettled past) (sym same_unsettled)
        (sum-less (λ j. cond (not (is_settled_by_router j (e ∷ past))) 1 0) (λ j. cond (not (is_settled_by_router j past)) 1 0) (outgoing_deliveries past) settled-kept j there
        (absent-less (is_number e.settled j.number) (is_settled_by_router j past) settles open'))
