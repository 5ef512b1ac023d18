-- The sessions that lack window behind one more event.
use Rattle.std.proofs.Common.{◌≡◌, refl, sym, ap, ◌∙◌, ◌+◌, ◌≤◌, Bool, true, false, ◌&&◌, ◌⊎◌, inl, inr, List, [], ◌∷◌, length, Option, Some, None, nat_le, if◌then◌else◌, ◌==◌, leb-true, le-leb, arith}
use Rattle.std.specs.List.{cons_option}
use Rattle.capture_form.specs.Rules.{RuleSet}
use Rattle.flow_counts.specs.declared.events.WindowEvent.{WindowEvent}
use Rattle.flow_counts.specs.declared.events.WindowEvent.TheVariants.{TheirFlow, Sent, OurFlow, Received}
use Rattle.flow_counts.specs.declared.profile.TheConstants.{RENEWAL_MARK}
use Rattle.flow_counts.specs.GivenWindow as given
use Rattle.flow_counts.specs.GivenWindow.{received_since_flow}
use Rattle.trace_events.specs.Words.{is_some_and}
use Rattle.trace_events.specs.Event.{Event, is_on_session}
use Rattle.trace_events.specs.declared.session.Session.{Session}
use Rattle.trace_events.specs.Session.{IsLiveOn}
use Rattle.trace_events.specs.Window.{window_event, window_events}
use Rattle.trace_events.proofs.Along.{and_first}
use Rattle.trace_events.proofs.Judged.{AreJudged}
use Rattle.trace_events.proofs.SessionNumbers.{judged-event_session, own_session-number}
use Rattle.trace_events.proofs.Sessions.{not_on}
use Rattle.due_lists.specs.Lacking.{IsLacking, runs_low}
use Rattle.due_lists.proofs.LiveOnes.{session-before, event-session}

-- ---- the window that is given, with one more event

-- one event takes at most one transfer from it
falls-by_one : (o : Option WindowEvent) (own : List WindowEvent) → nat_le (given.given_window (cons_option o own)) RENEWAL_MARK ≡ true → nat_le (given.given_window own) (RENEWAL_MARK + 1) ≡ true
falls-by_one None own is = le-leb (given.given_window own) (RENEWAL_MARK + 1) (omega (arith, leb-true (given.given_window own) RENEWAL_MARK is))
falls-by_one (Some Sent) own is = le-leb (given.given_window own) (RENEWAL_MARK + 1) (omega (arith, leb-true (given.given_window own) RENEWAL_MARK is))
falls-by_one (Some Received) own is =
    let le = leb-true (given.given_window (Received ∷ own)) RENEWAL_MARK is in
    le-leb (given.given_window own) (RENEWAL_MARK + 1) (omega (arith, le))
falls-by_one (Some OurFlow) own is = absurd cc
falls-by_one (Some (TheirFlow expected window)) own is = le-leb (given.given_window own) (RENEWAL_MARK + 1) (omega (arith, leb-true (given.given_window own) RENEWAL_MARK is))

-- no session lacks window with its first event
first-has : {A : Type 0} (o : Option WindowEvent) → nat_le (given.given_window (cons_option o [])) RENEWAL_MARK ≡ true → A
first-has None is = absurd cc
first-has (Some Sent) is = absurd cc
first-has (Some Received) is = absurd cc
first-has (Some OurFlow) is = absurd cc
first-has (Some (TheirFlow expected window)) is = absurd cc

-- nothing stands on a session before its record
pub session-unused : (rules : RuleSet) (past : List Event) (s : Session) → AreJudged rules past → length past ≤ s.number → window_events s past ≡ []
session-unused rules [] s are after = refl
session-unused rules (e ∷ past) s are after =
    let off : is_on_session s e ≡ false =
    ap (λ b. b && (e.connection == s.connection)) (not_on s e.session (λ t is. omega (arith, after, (judged-event_session rules e past t are is).before))) in
    ap (λ b. cons_option (if b then window_event e.moment else None) (window_events s past)) off ∙ session-unused rules past s are.1 (omega (arith, after))

-- ---- a session that lacks window

-- the event stands on it, and it runs low
abbrev pub IsLowered : Event → List Event → Session → Type 0
IsLowered e past s = (e.session ≡ Some s) × (IsLiveOn s past × (runs_low past s ≡ true))

module _ (rules : RuleSet) (e : Event) (past : List Event) (are : AreJudged rules (e ∷ past)) (s : Session) (lacking : IsLacking s (e ∷ past)) where
  fresh : {A : Type 0} → length past ≤ s.number → A
  fresh after =
      first-has (if is_on_session s e then window_event e.moment else None)
      (ap (λ own. nat_le (given.given_window (cons_option (if is_on_session s e then window_event e.moment else None) own)) RENEWAL_MARK) (sym (session-unused rules past s are.1 after)) ∙ lacking.1)

  on : (o : Option Session) → e.session ≡ o → is_some_and o (λ t. t.number == s.number) ≡ true → e.session ≡ Some s
  on None is same = absurd cc
  on (Some t) is same = is ∙ ap Some (event-session rules e past are s t lacking.0 is same)

  lived : IsLiveOn s past → IsLowered e past s ⊎ IsLacking s past
  lived live = by (is_on_session s e) refl lacking.1
    where
      by : (b : Bool) → is_on_session s e ≡ b → nat_le (given.given_window (cons_option (if b then window_event e.moment else None) (window_events s past))) RENEWAL_MARK ≡ true
          → IsLowered e past s ⊎ IsLacking s past
      by false off lacks = inr (live, lacks)
      by true stands lacks =
          inl (on e.session refl (and_first (is_some_and e.session (λ t. t.number == s.number)) (e.connection == s.connection) stands), (live, falls-by_one (window_event e.moment) (window_events s past) lacks))

  -- what lacks window lacked it before, or is the session of the event
  pub lacking-before : IsLowered e past s ⊎ IsLacking s past
  lacking-before = elim (session-before rules e past are s lacking.0) [
    | inl own ↦ fresh (omega (arith, own_session-number rules e past s are own))
    | inr live ↦ lived live
  ]
