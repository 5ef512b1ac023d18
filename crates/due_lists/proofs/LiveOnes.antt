-- The sessions and links of a judged history that live: those of its lists, and those behind one more event.
use Rattle.std.proofs.Common.{◌≡◌, refl, sym, ap, subst, ◌∙◌, ℕ, ◌<◌, Bool, true, false, not, ◌⊎◌, inl, inr, List, [], ◌∷◌, length, Option, Some, None, option_and_then, filter, find, if◌then◌else◌, ◌==◌, eqb-true, eq-eqb}
use Rattle.std.specs.Prelude.{Contains, filter_map}
use Rattle.std.specs.List.{AllByRecursion, cons_option}
use Rattle.capture_form.specs.Rules.{RuleSet}
use Rattle.trace_events.specs.Event.{Event, Link}
use Rattle.trace_events.specs.declared.session.Session.{Session}
use Rattle.trace_events.specs.Connection.{is_over}
use Rattle.trace_events.specs.Ends.{ends_link, ends_session}
use Rattle.trace_events.specs.Words.{is_some_and}
use Rattle.trace_events.specs.Session.{IsLiveOn, live_session, last_session, session_at, own_session, live_sessions, is_live_session}
use Rattle.trace_events.specs.Link.{IsLiveLink, is_live, link_at, links, own_link, live_links, session_link}
use Rattle.trace_events.proofs.Along.{and_first, some_passes}
use Rattle.trace_events.proofs.Judged.{AreJudged}
use Rattle.trace_events.proofs.LinkLives.{judged-stands}
use Rattle.trace_events.proofs.LinkNumbers.{links-found}
use Rattle.trace_events.proofs.SessionNumbers.{last_session-known, sessions-found, judged-event_session, one_number}
use Rattle.trace_events.proofs.Sessions.{IsKnown}
use Rattle.trace_events.proofs.LinkEnds.{lives-live, is_live-next, judged-is_live_session}
use Rattle.trace_events.proofs.WaitingQueue.{contains_none, contains_cases, contains_first, contains_later}

-- ---- elements of lists

pub all-contained : {A : Type 0} (P : A → Type 0) (xs : List A) (x : A) → AllByRecursion P xs → Contains xs x → P x
all-contained P [] x all there = contains_none x there
all-contained P (y ∷ ys) x all there = elim (contains_cases y ys x there) [
  | inl same ↦ subst P same all.0
  | inr later ↦ all-contained P ys x all.1 later
]

-- what is left by a test stands in the list, and passes
pub filtered : {A : Type 0} (test : A → Bool) (xs : List A) (x : A) → Contains (filter test xs) x → Contains xs x × (test x ≡ true)
filtered test [] x there = contains_none x there
filtered {A} test (y ∷ ys) x there = by (test y) refl (filtered test ys x) there
  where
    by : (b : Bool) → test y ≡ b → (Contains (filter test ys) x → Contains ys x × (test x ≡ true))
        → Contains (if b then y ∷ filter test ys else filter test ys) x → Contains (y ∷ ys) x × (test x ≡ true)
    by true is rest there = elim (contains_cases y (filter test ys) x there) [
      | inl same ↦ (subst (λ (z : A). Contains (y ∷ ys) z) same (contains_first y ys), ap test (sym same) ∙ is)
      | inr later ↦ (contains_later y ys x (rest later).0, (rest later).1)
    ]
    by false is rest there = (contains_later y ys x (rest there).0, (rest there).1)

last_of : (over : Bool) (last : Option Session) (s : Session) → (if over then None else last) ≡ Some s → last ≡ Some s
last_of true last s is = absurd cc
last_of false last s is = is

same_some : {A : Type 0} (a b : A) → Some a ≡ Some b → a ≡ b
same_some a b is = cc

module _ (rules : RuleSet) (past : List Event) (are : AreJudged rules past) where
  -- ---- sessions

  pub live-known : (c channel : ℕ) (s : Session) → live_session c channel past ≡ Some s → IsKnown past s
  live-known c channel s is = last_session-known rules past are c channel s (last_of (is_over c past) (last_session c channel past) s is)

  -- one that lives, and is found by its number, is the live one of its channel
  pub lives-on : (s : Session) → session_at s.number past ≡ Some s → is_live_session past s ≡ true → IsLiveOn s past
  lives-on s at is =
      let found = some_passes (λ (t : Session). t.number == s.number) (live_session s.connection s.channel past) is in
      let known = live-known s.connection s.channel found.0 found.1 in
      let one : found.0 ≡ s = same_some found.0 s (sym known.at ∙ (ap (λ n. session_at n past) (eqb-true found.0.number s.number found.2) ∙ at)) in
      found.1 ∙ ap Some one

  pub live_sessions-live : (s : Session) → Contains (live_sessions past) s → IsLiveOn s past
  live_sessions-live s there =
      let passes = filtered (is_live_session past) (filter_map own_session past) s there in
      lives-on s (all-contained (λ s. (session_at s.number past ≡ Some s) × (s.number < length past)) (filter_map own_session past) s (sessions-found rules past are) passes.0).0 passes.1

  -- ---- links

  pub live_links-live : (l : Link) → Contains (live_links past) l → IsLiveLink l past
  live_links-live l there =
      let passes = filtered (is_live past) (links past) l there in
      let at = (all-contained (λ l. (link_at l.number past ≡ Some l) × (l.number < length past)) (links past) l (links-found rules past are) passes.0).0 in
      lives-live rules past are l at passes.1

  pub link-found : (l : Link) → IsLiveLink l past → link_at l.number past ≡ Some l
  link-found l live = ((judged-stands rules past are).known l.session l.handle l (live-known l.session.connection l.session.channel l.session live.0) live.1).at

pub session-lives : (past : List Event) (s : Session) → IsLiveOn s past → is_live_session past s ≡ true
session-lives past s live = ap (λ o. is_some_and o (λ t. t.number == s.number)) live ∙ eq-eqb s.number s.number refl

pub link-lives : (past : List Event) (l : Link) → IsLiveLink l past → is_live past l ≡ true
link-lives past l live =
    ap (λ o. is_some_and (option_and_then (λ s. session_link s l.handle past) o) (λ m. m.number == l.number)) live.0
    ∙ (ap (λ o. is_some_and o (λ m. m.number == l.number)) live.1 ∙ eq-eqb l.number l.number refl)

-- ---- behind one more event

-- the session of this number is the one that the event begins, or was there before
at_session : (o : Option Session) (n : ℕ) (past : List Event) (s : Session) → find (λ (t : Session). t.number == n) (cons_option o (filter_map own_session past)) ≡ Some s
    → (o ≡ Some s) ⊎ (session_at n past ≡ Some s)
at_session None n past s is = inr is
at_session (Some t) n past s is = by (t.number == n) is
  where
    by : (b : Bool) → (if b then Some t else session_at n past) ≡ Some s → (Some t ≡ Some s) ⊎ (session_at n past ≡ Some s)
    by true is = inl is
    by false is = inr is

at_link : (o : Option Link) (n : ℕ) (past : List Event) (l : Link) → find (λ (m : Link). m.number == n) (cons_option o (links past)) ≡ Some l
    → (o ≡ Some l) ⊎ (link_at n past ≡ Some l)
at_link None n past l is = inr is
at_link (Some m) n past l is = by (m.number == n) is
  where
    by : (b : Bool) → (if b then Some m else link_at n past) ≡ Some l → (Some m ≡ Some l) ⊎ (link_at n past ≡ Some l)
    by true is = inl is
    by false is = inr is

module _ (rules : RuleSet) (e : Event) (past : List Event) (are : AreJudged rules (e ∷ past)) where
  -- a session that lives is the one that the event begins, or lived before
  pub session-before : (s : Session) → IsLiveOn s (e ∷ past) → (own_session e ≡ Some s) ⊎ IsLiveOn s past
  session-before s live = elim (at_session (own_session e) s.number past s (live-known rules (e ∷ past) are s.connection s.channel s live).at) [
    | inl own ↦ inl own
    | inr at ↦ inr (lives-on rules past are.1 s at
        (and_first (is_live_session past s) (not (ends_session s e)) (sym (judged-is_live_session rules e past are s at) ∙ session-lives (e ∷ past) s live)))
  ]

  -- and so is a link, which the event does not end
  pub link-before : (l : Link) → IsLiveLink l (e ∷ past) → (own_link e ≡ Some l) ⊎ IsLiveLink l past
  link-before l live = elim (at_link (own_link e) l.number past l (link-found rules (e ∷ past) are l live)) [
    | inl own ↦ inl own
    | inr at ↦ inr (lives-live rules past are.1 l at
        (and_first (is_live past l) (not (ends_link l e)) (sym (is_live-next rules e past are l at) ∙ link-lives (e ∷ past) l live)))
  ]

  -- the session of an event that has a live one's number is that one
  pub event-session : (s t : Session) → IsLiveOn s (e ∷ past) → e.session ≡ Some t → (t.number == s.number) ≡ true → t ≡ s
  event-session s t live on same =
      one_number (e ∷ past) t s (judged-event_session rules e past t are on) (live-known rules (e ∷ past) are s.connection s.channel s live) (eqb-true t.number s.number same)
