-- The sessions of a history by their numbers: those of the records that began them, each another's.
use Rattle.std.proofs.Common.{◌≡◌, refl, sym, ap, subst, ◌∙◌, ℕ, ◌<◌, ◌≤◌, List, [], ◌∷◌, length, Option, Some, None, find, if◌then◌else◌, ◌==◌, arith}
use Rattle.std.specs.List.{AllByRecursion, cons_option}
use Rattle.std.proofs.lemmas.Bool.{eq-eqb, ne_eqb}
use Rattle.capture_form.specs.Rules.{RuleSet}
use Rattle.trace_events.specs.Event.{Event}
use Rattle.trace_events.specs.declared.session.Session.{Session}
use Rattle.trace_events.specs.Session.{own_session, sessions_begun, session_at, last_session}
use Rattle.trace_events.proofs.Along.{if_some}
use Rattle.trace_events.proofs.Judged.{AreJudged}
use Rattle.trace_events.proofs.LinkLives.{judged-stands}
use Rattle.trace_events.proofs.Sessions.{IsKnown, begun_number, event_known, known_still}

-- a session that an event begins has the number of events before it
pub own_session-number : (rules : RuleSet) (e : Event) (past : List Event) (s : Session) → AreJudged rules (e ∷ past) → own_session e ≡ Some s → s.number ≡ length past
own_session-number rules e past s ((r, same), are) is =
    let here = subst (λ (x : Event). own_session x ≡ Some s) same is in
    let begun = if_some _ _ s here in
    begun_number rules past r s begun.0 begun.1

-- ---- numbers that fall

-- each number is below the one before it, and the first below this one
abbrev pub AreFalling : ℕ → List Session → Type 0
AreFalling n [] = Unit {0}
AreFalling n (s ∷ ss) = (s.number < n) × AreFalling s.number ss

falling-weaker : (n m : ℕ) (ss : List Session) → n ≤ m → AreFalling n ss → AreFalling m ss
falling-weaker n m [] le h = tt
falling-weaker n m (s ∷ ss) le h = (omega (arith, le, h.0), h.1)

falling-more : (n m : ℕ) (o : Option Session) (ss : List Session) → n < m → ((s : Session) → o ≡ Some s → s.number ≡ n) → AreFalling n ss → AreFalling m (cons_option o ss)
falling-more n m None ss lt own h = falling-weaker n m ss (omega (arith, lt)) h
falling-more n m (Some s) ss lt own h = (omega (arith, lt, own s refl), falling-weaker n s.number ss (omega (arith, own s refl)) h)

pub judged-falling : (rules : RuleSet) (past : List Event) → AreJudged rules past → AreFalling (length past) (sessions_begun past)
judged-falling rules [] are = tt
judged-falling rules (e ∷ past) are =
    falling-more (length past) (length (e ∷ past)) (own_session e) (sessions_begun past) (omega arith) (λ s is. own_session-number rules e past s are is) (judged-falling rules past are.1)

-- ---- of falling numbers each is found

find-above : (n m : ℕ) (ss : List Session) → AreFalling m ss → m ≤ n → find (λ s. s.number == n) ss ≡ None
find-above n m [] h le = refl
find-above n m (s ∷ ss) h le =
    ap (λ b. if b then Some s else find (λ s. s.number == n) ss) (ne_eqb s.number n (λ same. omega (arith, same, le, h.0)))
    ∙ find-above n s.number ss h.1 (omega (arith, le, h.0))

each-weaker : (P Q : Session → Type 0) → ((s : Session) → P s → Q s) → (ss : List Session) → AllByRecursion P ss → AllByRecursion Q ss
each-weaker P Q f [] h = tt
each-weaker P Q f (s ∷ ss) h = (f s h.0, each-weaker P Q f ss h.1)

each-found : (n : ℕ) (ss : List Session) → AreFalling n ss → AllByRecursion (λ s. (find (λ t. t.number == s.number) ss ≡ Some s) × (s.number < n)) ss
each-found n [] h = tt
each-found n (s ∷ ss) h = (
  (ap (λ b. if b then Some s else find (λ t. t.number == s.number) ss) (eq-eqb s.number s.number refl), h.0),
  each-weaker (λ k. (find (λ t. t.number == k.number) ss ≡ Some k) × (k.number < s.number)) (λ k. (find (λ t. t.number == k.number) (s ∷ ss) ≡ Some k) × (k.number < n))
      (λ k is.
      (ap (λ b. if b then Some s else find (λ t. t.number == k.number) ss) (ne_eqb s.number k.number (λ same. omega (arith, same, is.1))) ∙ is.0, omega (arith, is.1, h.0)))
      ss (each-found s.number ss h.1),
)

module _ (rules : RuleSet) (past : List Event) (are : AreJudged rules past) where
  -- no session is of a record that is still to come
  pub session_at-later : (n : ℕ) → length past ≤ n → session_at n past ≡ None
  session_at-later n le = find-above n (length past) (sessions_begun past) (judged-falling rules past are) le

  -- each is found by its number
  pub sessions-found : AllByRecursion (λ s. (session_at s.number past ≡ Some s) × (s.number < length past)) (sessions_begun past)
  sessions-found = each-found (length past) (sessions_begun past) (judged-falling rules past are)

  -- the last session of a channel is known, and so is a live one
  pub last_session-known : (c channel : ℕ) (s : Session) → last_session c channel past ≡ Some s → IsKnown past s
  last_session-known c channel s is = (judged-stands rules past are).sessions_known c channel s is

-- ---- two that are known and have one number are one

same_some : {A : Type 0} (a b : A) → Some a ≡ Some b → a ≡ b
same_some a b e = cc

pub one_number : (past : List Event) (s t : Session) → IsKnown past s → IsKnown past t → s.number ≡ t.number → s ≡ t
one_number past s t knows known same = same_some s t (sym knows.at ∙ (ap (λ n. session_at n past) same ∙ known.at))

-- the session on which an event stands, or which it begins, is known with it
pub judged-event_session : (rules : RuleSet) (e : Event) (past : List Event) (s : Session) → AreJudged rules (e ∷ past) → e.session ≡ Some s → IsKnown (e ∷ past) s
judged-event_session rules e past s ((r, same), are) is =
    let here = subst (λ (x : Event). x.session ≡ Some s) same is in
    subst (λ (x : Event). IsKnown (x ∷ past) s) (sym same) (event_known rules past r s (judged-stands rules past are).sessions_known here)

-- and with any event later
pub known-later : (rules : RuleSet) (e : Event) (past : List Event) (s : Session) → AreJudged rules (e ∷ past) → IsKnown past s → IsKnown (e ∷ past) s
known-later rules e past s ((r, same), are) known = subst (λ (x : Event). IsKnown (x ∷ past) s) (sym same) (known_still rules past r s known)
