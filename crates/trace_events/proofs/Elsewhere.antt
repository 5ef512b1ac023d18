-- An event of another connection leaves sessions and links as they were.
use Rattle.std.proofs.Common.{◌≡◌, refl, ap, ℕ, List, [], ◌∷◌, Bool, true, false, ◌&&◌, ◌||◌, Option, Some, None, ◌==◌}
use Rattle.std.specs.Prelude.{IfSome, if◌then◌else◌, option_and_then, option_map}
use Rattle.amqp_perf.specs.declared.begin.Begin.{Begin}
use Rattle.trace_events.specs.Words.{is_some_and}
use Rattle.trace_events.specs.Event.{Event, Link, is_on_session}
use Rattle.trace_events.specs.declared.session.Session.{Session}
use Rattle.trace_events.specs.Said.{out_begin}
use Rattle.trace_events.specs.Connection.{is_over}
use Rattle.trace_events.specs.Session.{last_session, live_session, awaits_end, new_session, last_in_begin, begins_out, ends_in, ends_out}
use Rattle.trace_events.specs.Link.{session_link, live_link, awaits_detach, is_live}
use Rattle.trace_events.specs.Window.{window_events, session_window}

and-false : (b : Bool) → b && false ≡ false
and-false true = refl
and-false false = refl

module _ (c : ℕ) (e : Event) (past : List Event) (other : (e.connection == c) ≡ false) where
  pub is_over-other : is_over c (e ∷ past) ≡ is_over c past
  is_over-other = rw other (simp and-false)

  pub last_session-other : (channel : ℕ) → last_session c channel (e ∷ past) ≡ last_session c channel past
  last_session-other channel = rw other (simp and-false)

  pub live_session-other : (channel : ℕ) → live_session c channel (e ∷ past) ≡ live_session c channel past
  live_session-other channel = rw (is_over-other, last_session-other channel) refl

  pub awaits_end-other : (channel : ℕ) → awaits_end c channel (e ∷ past) ≡ awaits_end c channel past
  awaits_end-other channel = rw other (simp and-false)

  is_on_session-other : (s : Session) → s.connection ≡ c → is_on_session s e ≡ false
  is_on_session-other s of = rw (of, other) (simp and-false)

  pub session_link-other : (s : Session) (handle : ℕ) → s.connection ≡ c → session_link s handle (e ∷ past) ≡ session_link s handle past
  session_link-other s handle of = rw (is_on_session-other s of) (simp and-false)

  pub awaits_detach-other : (s : Session) (handle : ℕ) → s.connection ≡ c → awaits_detach s handle (e ∷ past) ≡ awaits_detach s handle past
  awaits_detach-other s handle of = rw (is_on_session-other s of) (simp and-false)

  pub window_events-other : (s : Session) → s.connection ≡ c → window_events s (e ∷ past) ≡ window_events s past
  window_events-other s of = rw (is_on_session-other s of) refl

  pub session_window-other : (s : Session) → s.connection ≡ c → session_window s (e ∷ past) ≡ session_window s past
  session_window-other s of = rw (window_events-other s of) refl

-- ---- the link of a handle, by its connection alone

pub if-some : {A : Type 0} (P : A → Type 0) (b : Bool) (x y : Option A) → IfSome x P → IfSome y P → IfSome (if b then x else y) P
if-some P true x y h k = h
if-some P false x y h k = k

new_session-connection : (n c channel : ℕ) (ours : Begin) (theirs : Option Begin) → (new_session n c channel ours theirs).connection ≡ c
new_session-connection n c channel ours None = refl
new_session-connection n c channel ours (Some theirs) = refl

session_begun-connection : (n c channel : ℕ) (ours : Option Begin) (theirs : Option Begin)
    → IfSome (option_map (λ begin. new_session n c channel begin theirs) ours) (λ s. s.connection ≡ c)
session_begun-connection n c channel None theirs = tt
session_begun-connection n c channel (Some begin) theirs = new_session-connection n c channel begin theirs

last_session-connection : (c channel : ℕ) (past : List Event) → IfSome (last_session c channel past) (λ s. s.connection ≡ c)
last_session-connection c channel [] = tt
last_session-connection c channel (e ∷ past) =
    if-some _ (ends_in c channel e || ends_out c channel e) None _ tt
    (if-some _ (begins_out c channel e) _ _
    (session_begun-connection e.number c channel (out_begin e) (last_in_begin c channel past)) (last_session-connection c channel past))

pub live_session-connection : (c channel : ℕ) (past : List Event) → IfSome (live_session c channel past) (λ s. s.connection ≡ c)
live_session-connection c channel past = if-some _ (is_over c past) None _ tt (last_session-connection c channel past)

and_then-same : {A B : Type 0} (P : A → Type 0) (f g : A → Option B) (o : Option A) → IfSome o P → ((a : A) → P a → f a ≡ g a)
    → option_and_then f o ≡ option_and_then g o
and_then-same P f g None h same = refl
and_then-same P f g (Some a) h same = same a h

module _ (c : ℕ) (e : Event) (past : List Event) (other : (e.connection == c) ≡ false) where
  pub live_link-other : (channel handle : ℕ) → live_link c channel handle (e ∷ past) ≡ live_link c channel handle past
  live_link-other channel handle =
      rw (live_session-other c e past other channel)
      (and_then-same (λ s. s.connection ≡ c) (λ s. session_link s handle (e ∷ past)) (λ s. session_link s handle past)
      (live_session c channel past) (live_session-connection c channel past) (λ s of. session_link-other c e past other s handle of))

pub is_live-other : (l : Link) (e : Event) (past : List Event) → (e.connection == l.session.connection) ≡ false → is_live (e ∷ past) l ≡ is_live past l
is_live-other l e past other =
    ap (λ o. is_some_and o (λ m. m.number == l.number)) (live_link-other l.session.connection e past other l.session.channel l.handle)
