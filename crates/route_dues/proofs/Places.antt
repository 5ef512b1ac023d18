-- The session and the link on which a frame stands.
use Rattle.std.proofs.Common.{◌≡◌, sym, ap, ◌∙◌, ℕ, Bool, true, false, List, Option, Some, None, option_and_then, if◌then◌else◌, ◌==◌}
use Rattle.std.specs.Prelude.{Contains}
use Rattle.capture_form.specs.Rules.{RuleSet}
use Rattle.trace_events.specs.Event.{Event, Link}
use Rattle.trace_events.specs.declared.session.Session.{Session}
use Rattle.trace_events.specs.Connection.{is_over}
use Rattle.trace_events.specs.Session.{live_session, last_session, sessions_begun}
use Rattle.trace_events.specs.Link.{links, session_link}
use Rattle.trace_events.proofs.Along.{and_then_some}
use Rattle.trace_events.proofs.Judged.{AreJudged}
use Rattle.trace_events.proofs.LinkLives.{judged-stands, live_session-at}
use Rattle.trace_events.proofs.Links as known_links
use Rattle.trace_events.proofs.SessionNumbers.{last_session-known}
use Rattle.trace_events.proofs.Sessions as known_sessions
use Rattle.trace_events.proofs.Undecided.{link_of_session}
use Rattle.trace_events.proofs.WaitingQueue.{find_has}

last_of : (over : Bool) (last : Option Session) (s : Session) → (if over then None else last) ≡ Some s → last ≡ Some s
last_of true last s is = absurd cc
last_of false last s is = is

module _ (rules : RuleSet) (past : List Event) (are : AreJudged rules past) where
  pub session-known : (c channel : ℕ) (s : Session) → live_session c channel past ≡ Some s → known_sessions.IsKnown past s
  session-known c channel s is = last_session-known rules past are c channel s (last_of (is_over c past) (last_session c channel past) s is)

  pub session-there : (c channel : ℕ) (s : Session) → live_session c channel past ≡ Some s → Contains (sessions_begun past) s
  session-there c channel s is = find_has (λ (t : Session). t.number == s.number) (sessions_begun past) s (session-known c channel s is).at

  pub link-known : (c channel : ℕ) (handle : Option ℕ) (l : Link) → option_and_then (λ s. option_and_then (λ h. session_link s h past) handle) (live_session c channel past) ≡ Some l
      → known_links.IsKnown past l
  link-known c channel handle l is =
      let s = and_then_some (λ s. option_and_then (λ h. session_link s h past) handle) (live_session c channel past) l is in
      let h = and_then_some (λ h. session_link s.0 h past) handle l s.2 in
      (judged-stands rules past are).known s.0 h.0 l (session-known c channel s.0 s.1) h.2

  pub link-there : (l : Link) → known_links.IsKnown past l → Contains (links past) l
  link-there l known = find_has (λ (m : Link). m.number == l.number) (links past) l known.at

  pub no_handle : {A : Type 0} (c channel : ℕ) (handle : Option ℕ) (l : Link) → handle ≡ None
      → option_and_then (λ s. option_and_then (λ h. session_link s h past) handle) (live_session c channel past) ≡ Some l → A
  no_handle c channel handle l none is =
      let s = and_then_some (λ s. option_and_then (λ h. session_link s h past) handle) (live_session c channel past) l is in
      let h = and_then_some (λ h. session_link s.0 h past) handle l s.2 in
      let never : None ≡ Some h.0 = sym none ∙ h.1 in
      absurd cc

-- the link that is named stands on the connection of the frame
pub link-place : (c channel : ℕ) (handle : Option ℕ) (past : List Event) (l : Link) → option_and_then (λ s. option_and_then (λ h. session_link s h past) handle) (live_session c channel past) ≡ Some l
    → c ≡ l.session.connection
link-place c channel handle past l is =
    let s = and_then_some (λ s. option_and_then (λ h. session_link s h past) handle) (live_session c channel past) l is in
    let h = and_then_some (λ h. session_link s.0 h past) handle l s.2 in
    let at = live_session-at c channel past s.0 s.1 in
    sym (ap (λ (t : Session). t.connection) (link_of_session s.0 h.0 past l h.2).0 ∙ at.0)
