-- A link of a judged history lives on unless an event ends it, whatever the event.
use Rattle.std.proofs.Common.{◌≡◌, sym, ap, subst, ◌∙◌, Bool, true, false, not, ◌&&◌, List, ◌∷◌, Option, Some, None, if◌then◌else◌, ◌==◌, eqb-true}
use Rattle.capture_form.specs.Rules.{RuleSet}
use Rattle.trace_events.specs.Event.{Event, Link}
use Rattle.trace_events.specs.declared.session.Session.{Session}
use Rattle.trace_events.specs.Connection.{is_over}
use Rattle.trace_events.specs.Session.{live_session, last_session, session_at, is_live_session}
use Rattle.trace_events.specs.Link.{session_link, live_link, is_live, link_at, IsLiveLink}
use Rattle.trace_events.specs.Ends.{ends_session, ends_link}
use Rattle.trace_events.proofs.Along.{some_passes, and_then_some}
use Rattle.trace_events.proofs.Ends.{is_live_session-next, is_live-next_by}
use Rattle.trace_events.proofs.Judged.{AreJudged, judged-number}
use Rattle.trace_events.proofs.LinkLives.{judged-stands}
use Rattle.trace_events.proofs.LinkNumbers.{judged-found}
use Rattle.trace_events.proofs.SessionNumbers.{last_session-known}
use Rattle.trace_events.proofs.Standing.{live-on}
use Rattle.trace_events.proofs.LiveLinks.{live-link}

last_of : (over : Bool) (last : Option Session) (s : Session) → (if over then None else last) ≡ Some s → last ≡ Some s
last_of true last s is = absurd cc
last_of false last s is = is

same_some : {A : Type 0} (a b : A) → Some a ≡ Some b → a ≡ b
same_some a b is = cc

module _ (rules : RuleSet) (past : List Event) (are : AreJudged rules past) where
  -- one that lives, and is found by its number, is the live link of its handle on a live session
  pub lives-live : (l : Link) → link_at l.number past ≡ Some l → is_live past l ≡ true → IsLiveLink l past
  lives-live l at is =
      let found = some_passes (λ (m : Link). m.number == l.number) (live_link l.session.connection l.session.channel l.handle past) is in
      let on = and_then_some (λ (s : Session). session_link s l.handle past) (live_session l.session.connection l.session.channel past) found.0 found.1 in
      let known = last_session-known rules past are l.session.connection l.session.channel on.0
      (last_of (is_over l.session.connection past) (last_session l.session.connection l.session.channel past) on.0 on.1) in
      let mine = (judged-stands rules past are).known on.0 l.handle found.0 known on.2 in
      let one : found.0 ≡ l = same_some found.0 l (sym mine.at ∙ (ap (λ n. link_at n past) (eqb-true found.0.number l.number found.2) ∙ at)) in
      subst (λ (m : Link). IsLiveLink m past) one
      (live-link on.0 l.handle past found.0 (live-on l.session.connection l.session.channel past on.0 on.1) on.2)

pub is_live-next : (rules : RuleSet) (e : Event) (past : List Event) → AreJudged rules (e ∷ past) → (l : Link) → link_at l.number past ≡ Some l
    → is_live (e ∷ past) l ≡ is_live past l && not (ends_link l e)
is_live-next rules e past are l at =
    is_live-next_by e past (judged-stands rules past are.1).no_link (judged-number rules e past are) l (judged-found rules past are.1 l.number l at).1
    (lives-live rules past are.1 l at)

-- and so does a session
pub judged-is_live_session : (rules : RuleSet) (e : Event) (past : List Event) → AreJudged rules (e ∷ past) → (s : Session) → session_at s.number past ≡ Some s
    → is_live_session (e ∷ past) s ≡ is_live_session past s && not (ends_session s e)
judged-is_live_session rules e past are s at =
    is_live_session-next e past (judged-number rules e past are) s ((judged-stands rules past are.1).sessions_found s.number s at).1
