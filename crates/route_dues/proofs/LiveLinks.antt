-- A live link is found by its number, and it lives.
use Rattle.std.proofs.Common.{◌≡◌, refl, ap, ◌∙◌, Bool, true, false, List, Option, Some, None, option_and_then, ◌==◌, eq-eqb, if◌then◌else◌}
use Rattle.capture_form.specs.Rules.{RuleSet}
use Rattle.trace_events.specs.declared.session.Session.{Session}
use Rattle.trace_events.specs.Words.{is_some_and}
use Rattle.trace_events.specs.Event.{Event, Link}
use Rattle.trace_events.specs.Connection.{is_over}
use Rattle.trace_events.specs.Session.{last_session}
use Rattle.trace_events.specs.Link.{link_at, session_link, is_live, IsLiveLink}
use Rattle.trace_events.proofs.Judged.{AreJudged}
use Rattle.trace_events.proofs.LinkLives.{judged-stands}
use Rattle.trace_events.proofs.SessionNumbers.{last_session-known}

last_of : (over : Bool) (last : Option Session) (s : Session) → (if over then None else last) ≡ Some s → last ≡ Some s
last_of true last s is = absurd cc
last_of false last s is = is

module _ (rules : RuleSet) (past : List Event) (are : AreJudged rules past) (l : Link) (live : IsLiveLink l past) where
  pub live_found : link_at l.number past ≡ Some l
  live_found =
      let s = l.session in
      let begun = last_session-known rules past are s.connection s.channel s (last_of (is_over s.connection past) (last_session s.connection s.channel past) s live.0) in
      ((judged-stands rules past are).known s l.handle l begun live.1).at

pub live_lives : (past : List Event) (l : Link) → IsLiveLink l past → is_live past l ≡ true
live_lives past l live =
    ap (λ o. is_some_and (option_and_then (λ s. session_link s l.handle past) o) (λ m. m.number == l.number)) live.0
    ∙ (ap (λ o. is_some_and o (λ m. m.number == l.number)) live.1 ∙ eq-eqb l.number l.number refl)
