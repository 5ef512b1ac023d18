-- A link that lives is found by its number, and is one that lives.
use Rattle.std.proofs.Common.{◌≡◌, refl, ap, ◌∙◌, Bool, true, false, ◌&&◌, List, Option, Some, None, is_some, option_and_then, if◌then◌else◌, ◌==◌, eq-eqb}
use Rattle.capture_form.specs.Rules.{RuleSet}
use Rattle.trace_events.specs.declared.session.Session.{Session}
use Rattle.trace_events.specs.Words.{is_some_and, where_passes}
use Rattle.trace_events.specs.Connection.{is_over}
use Rattle.trace_events.specs.Event.{Event, Link}
use Rattle.trace_events.specs.Link.{IsLiveLink, is_consumer, is_live, session_link}
use Rattle.trace_events.specs.Session.{last_session}
use Rattle.trace_events.proofs.Judged.{AreJudged}
use Rattle.trace_events.proofs.LinkLives.{judged-stands}
use Rattle.trace_events.proofs.Links.{IsKnown}
use Rattle.trace_events.proofs.SessionNumbers.{last_session-known}
use Rattle.state_tables.specs.ConsumerLinks.{consumer_at, is_live_consumer}

last_of : (over : Bool) (last : Option Session) (s : Session) → (if over then None else last) ≡ Some s → last ≡ Some s
last_of true last s is = absurd cc
last_of false last s is = is

module _ (rules : RuleSet) (past : List Event) (are : AreJudged rules past) (l : Link) (live : IsLiveLink l past) where
  pub live-known : IsKnown past l
  live-known =
      let s = l.session in
      let session = last_session-known rules past are s.connection s.channel s (last_of (is_over s.connection past) (last_session s.connection s.channel past) s live.0) in
      (judged-stands rules past are).known s l.handle l session live.1

  pub live-lives : is_live past l ≡ true
  live-lives =
      ap (λ (o : Option Session). is_some_and (option_and_then (λ (s : Session). session_link s l.handle past) o) (λ (m : Link). m.number == l.number)) live.0
      ∙ (ap (λ (o : Option Link). is_some_and o (λ (m : Link). m.number == l.number)) live.1 ∙ eq-eqb l.number l.number refl)

  -- so a consumer's stands among the live links of consumers
  pub live-consumer : is_consumer l ≡ true → is_some (consumer_at l.number past) ≡ true
  live-consumer consumes =
      ap (λ o. is_some (where_passes (is_live_consumer past) o)) live-known.at
      ∙ (ap (λ b. is_some (if b && is_live past l then Some l else None)) consumes
      ∙ ap (λ b. is_some (if b then Some l else None)) live-lives)
