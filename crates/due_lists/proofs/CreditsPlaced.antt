-- A live link is found at its place.
use Rattle.std.proofs.Common.{◌≡◌, ap, ◌∙◌, List, Some}
use Rattle.trace_events.specs.Event.{Event, Link}
use Rattle.trace_events.specs.declared.session.Session.{Session}
use Rattle.trace_events.specs.Session.{live_session}
use Rattle.trace_events.specs.Link.{IsLiveLink, session_link}
use Rattle.due_lists.specs.Credits.{key_of}
use Rattle.due_lists.specs.declared.credits.LinkKey.{LinkKey}

module _ (past : List Event) (p : LinkKey) (s : Session) (m : Link) (session : Some s ≡ live_session p.connection p.channel past) (link : Some m ≡ session_link s p.handle past) where
  pub placed-link : (l : Link) → Some p ≡ Some (key_of l) → IsLiveLink l past → m ≡ l
  placed-link l place live =
      let one : p ≡ key_of l = cc in
      let both : Some s ≡ Some l.session = session ∙ (ap (λ (q : LinkKey). live_session q.connection q.channel past) one ∙ live.0) in
      let same : s ≡ l.session = cc in
      let found : Some m ≡ Some l = link ∙ (ap (λ (t : Session). session_link t p.handle past) same ∙ (ap (λ (q : LinkKey). session_link l.session q.handle past) one ∙ live.1)) in
      cc
