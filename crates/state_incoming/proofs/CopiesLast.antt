-- Where no copy of a delivery is to begin any more on a link that lives, none is behind one more event.
use Rattle.std.proofs.Common.{◌≡◌, refl, sym, ap, ◌∙◌, ◌<◌, Bool, true, false, ◌&&◌, not, List, ◌∷◌, length, find, Option, Some, None, option_and_then, if◌then◌else◌, ◌==◌, arith, eqb-true, eq-eqb}
use Rattle.std.specs.List.{cons_option}
use Rattle.capture_form.specs.Rules.{RuleSet}
use Rattle.trace_events.specs.Words.{is_some_and}
use Rattle.trace_events.specs.Event.{Event, Link, Incoming}
use Rattle.trace_events.specs.declared.session.Session.{Session}
use Rattle.trace_events.specs.Connection.{is_over}
use Rattle.trace_events.specs.Due.{is_due, is_unsent}
use Rattle.trace_events.specs.Ends.{ends_link}
use Rattle.trace_events.specs.Incoming.{is_complete}
use Rattle.trace_events.specs.Link.{IsLiveLink, is_live, link_at, links, own_link, session_link}
use Rattle.trace_events.specs.Outgoing.{is_named_on}
use Rattle.trace_events.specs.Session.{last_session}
use Rattle.trace_events.proofs.Along.{and_first}
use Rattle.trace_events.proofs.DueSteps.{is_unsent-stays}
use Rattle.trace_events.proofs.Judged.{AreJudged}
use Rattle.trace_events.proofs.LinkLives.{judged-stands}
use Rattle.trace_events.proofs.LinkNumbers.{own_link-number}
use Rattle.trace_events.proofs.OutgoingSteps.{names_on}
use Rattle.trace_events.proofs.SessionNumbers.{last_session-known}
use Rattle.trace_events.proofs.AwaitedSteps.{due_below}
use Rattle.trace_events.proofs.LinkEnds.{is_live-next, lives-live}
use Rattle.trace_events.proofs.WaitingQueue.{completed_once}
use Rattle.state_incoming.specs.LetGo.{HasAllCopies}

last_of : (over : Bool) (last : Option Session) (s : Session) → (if over then None else last) ≡ Some s → last ≡ Some s
last_of true last s is = absurd cc
last_of false last s is = is

-- ---- a link that lives

module _ (rules : RuleSet) (past : List Event) (are : AreJudged rules past) (l : Link) (live : IsLiveLink l past) where
  live-at : link_at l.number past ≡ Some l
  live-at =
      let s = l.session in
      let session = last_session-known rules past are s.connection s.channel s (last_of (is_over s.connection past) (last_session s.connection s.channel past) s live.0) in
      ((judged-stands rules past are).known s l.handle l session live.1).at

  live-is : is_live past l ≡ true
  live-is =
      ap (λ o. is_some_and (option_and_then (λ (s : Session). session_link s l.handle past) o) (λ (m : Link). m.number == l.number)) live.0
      ∙ (ap (λ o. is_some_and o (λ (m : Link). m.number == l.number)) live.1 ∙ eq-eqb l.number l.number refl)

-- ---- a step

module _ (rules : RuleSet) (e : Event) (past : List Event) (are : AreJudged rules (e ∷ past)) where
  -- one that was opened before lived before
  lived-before : (l : Link) → IsLiveLink l (e ∷ past) → l.number < length past → IsLiveLink l past
  lived-before l live below =
      let at = among (own_link e) refl (live-at rules (e ∷ past) are l live) in
      lives-live rules past are.1 l at (and_first (is_live past l) (not (ends_link l e)) (sym (is_live-next rules e past are l at) ∙ live-is rules (e ∷ past) are l live))
    where
      by : (m : Link) → own_link e ≡ Some m → (b : Bool) → (m.number == l.number) ≡ b → (if b then Some m else link_at l.number past) ≡ Some l → link_at l.number past ≡ Some l
      by m opened true same at =
          let number = own_link-number rules e past m are opened in
          absurd (omega (arith, eqb-true m.number l.number same, number, below))
      by m opened false other at = at

      among : (o : Option Link) → own_link e ≡ o → find (λ (m : Link). m.number == l.number) (cons_option o (links past)) ≡ Some l → link_at l.number past ≡ Some l
      among None none at = at
      among (Some m) opened at = by m opened (m.number == l.number) refl at

  -- of one that is complete: a copy is due on links alone that were opened before it was completed
  pub copies-last : (d : Incoming) → is_complete d past ≡ true → HasAllCopies rules d past → (l : Link) → IsLiveLink l (e ∷ past) → is_unsent rules d l (e ∷ past) ≡ false
  copies-last d complete none l live = is_unsent-stays rules l e past d (completed_once rules e past are d complete) ∙ ap (λ b. b && not (names_on d l e)) (before (is_due rules d l past) refl)
    where
      before : (b : Bool) → is_due rules d l past ≡ b → is_unsent rules d l past ≡ false
      before false undue = ap (λ b. b && not (is_named_on d l past)) undue
      before true due = none l (lived-before l live (due_below rules past are.1 d l due))
