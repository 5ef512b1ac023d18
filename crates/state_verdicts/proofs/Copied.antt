-- Where no copy of a delivery awaits its verdict, none is still to begin on a link that lives.
use Rattle.std.proofs.Common.{◌≡◌, refl, sym, ap, subst, ◌∙◌, ℕ, Bool, true, false, ◌&&◌, not, List, Option, Some, None, is_none, option_and_then, if◌then◌else◌, ◌==◌, eqb-true, eq-eqb}
use Rattle.amqp_perf.specs.declared.descriptor.Outcome.TheVariants.{Modified}
use Rattle.capture_form.specs.Rules.{RuleSet}
use Rattle.trace_events.specs.Words.{is_some_and}
use Rattle.trace_events.specs.Event.{Event, Link, Incoming, Outgoing}
use Rattle.trace_events.specs.declared.session.Session.{Session}
use Rattle.trace_events.specs.Connection.{is_over}
use Rattle.trace_events.specs.Due.{is_due, is_unsent}
use Rattle.trace_events.specs.Incoming.{incoming_at}
use Rattle.trace_events.specs.Link.{IsLiveLink, is_live, link_at, session_link}
use Rattle.trace_events.specs.Outgoing.{is_named_on, is_on, names, outgoing_deliveries}
use Rattle.trace_events.specs.Session.{last_session}
use Rattle.trace_events.proofs.Along.{and_first, and_last}
use Rattle.trace_events.proofs.Judged.{AreJudged}
use Rattle.trace_events.proofs.LinkLives.{judged-stands}
use Rattle.trace_events.proofs.Links as links
use Rattle.trace_events.proofs.SessionNumbers.{last_session-known}
use Rattle.trace_events.specs.Clauses.{first_broken}
use Rattle.trace_events.specs.CopyVerdict.{awaits_verdict, copy_on, copy_verdict, verdict_on}
use Rattle.trace_events.proofs.BegunDeliveries.{found-begun}
use Rattle.trace_events.proofs.VerdictSteps.{found-passes}
use Rattle.state_verdicts.specs.Verdicts.{awaits_at}

same_some : {A : Type 0} (a b : A) → Some a ≡ Some b → a ≡ b
same_some a b is = cc

last_of : (over : Bool) (last : Option Session) (s : Session) → (if over then None else last) ≡ Some s → last ≡ Some s
last_of true last s is = absurd cc
last_of false last s is = is

module _ (rules : RuleSet) (past : List Event) (are : AreJudged rules past) (lawful : first_broken rules past ≡ None)
    (d : Incoming) (found : incoming_at d.number past ≡ Some d) (l : Link) (live : IsLiveLink l past) where
  known : links.IsKnown past l
  known =
      let s = l.session in
      let session = last_session-known rules past are s.connection s.channel s (last_of (is_over s.connection past) (last_session s.connection s.channel past) s live.0) in
      (judged-stands rules past are).known s l.handle l session live.1

  lives : is_live past l ≡ true
  lives =
      ap (λ o. is_some_and (option_and_then (λ (s : Session). session_link s l.handle past) o) (λ (m : Link). m.number == l.number)) live.0
      ∙ (ap (λ o. is_some_and o (λ (m : Link). m.number == l.number)) live.1 ∙ eq-eqb l.number l.number refl)

  -- one that was begun on the link is named there
  copy-named : (j : Outgoing) → copy_on d l past ≡ Some j → is_named_on d l past ≡ true
  copy-named j copy =
      let b = found-begun rules past are lawful (λ (x : Outgoing). is_on l x && names d.number x.note) j copy in
      let passes = found-passes (λ (x : Outgoing). is_on l x && names d.number x.note) (outgoing_deliveries past) j copy in
      let number : b.delivery.number ≡ d.number = eqb-true b.delivery.number d.number (sym (ap (names d.number) b.named) ∙ and_last (is_on l j) (names d.number j.note) passes) in
      let carried : b.delivery ≡ d = same_some b.delivery d (sym b.kept.at ∙ (ap (λ n. incoming_at n past) number ∙ found)) in
      let on : j.link ≡ l =
      same_some j.link l (sym b.linked.at ∙ (ap (λ n. link_at n past) (eqb-true j.link.number l.number (and_first (is_on l j) (names d.number j.note) passes)) ∙ known.at)) in
      subst (λ (m : Link). is_named_on d m past ≡ true) on (subst (λ (x : Incoming). is_named_on x j.link past ≡ true) carried b.named_on)

  unsent-awaits : is_unsent rules d l past ≡ true → awaits_verdict rules d past l ≡ true
  unsent-awaits unsent = by (copy_on d l past) refl
    where
      by : (o : Option Outgoing) → copy_on d l past ≡ o → awaits_verdict rules d past l ≡ true
      by None none =
          ap (λ b. b && is_none (copy_verdict d l past)) (and_first (is_due rules d l past) (not (is_named_on d l past)) unsent)
          ∙ (ap (λ (o : Option Outgoing). is_none (verdict_on past l o)) none ∙ ap (λ b. is_none (if b then None else Some Modified)) lives)
      by (Some j) copy =
          let never : false ≡ true = ap not (sym (copy-named j copy)) ∙ and_last (is_due rules d l past) (not (is_named_on d l past)) unsent in
          absurd cc

  awaited : awaits_at rules past l.number d.number ≡ awaits_verdict rules d past l
  awaited =
      ap (λ o. is_some_and o (λ m. is_some_and (incoming_at d.number past) (λ x. awaits_verdict rules x past m))) known.at
      ∙ ap (λ o. is_some_and o (λ x. awaits_verdict rules x past l)) found

  pub all-copied : ((link : ℕ) → awaits_at rules past link d.number ≡ false) → is_unsent rules d l past ≡ false
  all-copied none = by (is_unsent rules d l past) refl
    where
      by : (b : Bool) → is_unsent rules d l past ≡ b → b ≡ false
      by false is = refl
      by true is = sym (unsent-awaits is) ∙ (sym awaited ∙ none l.number)
