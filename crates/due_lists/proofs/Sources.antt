-- A consumer's link has the address that the attach which opened it names.
use Rattle.std.proofs.Common.{◌≡◌, refl, sym, ap, subst, ◌∙◌, inl, inr, ℕ, Bool, true, false, List, ◌∷◌, length, Option, Some, None, IfSome, option_map, if◌then◌else◌, arith}
use Rattle.amqp_perf.specs.declared.attach.Role.{Role}
use Rattle.amqp_perf.specs.declared.attach.Role.TheVariants.{Sender, Receiver}
use Rattle.amqp_perf.specs.Meaning.{AttachFields}
use Rattle.capture_form.specs.Rules.{RuleSet}
use Rattle.capture_form.specs.declared.records.Record.{Record}
use Rattle.trace_events.specs.Event.{Event, Link}
use Rattle.trace_events.specs.declared.session.Session.{Session}
use Rattle.trace_events.specs.Link.{is_consumer, is_sender, address_at, source_address, last_in_attach, opens_link, new_link, own_link}
use Rattle.trace_events.specs.History.{judge, moment_of, session_of, link_of}
use Rattle.trace_events.proofs.Judged.{AreJudged}
use Rattle.trace_events.proofs.LinkLives.{judged-stands}
use Rattle.trace_events.proofs.Links.{attach_in, opened_by, attach_link, first_of_both, link_opened_number, named_known, of_kind}
use Rattle.due_lists.specs.AddressCounts.{source_of, HasNamedSource}

same_some : {A : Type 0} (a b : A) → Some a ≡ Some b → a ≡ b
same_some a b is = cc

sender-address : (role : Role) (fields : AttachFields) → is_sender role ≡ true → address_at role fields ≡ source_address fields.source
sender-address Sender fields is = refl
sender-address Receiver fields is = absurd cc

opened-source : (number : ℕ) (attach : Option AttachFields) (session : Option Session) (past : List Event) (l : Link) → opened_by number attach session past ≡ Some l → is_consumer l ≡ true
    → l.address ≡ source_of attach
opened-source number None session past l opens is = absurd cc
opened-source number (Some a) None past l opens is = absurd cc
opened-source number (Some a) (Some s) past l opens is = by (opens_link a) opens
  where
    by : (b : Bool) → option_map (λ (ours : AttachFields). new_link number s ours (last_in_attach s a.handle past)) (if b then Some a else None) ≡ Some l → l.address ≡ source_address a.source
    by false opens = absurd cc
    by true opens =
        let same = same_some (new_link number s a (last_in_attach s a.handle past)) l opens in
        let role : is_sender a.role ≡ true = ap (λ (m : Link). is_sender m.role) same ∙ is in
        ap (λ (m : Link). m.address) (sym same) ∙ sender-address a.role a role

module _ (rules : RuleSet) (past : List Event) (r : Record) (are : AreJudged rules past) (l : Link) (own : own_link (judge rules past r) ≡ Some l) where
  link : (judge rules past r).link ≡ Some l
  link = (link_opened_number (judge rules past r) l own).0

  number : l.number ≡ length past
  number = (link_opened_number (judge rules past r) l own).1

  source-is : is_consumer l ≡ true → l.address ≡ source_of (attach_in (moment_of r.what))
  source-is is =
      let m = moment_of r.what in
      let session = session_of r.connection m past in
      elim (of_kind rules past r l link) [
        | inl opens ↦ opened-source (length past) (attach_in m) session past l (first_of_both (opened_by (length past) (attach_in m) session past) (link_of m past session) l (attach_link m past session opens) link) is
        | inr named ↦ absurd (let lt = (named_known rules past r l (judged-stands rules past are) named.0 named.1 named.2).1 in omega (arith, lt, number))
      ]

pub named-source : (rules : RuleSet) (e : Event) (past : List Event) → AreJudged rules (e ∷ past) → HasNamedSource e
named-source rules e past ((r, is), are) = subst HasNamedSource (sym is) (by (own_link (judge rules past r)) refl)
  where
    by : (o : Option Link) → own_link (judge rules past r) ≡ o → IfSome o (λ l. (is_consumer l ≡ true) → l.address ≡ source_of (attach_in (moment_of r.what)))
    by None own = tt
    by (Some l) own = source-is rules past r are l own
