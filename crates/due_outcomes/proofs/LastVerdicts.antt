-- A multicast delivery that gets its last verdict gets it by the end of a link that it was due to, by the last part of its
-- copy there, or by what its consumer says of that copy.
use Rattle.std.proofs.Common.{◌≡◌, refl, sym, ap, subst, ◌∙◌, ◌⊎◌, inl, inr, ◌<◌, Bool, true, false, not, ◌&&◌, ◌==◌, List, ◌∷◌, length, Option, Some, None, IfSome, is_some, is_none, find, option_and_then, if◌then◌else◌, arith, eqb-true}
use Rattle.std.specs.Prelude.{Contains}
use Rattle.std.specs.List.{cons_option, list_any}
use Rattle.amqp_perf.specs.declared.descriptor.Outcome.{Outcome}
use Rattle.amqp_perf.specs.declared.descriptor.Outcome.TheVariants.{Modified}
use Rattle.amqp_perf.specs.Meaning.{DispositionFields, flag}
use Rattle.capture_form.specs.Rules.{RuleSet}
use Rattle.trace_events.specs.Words.{is_some_and, or_else, where_passes}
use Rattle.trace_events.specs.Event.{Event, Link, Incoming, Outgoing}
use Rattle.trace_events.specs.Said.{out_transfer}
use Rattle.trace_events.specs.Link.{IsLiveLink, is_live, link_at, links, own_link}
use Rattle.trace_events.specs.Ends.{ends_link}
use Rattle.trace_events.specs.Disposition.{is_decisive}
use Rattle.trace_events.specs.Due.{is_due}
use Rattle.trace_events.specs.Incoming.{completes}
use Rattle.trace_events.specs.Outgoing.{answering, decision, is_on, is_part, names, outgoing_begun, outgoing_deliveries, outgoing_at}
use Rattle.trace_events.specs.Work.{comes_due}
use Rattle.trace_events.proofs.Judged.{AreJudged}
use Rattle.trace_events.proofs.LinkNumbers.{links-found}
use Rattle.trace_events.proofs.Links.{passing}
use Rattle.trace_events.specs.Clauses.{first_broken}
use Rattle.trace_events.specs.Outcome.{is_sent_settled}
use Rattle.trace_events.proofs.BegunDeliveries.{found-begun, kept-later}
use Rattle.trace_events.proofs.ClausesMet.{lawful-past}
use Rattle.trace_events.proofs.LinkEnds.{lives-live}
use Rattle.trace_events.proofs.OutgoingProgress.{IsPartOf, judged-carrying, judged-outgoing_part}
use Rattle.trace_events.proofs.Parts.{IsKept}
use Rattle.trace_events.proofs.WaitingQueue.{find_has}
use Rattle.trace_events.specs.CopyVerdict.{awaits_now, awaits_verdict, begun_verdict_by, copy_on, deciding_now, ends_settled, sent_verdict, verdict_by, verdict_on}
use Rattle.trace_events.specs.BestVerdict.{has_all_verdicts}
use Rattle.trace_events.proofs.AwaitedSteps.{awaits_now-live, awaits_verdict_moves}
use Rattle.trace_events.proofs.VerdictSteps.{found-passes}
use Rattle.due_outcomes.proofs.LostConsumers.{cons-none, one-of}
use Rattle.state_outgoing.proofs.SentKept.{contained-at}
use Rattle.due_outcomes.proofs.UnsettledSteps.{and-both}

same_some : {A : Type 0} (a b : A) → Some a ≡ Some b → a ≡ b
same_some a b is = cc

not-false : (b : Bool) → not b ≡ false → b ≡ true
not-false true is = refl
not-false false is = absurd cc

not-true : (b : Bool) → not b ≡ true → b ≡ false
not-true false is = refl
not-true true is = absurd cc

-- ---- what gives the last one

-- a copy that was begun before, unsettled, and of which its consumer speaks with the event; neither side has settled it: it
-- was not decided before
pub record IsSpokenOf (e : Event) (past : List Event) (d : Incoming) : Type 0 where
  pub copy : Outgoing
  pub begun : Contains (outgoing_deliveries past) copy
  pub at : outgoing_at copy.number past ≡ Some copy
  pub named : names d.number copy.note ≡ true
  pub unsettled : copy.link.is_pre_settled ≡ false
  pub lives : is_live past copy.link ≡ true
  pub undecided : decision copy past ≡ None
  pub speaks : is_some (answering copy e) ≡ true

-- the event ends the link, carries a part of the copy, or is one in which its consumer speaks of it
abbrev pub Gives : Event → List Event → Incoming → Link → Type 0
Gives e past d l = (ends_link l e ≡ true) ⊎ ((is_some_and e.outgoing (λ j. names d.number j.note) ≡ true) ⊎ IsSpokenOf e past d)

pub record IsLast (rules : RuleSet) (e : Event) (past : List Event) (d : Incoming) : Type 0 where
  pub link : Link
  pub at : link_at link.number past ≡ Some link
  pub lives : IsLiveLink link past
  pub awaits : awaits_verdict rules d past link ≡ true
  pub gives : Gives e past d link

-- ---- a verdict that is there comes of one of these

-- P: its link is settled beforehand; L: it lives; S: the event is its last part; o: what its consumer says
given-by : (P L S : Bool) (o : Option DispositionFields) → is_none (sent_verdict (if P then None else (if L then where_passes is_decisive o else None)) (P && S)) ≡ false
    → (S ≡ true) ⊎ ((P ≡ false) × (L ≡ true) × (is_some o ≡ true))
given-by true L true o is = inl refl
given-by true L false o is = absurd cc
given-by false true S None is = absurd cc
given-by false true S (Some fields) is = inr (refl, refl, refl)
given-by false false S o is = absurd cc

undecided-by : (due : Bool) (o : Option DispositionFields) (settled : Bool) (over : Option Outcome) → due && is_none (or_else (sent_verdict o settled) over) ≡ true → o ≡ None
undecided-by due None settled over is = refl
undecided-by true (Some fields) settled over is = absurd cc
undecided-by false (Some fields) settled over is = absurd cc

off-now : (awaits gets : Bool) → awaits ≡ true → false ≡ awaits && gets → gets ≡ false
off-now true gets is off = sym off
off-now false gets is off = absurd cc

module _ (rules : RuleSet) (e : Event) (past : List Event) (are : AreJudged rules (e ∷ past)) (lawful : first_broken rules (e ∷ past) ≡ None) (d : Incoming) (kept : IsKept past d) where
  before : first_broken rules past ≡ None
  before = lawful-past rules e past lawful

  abbrev is_copy : Link → Outgoing → Bool
  is_copy l j = is_on l j && names d.number j.note

  -- a part of one that has begun is of that one
  same-part : (j x : Outgoing) → outgoing_at j.number past ≡ Some j → j.number < length past → e.outgoing ≡ Some x → (x.number == j.number) ≡ true → x ≡ j
  same-part j x at below is same = by (subst (λ (o : Option Outgoing). IfSome o (IsPartOf e past)) is (judged-outgoing_part rules e past are))
    where
      number : x.number ≡ j.number
      number = eqb-true x.number j.number same

      by : IsPartOf e past x → x ≡ j
      by (inl (l, on, going)) = same_some x j (sym (judged-carrying rules past are.1 before l x going).1.at ∙ (ap (λ n. outgoing_at n past) number ∙ at))
      by (inr (new, note, on)) = absurd (omega (arith, below, number, new))

  module _ (l : Link) (awaits : awaits_verdict rules d past l ≡ true) where
    -- the copy begins with the event
    of-begun : (j : Outgoing) → is_copy l j ≡ true → outgoing_begun e ≡ Some j → Gives e past d l
    of-begun j passes begun =
        inr (inl (ap (λ o. is_some_and o (λ (x : Outgoing). names d.number x.note)) (passing (λ (x : Outgoing). x.number == e.number) e.outgoing j begun).0
        ∙ (and-both (is_on l j) (names d.number j.note) passes).1))

    -- it began before
    module _ (j : Outgoing) (is : copy_on d l past ≡ Some j) where
      named-j : names d.number j.note ≡ true
      named-j = (and-both (is_on l j) (names d.number j.note) (found-passes (is_copy l) (outgoing_deliveries past) j is)).1

      begun-j : Contains (outgoing_deliveries past) j
      begun-j = find_has (is_copy l) (outgoing_deliveries past) j is

      at-j : outgoing_at j.number past ≡ Some j
      at-j = contained-at rules past are.1 j begun-j

      undecided-j : decision j past ≡ None
      undecided-j =
          undecided-by (is_due rules d l past) (decision j past) (is_sent_settled j past) (if is_live past l then None else Some Modified)
          (ap (λ o. is_due rules d l past && is_none (verdict_on past l o)) (sym is) ∙ awaits)

      of-part : (o : Option Outgoing) → e.outgoing ≡ o → is_some_and o (λ other. other.number == j.number) ≡ true → is_some_and o (λ x. names d.number x.note) ≡ true
      of-part None none part = absurd cc
      of-part (Some x) is_part_of part =
          ap (λ (y : Outgoing). names d.number y.note) (same-part j x at-j (found-begun rules past are.1 before (is_copy l) j is).below is_part_of part) ∙ named-j

      of-older : is_none (sent_verdict (deciding_now e past j) (ends_settled e j)) ≡ false → Gives e past d l
      of-older gets =
          let last : Bool = is_part j e && is_some_and (out_transfer e) (λ fields. not (flag fields.more)) in
          elim (given-by j.link.is_pre_settled (is_live past j.link) last (answering j e) gets) [
            | inl ends ↦ inr (inl (of-part e.outgoing refl (and-both (is_part j e) (is_some_and (out_transfer e) (λ fields. not (flag fields.more))) ends).0))
            | inr says ↦ inr (inr (record {
              copy = j;
              begun = begun-j;
              at = at-j;
              named = named-j;
              unsettled = says.0;
              lives = says.1;
              undecided = undecided-j;
              speaks = says.2;
            }))
          ]

    abbrev gets_of : Option Outgoing → Option Outcome
    gets_of o = option_and_then (λ j. sent_verdict (deciding_now e past j) (ends_settled e j)) o

    earlier : (o : Option Outgoing) → copy_on d l past ≡ o → is_none (gets_of o) ≡ false → Gives e past d l
    earlier None is gets = absurd cc
    earlier (Some j) is gets = of-older j is gets

    by-copy : (o : Option Outgoing) → outgoing_begun e ≡ o → is_none (gets_of (find (is_copy l) (cons_option o (outgoing_deliveries past)))) ≡ false → Gives e past d l
    by-copy None none gets = earlier (copy_on d l past) refl gets
    by-copy (Some k) begun gets = by (is_copy l k) refl gets
      where
        by : (b : Bool) → is_copy l k ≡ b → is_none (gets_of (if b then Some k else copy_on d l past)) ≡ false → Gives e past d l
        by true passes gets = of-begun k passes begun
        by false other gets = earlier (copy_on d l past) refl gets

    none-of : (o : Option Outcome) → is_none (or_else o None) ≡ false → is_none o ≡ false
    none-of None is = is
    none-of (Some outcome) is = refl

    by-end : (ends : Bool) → ends_link l e ≡ ends → is_none (or_else (begun_verdict_by e past d l) (if ends then Some Modified else None)) ≡ false → Gives e past d l
    by-end true ends gets = inl ends
    by-end false stays gets = by-copy (outgoing_begun e) refl (none-of (begun_verdict_by e past d l) gets)

  -- ---- one that has all verdicts behind the event, and not before

  pub last-verdict : completes d e ≡ false → has_all_verdicts rules d past ≡ false → has_all_verdicts rules d (e ∷ past) ≡ true → IsLast rules e past d
  last-verdict other was now =
      let behind = cons-none (awaits_verdict rules d (e ∷ past)) (own_link e) (links past) (not-true (list_any (awaits_verdict rules d (e ∷ past)) (links (e ∷ past))) now) in
      let one = one-of (λ (l : Link). (link_at l.number past ≡ Some l) × (l.number < length past)) (awaits_verdict rules d past) (awaits_verdict rules d (e ∷ past)) (links past)
      (links-found rules past are.1) (not-false (list_any (awaits_verdict rules d past) (links past)) was) behind in
      let l = one.0 in
      let found = (kept-later rules e past are d kept).at in
      let awaits : awaits_now rules e past d l ≡ true = ap (λ b. if b then comes_due rules l e past else awaits_verdict rules d past l) other ∙ one.2 in
      let gets = off-now (awaits_now rules e past d l) (is_none (verdict_by e past d l)) awaits (sym one.3 ∙ awaits_verdict_moves rules e past are lawful d found l one.1.0) in
      record {
        link = l;
        at = one.1.0;
        lives = lives-live rules past are.1 l one.1.0 (awaits_now-live rules e past are lawful d found l one.1.0 awaits);
        awaits = one.2;
        gives = by-end l one.2 (ends_link l e) refl gets;
      }
