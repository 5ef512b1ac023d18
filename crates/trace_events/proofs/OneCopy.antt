-- In a lawful history at most one delivery to a client on a link names a multicast delivery; and the copy that awaits its
-- verdict begins with the event, or has none before it.
use Rattle.std.proofs.Common.{◌≡◌, refl, sym, ap, subst, ◌∙◌, ◌⊎◌, inl, inr, ℕ, Bool, true, false, ◌&&◌, ◌==◌, List, [], ◌∷◌, Option, Some, None, find, is_none, if◌then◌else◌, eqb-true}
use Rattle.std.specs.List.{cons_option}
use Rattle.amqp_perf.specs.declared.descriptor.Outcome.{Outcome}
use Rattle.amqp_perf.specs.declared.descriptor.Outcome.TheVariants.{Modified}
use Rattle.capture_form.specs.Rules.{RuleSet}
use Rattle.trace_events.specs.Words.{or_else}
use Rattle.trace_events.specs.Event.{Event, Link, Incoming, Outgoing}
use Rattle.trace_events.specs.Link.{is_live, link_at}
use Rattle.trace_events.specs.Incoming.{completes, is_complete, incoming_at}
use Rattle.trace_events.specs.Outgoing.{outgoing_begun, outgoing_deliveries, outgoing_at, names, is_named_on}
use Rattle.trace_events.specs.Waiting.{is_of_multicast}
use Rattle.trace_events.specs.Due.{is_due}
use Rattle.trace_events.specs.Work.{comes_due}
use Rattle.trace_events.specs.Clauses.{first_broken}
use Rattle.trace_events.specs.CopyVerdict.{copy_on, begun_verdict, awaits_verdict, awaits_now}
use Rattle.trace_events.proofs.Along.{and_first, and_last}
use Rattle.trace_events.proofs.Judged.{AreJudged}
use Rattle.trace_events.proofs.BegunDeliveries.{IsBegun, begun-linked, found-begun, kept-later}
use Rattle.trace_events.proofs.ClausesMet.{lawful-past}
use Rattle.trace_events.proofs.Parts.{IsKept}
use Rattle.trace_events.proofs.VerdictSteps.{not_named_before}
use Rattle.trace_events.proofs.AwaitedSteps.{completed-uncopied, due-many}
use Rattle.trace_events.proofs.WaitingQueue.{multicast_stays}

same_some : {A : Type 0} (a b : A) → Some a ≡ Some b → a ≡ b
same_some a b is = cc

-- ---- one copy on a link

-- it is on the link of this number, and names the delivery of that one
abbrev is_copy : ℕ → ℕ → Outgoing → Bool
is_copy link n j = j.link.number == link && names n j.note

module _ (rules : RuleSet) (e : Event) (past : List Event) (are : AreJudged rules (e ∷ past)) (lawful : first_broken rules (e ∷ past) ≡ None)
    (d : Incoming) (found : incoming_at d.number (e ∷ past) ≡ Some d) (link : ℕ) (j : Outgoing) (is : is_copy link d.number j ≡ true) (at : outgoing_at j.number past ≡ Some j) where
  begun_before : IsBegun past j
  begun_before = found-begun rules past are.1 (lawful-past rules e past lawful) (λ (k : Outgoing). k.number == j.number) j at

  carries_it : begun_before.delivery ≡ d
  carries_it =
      let b = begun_before in
      let number : b.delivery.number ≡ d.number = eqb-true b.delivery.number d.number (sym (ap (names d.number) b.named) ∙ and_last (j.link.number == link) (names d.number j.note) is) in
      same_some b.delivery d (sym (kept-later rules e past are b.delivery b.kept).at ∙ (ap (λ n. incoming_at n (e ∷ past)) number ∙ found))

  kept_before : IsKept past d
  kept_before = subst (λ (x : Incoming). IsKept past x) carries_it begun_before.kept

  -- it was of multicast, where it is
  was_many : is_of_multicast rules d (e ∷ past) ≡ true → is_of_multicast rules d past ≡ true
  was_many many =
      let done : is_complete d past ≡ true = subst (λ (x : Incoming). is_complete x past ≡ true) carries_it begun_before.complete in
      sym (multicast_stays rules e past are d done) ∙ many

  -- so no other begins there
  no_other : is_of_multicast rules d past ≡ true → (k : Outgoing) → outgoing_begun e ≡ Some k → is_copy link d.number k ≡ false
  no_other many k begun = by (is_copy link d.number k) refl
    where
      by : (b : Bool) → is_copy link d.number k ≡ b → b ≡ false
      by false other = refl
      by true this =
          let b = begun_before in
          let mine : j.link.number ≡ link = eqb-true j.link.number link (and_first (j.link.number == link) (names d.number j.note) is) in
          let theirs : k.link.number ≡ link = eqb-true k.link.number link (and_first (k.link.number == link) (names d.number k.note) this) in
          let one : j.link ≡ k.link =
          same_some j.link k.link (sym b.linked.at ∙ (ap (λ n. link_at n past) (mine ∙ sym theirs) ∙ (begun-linked rules e past are lawful k begun).at)) in
          let before : is_named_on d k.link past ≡ true =
          subst (λ (m : Link). is_named_on d m past ≡ true) one (subst (λ (x : Incoming). is_named_on x j.link past ≡ true) carries_it b.named_on) in
          let never : is_named_on d k.link past ≡ false =
          not_named_before rules e past are lawful k begun d kept_before (and_last (k.link.number == link) (names d.number k.note) this) many in
          absurd cc

-- the one that is found there is each that there is
pub one-copy : (rules : RuleSet) (past : List Event) → AreJudged rules past → first_broken rules past ≡ None → (d : Incoming) → incoming_at d.number past ≡ Some d → is_of_multicast rules d past ≡ true
    → (link : ℕ) (j : Outgoing) → is_copy link d.number j ≡ true → outgoing_at j.number past ≡ Some j → find (is_copy link d.number) (outgoing_deliveries past) ≡ Some j
one-copy rules [] are lawful d found many link j is at = absurd cc
one-copy rules (e ∷ past) are lawful d found many link j is at =
    by (outgoing_begun e) refl
    (λ old. one-copy rules past are.1 (lawful-past rules e past lawful) d (kept_before rules e past are lawful d found link j is old).at (was_many rules e past are lawful d found link j is old many) link j is old) at
  where
    test : Outgoing → Bool
    test = is_copy link d.number

    by : (o : Option Outgoing) → outgoing_begun e ≡ o → (outgoing_at j.number past ≡ Some j → find test (outgoing_deliveries past) ≡ Some j)
        → find (λ (k : Outgoing). k.number == j.number) (cons_option o (outgoing_deliveries past)) ≡ Some j → find test (cons_option o (outgoing_deliveries past)) ≡ Some j
    by None none earlier at = earlier at
    by (Some k) begun earlier at = which (k.number == j.number) at
      where
        which : (b : Bool) → (if b then Some k else outgoing_at j.number past) ≡ Some j → (if test k then Some k else find test (outgoing_deliveries past)) ≡ Some j
        which true at = ap (λ b. if b then Some k else find test (outgoing_deliveries past)) (ap test (same_some k j at) ∙ is) ∙ at
        which false old =
            ap (λ b. if b then Some k else find test (outgoing_deliveries past)) (no_other rules e past are lawful d found link j is old (was_many rules e past are lawful d found link j is old many) k begun) ∙ earlier old

-- ---- one that awaits its verdict

none-else : (due : Bool) (o : Option Outcome) (live : Bool) → due && is_none (or_else o (if live then None else Some Modified)) ≡ true → o ≡ None
none-else true None live is = refl
none-else true (Some x) live is = absurd cc
none-else false o live is = absurd cc

module _ (rules : RuleSet) (e : Event) (past : List Event) (are : AreJudged rules (e ∷ past)) (lawful : first_broken rules (e ∷ past) ≡ None)
    (d : Incoming) (found : incoming_at d.number (e ∷ past) ≡ Some d) (l : Link) (awaits : awaits_now rules e past d l ≡ true) where
  -- it is due
  pub awaits-due : is_due rules d l (e ∷ past) ≡ true
  awaits-due = by (completes d e) awaits
    where
      by : (b : Bool) → (if b then comes_due rules l e past else awaits_verdict rules d past l) ≡ true → (if b then comes_due rules l e past else is_due rules d l past) ≡ true
      by true is = is
      by false is = and_first (is_due rules d l past) _ is

  -- so it is of a multicast delivery
  pub awaits-many : is_of_multicast rules d (e ∷ past) ≡ true
  awaits-many = due-many rules (e ∷ past) are d found l awaits-due

  -- it begins with the event, or had no verdict before
  pub fresh-copy : (j : Outgoing) → copy_on d l (e ∷ past) ≡ Some j → (outgoing_begun e ≡ Some j) ⊎ ((copy_on d l past ≡ Some j) × (begun_verdict d l past ≡ None))
  fresh-copy j is = by (completes d e) refl awaits
    where
      stands : begun_verdict d l past ≡ None → (o : Option Outgoing) → outgoing_begun e ≡ o → find (is_copy l.number d.number) (cons_option o (outgoing_deliveries past)) ≡ Some j
          → (outgoing_begun e ≡ Some j) ⊎ ((copy_on d l past ≡ Some j) × (begun_verdict d l past ≡ None))
      stands none None begun is = inr (is, none)
      stands none (Some k) begun is = which (is_copy l.number d.number k) is
        where
          which : (b : Bool) → (if b then Some k else copy_on d l past) ≡ Some j → (outgoing_begun e ≡ Some j) ⊎ ((copy_on d l past ≡ Some j) × (begun_verdict d l past ≡ None))
          which true is = inl (begun ∙ is)
          which false is = inr (is, none)

      by : (b : Bool) → completes d e ≡ b → (if b then comes_due rules l e past else awaits_verdict rules d past l) ≡ true
          → (outgoing_begun e ≡ Some j) ⊎ ((copy_on d l past ≡ Some j) × (begun_verdict d l past ≡ None))
      by true here due = let none = completed-uncopied rules e past are lawful d l here in absurd cc
      by false other waits = stands (none-else (is_due rules d l past) (begun_verdict d l past) (is_live past l) waits) (outgoing_begun e) refl is
