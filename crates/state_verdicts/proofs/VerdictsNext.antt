-- What one more event makes of the verdicts, by the numbers of their links and deliveries.
use Rattle.std.proofs.Common.{◌≡◌, refl, sym, ap, subst, ◌∙◌, ◌↔◌, ℕ, ◌<◌, Bool, true, false, ◌&&◌, ◌||◌, not, List, [], ◌∷◌, length, find, Option, Some, None, IfSome, is_none, is_some, inl, inr, if◌then◌else◌, ◌==◌, arith, eqb-true, eq-eqb}
use Rattle.std.specs.Prelude.{Contains}
use Rattle.std.specs.List.{AllByRecursion, cons_option, list_any}
use Rattle.amqp_perf.specs.declared.descriptor.Outcome.{Outcome}
use Rattle.amqp_perf.specs.declared.descriptor.Outcome.TheVariants.{Accepted, Rejected, Released, Modified}
use Rattle.capture_form.specs.Rules.{RuleSet}
use Rattle.trace_events.specs.Words.{is_some_and, or_else}
use Rattle.trace_events.specs.Event.{Event, Link, Incoming}
use Rattle.trace_events.specs.declared.session.Session.{Session}
use Rattle.trace_events.specs.Connection.{is_over}
use Rattle.trace_events.specs.Ends.{ends_link}
use Rattle.trace_events.specs.Incoming.{completed_by, completes, incoming_at, incoming_begun, incoming_deliveries, is_complete}
use Rattle.trace_events.specs.Link.{is_live, link_at, own_link, IsLiveLink}
use Rattle.trace_events.specs.Link as law
use Rattle.trace_events.specs.Queue.{completed_deliveries}
use Rattle.trace_events.specs.Session.{last_session}
use Rattle.trace_events.specs.Due.{is_due}
use Rattle.trace_events.specs.Work.{comes_due}
use Rattle.trace_events.proofs.Along.{and_first, and_last}
use Rattle.trace_events.proofs.Judged.{AreJudged}
use Rattle.trace_events.proofs.LinkLives.{judged-stands}
use Rattle.trace_events.proofs.LinkNumbers.{judged-found, link_at-later, links-found, own_link-number}
use Rattle.trace_events.proofs.Links as links
use Rattle.trace_events.proofs.SessionNumbers.{last_session-known}
use Rattle.trace_events.specs.Clauses.{first_broken}
use Rattle.trace_events.proofs.Incomings.{judged-sound}
use Rattle.trace_events.proofs.IncomingProgress.{judged-kept}
use Rattle.trace_events.proofs.LinkEnds.{lives-live}
use Rattle.trace_events.proofs.OneConsumer.{found-at, incoming_at-is}
use Rattle.trace_events.proofs.Parts.{IsKept}
use Rattle.trace_events.proofs.UnsentCopies.{due_complete}
use Rattle.trace_events.proofs.WaitingQueue.{all_contained, completed_once, contains_cases, contains_first, contains_none, each_completed, find_has}
use Rattle.trace_events.specs.CopyVerdict.{copy_verdict, begun_verdict_by, verdict_by, awaits_verdict, awaits_now}
use Rattle.trace_events.specs.BestVerdict.{is_same_outcome, is_verdict, has_verdict}
use Rattle.trace_events.proofs.AwaitedSteps.{awaits_verdict_moves, awaits_now-live, awaited-given, has_verdict_moves, new_link-undue}
use Rattle.state_tables.specs.ConsumerLinks.{has_link}
use Rattle.state_tables.specs.Copies.{AreDue}
use Rattle.state_verdicts.specs.Verdicts.{AreGiven, awaits_at, verdict_at, comes_now, is_given, is_of_copy, is_verdict_of}
use Rattle.state_verdicts.specs.declared.verdicts.CopyVerdict.{CopyVerdict}
use Rattle.state_verdicts.proofs.TableSteps.{and_false, any-gives, any-from, both-ways}

same_some : {A : Type 0} (a b : A) → Some a ≡ Some b → a ≡ b
same_some a b is = cc

pub same-self : (outcome : Outcome) → is_same_outcome outcome outcome ≡ true
same-self Accepted = refl
same-self Rejected = refl
same-self Released = refl
same-self Modified = refl

is_there : {A : Type 0} (o : Option A) → is_some o ≡ true → (x : A) × (o ≡ Some x)
is_there None is = absurd cc
is_there (Some x) is = (x, refl)

last_of : (over : Bool) (last : Option Session) (s : Session) → (if over then None else last) ≡ Some s → last ≡ Some s
last_of true last s is = absurd cc
last_of false last s is = is

pub contained : (P : Link → Type 0) (ls : List Link) (l : Link) → AllByRecursion P ls → Contains ls l → P l
contained P [] l all there = contains_none l there
contained P (m ∷ ls) l all there = elim (contains_cases m ls l there) [
  | inl same ↦ subst P same all.0
  | inr later ↦ contained P ls l all.1 later
]

none_before : (n : ℕ) (o : Option Incoming) (ds : List Incoming) → find (λ d. d.number == n) (cons_option o ds) ≡ None → find (λ d. d.number == n) ds ≡ None
none_before n None ds none = none
none_before n (Some d) ds none = by (d.number == n) none
  where
    by : (b : Bool) → (if b then Some d else find (λ d. d.number == n) ds) ≡ None → find (λ d. d.number == n) ds ≡ None
    by true is = absurd cc
    by false is = is

module _ (rules : RuleSet) (e : Event) (past : List Event) (are : AreJudged rules (e ∷ past)) (lawful : first_broken rules (e ∷ past) ≡ None)
    (due : List ℕ) (given : List CopyVerdict) (ended : List Link)
    (comes : AreDue rules e past due) (gives : AreGiven rules e past given) (all : (l : Link) → Contains ended l ↔ IsLiveLink l past × (ends_link l e ≡ true)) where
  -- ---- the links that end

  -- a live link is found by its number
  found-live : (l : Link) → IsLiveLink l past → links.IsKnown past l
  found-live l live =
      let s = l.session in
      let session = last_session-known rules past are.1 s.connection s.channel s (last_of (is_over s.connection past) (last_session s.connection s.channel past) s live.0) in
      (judged-stands rules past are.1).known s l.handle l session live.1

  ended-is : (l : Link) → link_at l.number past ≡ Some l → is_live past l ≡ true → has_link ended l.number ≡ ends_link l e
  ended-is l at live = both-ways (has_link ended l.number) (ends_link l e) there back
    where
      there : has_link ended l.number ≡ true → ends_link l e ≡ true
      there is =
          let m = any-from (λ (m : Link). m.number == l.number) ended is in
          let of = (all m.0).0 m.1.0 in
          let same : m.0 ≡ l = same_some m.0 l (sym (found-live m.0 of.0).at ∙ (ap (λ k. link_at k past) (eqb-true m.0.number l.number m.1.1) ∙ at)) in
          ap (λ (k : Link). ends_link k e) (sym same) ∙ of.1

      back : ends_link l e ≡ true → has_link ended l.number ≡ true
      back ends = any-gives (λ (m : Link). m.number == l.number) ended l ((all l).1 (lives-live rules past are.1 l at live, ends)) (eq-eqb l.number l.number refl)

  -- ---- what awaits with the event, before verdicts are given

  abbrev came : ℕ → ℕ → Bool
  came link n = comes_now e due link n || awaits_at rules past link n

  came-none : (link n : ℕ) → link_at link past ≡ None → came link n ≡ false
  came-none link n none =
      ap (λ b. is_some_and (completed_by e) (λ d. d.number == n) && b || awaits_at rules past link n) (comes link ∙ ap (λ o. is_some_and o (λ l. comes_due rules l e past)) none)
      ∙ (ap (λ b. b || awaits_at rules past link n) (and_false (is_some_and (completed_by e) (λ d. d.number == n)))
      ∙ ap (λ o. is_some_and o (λ l. is_some_and (incoming_at n past) (λ d. awaits_verdict rules d past l))) none)

  -- of a delivery that there is none of
  completed-there : (d : Incoming) → completed_by e ≡ Some d → incoming_at d.number (e ∷ past) ≡ Some d
  completed-there d is =
      let listed : Contains (completed_deliveries (e ∷ past)) d = subst (λ o. Contains (cons_option o (completed_deliveries past)) d) (sym is) (contains_first d (completed_deliveries past)) in
      (all_contained (IsKept (e ∷ past)) (completed_deliveries (e ∷ past)) d (each_completed (IsKept (e ∷ past)) (e ∷ past) (judged-kept rules (e ∷ past) are).each) listed).at

  came-unbegun : (link n : ℕ) → incoming_at n (e ∷ past) ≡ None → came link n ≡ false
  came-unbegun link n none =
      ap (λ b. b && list_any (λ m. m == link) due || awaits_at rules past link n) (uncompleted (completed_by e) refl)
      ∙ (ap (λ o. is_some_and (link_at link past) (λ l. is_some_and o (λ d. awaits_verdict rules d past l))) (none_before n (incoming_begun e) (incoming_deliveries past) none)
      ∙ nothing (link_at link past))
    where
      nothing : (o : Option Link) → is_some_and o (λ l. false) ≡ false
      nothing None = refl
      nothing (Some l) = refl

      not_it : (d : Incoming) → completed_by e ≡ Some d → (b : Bool) → (d.number == n) ≡ b → b ≡ false
      not_it d is false other = refl
      not_it d is true same =
          let there : incoming_at n (e ∷ past) ≡ Some d = ap (λ m. incoming_at m (e ∷ past)) (sym (eqb-true d.number n same)) ∙ completed-there d is in
          absurd cc

      uncompleted : (o : Option Incoming) → completed_by e ≡ o → is_some_and o (λ d. d.number == n) ≡ false
      uncompleted None is = refl
      uncompleted (Some d) is = not_it d is (d.number == n) refl

  -- ---- of a delivery, on a link that was opened before

  module _ (d : Incoming) (found : incoming_at d.number (e ∷ past) ≡ Some d) where
    undue_before : d.number ≡ length past → (l : Link) → is_due rules d l past ≡ false
    undue_before new l = by (is_due rules d l past) refl
      where
        by : (b : Bool) → is_due rules d l past ≡ b → b ≡ false
        by false is = refl
        by true is =
            let never : is_complete d past ≡ false = (judged-sound rules past are.1).fresh d (omega (arith, new)) in
            let done : is_complete d past ≡ true = due_complete rules past d l is in
            absurd cc

    unbegun_before : d.number ≡ length past → incoming_at d.number past ≡ None
    unbegun_before new = by (incoming_at d.number past) refl (incoming_at-is rules past d.number are.1)
      where
        by : (o : Option Incoming) → incoming_at d.number past ≡ o → IfSome o (λ x. (d.number < length past) × (x.number ≡ d.number)) → o ≡ None
        by None is of = refl
        by (Some x) is of = let lt = of.0 in absurd (omega (arith, lt, new))

    module _ (l : Link) (at : link_at l.number past ≡ Some l) where
      awaited : awaits_at rules past l.number d.number ≡ awaits_verdict rules d past l
      awaited =
          ap (λ o. is_some_and o (λ m. is_some_and (incoming_at d.number past) (λ x. awaits_verdict rules x past m))) at
          ∙ elim (found-at rules e past are d.number d (incoming_begun e) refl found) [
            | inl old ↦ ap (λ o. is_some_and o (λ x. awaits_verdict rules x past l)) old
            | inr new ↦
                ap (λ o. is_some_and o (λ x. awaits_verdict rules x past l)) (unbegun_before new)
                ∙ sym (ap (λ b. b && is_none (copy_verdict d l past)) (undue_before new l))
          ]

      came-is : came l.number d.number ≡ awaits_now rules e past d l
      came-is =
          ap (λ b. completes d e && b || awaits_at rules past l.number d.number) (comes l.number ∙ ap (λ o. is_some_and o (λ m. comes_due rules m e past)) at)
          ∙ (ap (λ b. completes d e && comes_due rules l e past || b) awaited ∙ by (completes d e) refl)
        where
          by : (b : Bool) → completes d e ≡ b → b && comes_due rules l e past || awaits_verdict rules d past l ≡ (if b then comes_due rules l e past else awaits_verdict rules d past l)
          by false other = refl
          by true here = ap (λ b. comes_due rules l e past || b && is_none (copy_verdict d l past)) (not_before (is_due rules d l past) refl) ∙ or_off (comes_due rules l e past)
            where
              or_off : (b : Bool) → b || false ≡ b
              or_off true = refl
              or_off false = refl

              not_before : (b : Bool) → is_due rules d l past ≡ b → b ≡ false
              not_before false is = refl
              not_before true is = let never : completes d e ≡ false = completed_once rules e past are d (due_complete rules past d l is) in absurd cc

      gives-is : awaits_now rules e past d l ≡ true → (outcome : Outcome)
          → list_any (λ v. v.link == l.number && is_verdict_of d.number outcome v) given ≡ is_some_and (begun_verdict_by e past d l) (is_same_outcome outcome)
      gives-is waits outcome = gives l.number d.number l d at found waits outcome ∙ ap (λ o. is_some_and o (is_same_outcome outcome)) (awaited-given rules e past are lawful d found l at waits)

      given-is : awaits_now rules e past d l ≡ true → is_given given l.number d.number ≡ is_some (begun_verdict_by e past d l)
      given-is waits = both-ways (is_given given l.number d.number) (is_some (begun_verdict_by e past d l)) there back
        where
          some_such : (o : Option Outcome) (outcome : Outcome) → is_some_and o (is_same_outcome outcome) ≡ true → is_some o ≡ true
          some_such None outcome is = absurd cc
          some_such (Some x) outcome is = refl

          there : is_given given l.number d.number ≡ true → is_some (begun_verdict_by e past d l) ≡ true
          there is =
              let v = any-from (is_of_copy l.number d.number) given is in
              let link = and_first (v.0.link == l.number) (v.0.delivery == d.number) v.1.1 in
              let delivery = and_last (v.0.link == l.number) (v.0.delivery == d.number) v.1.1 in
              let one : list_any (λ w. w.link == l.number && is_verdict_of d.number v.0.outcome w) given ≡ true =
              any-gives (λ (w : CopyVerdict). w.link == l.number && is_verdict_of d.number v.0.outcome w) given v.0 v.1.0
              (ap (λ b. b && is_verdict_of d.number v.0.outcome v.0) link ∙ (ap (λ b. b && is_same_outcome v.0.outcome v.0.outcome) delivery ∙ same-self v.0.outcome)) in
              some_such (begun_verdict_by e past d l) v.0.outcome (sym (gives-is waits v.0.outcome) ∙ one)

          back : is_some (begun_verdict_by e past d l) ≡ true → is_given given l.number d.number ≡ true
          back is =
              let x = is_there (begun_verdict_by e past d l) is in
              let says : is_some_and (begun_verdict_by e past d l) (is_same_outcome x.0) ≡ true = ap (λ o. is_some_and o (is_same_outcome x.0)) x.1 ∙ same-self x.0 in
              let v = any-from (λ (w : CopyVerdict). w.link == l.number && is_verdict_of d.number x.0 w) given (gives-is waits x.0 ∙ says) in
              any-gives (is_of_copy l.number d.number) given v.0 v.1.0
              (ap (λ b. b && (v.0.delivery == d.number)) (and_first (v.0.link == l.number) (is_verdict_of d.number x.0 v.0) v.1.1)
              ∙ and_first (v.0.delivery == d.number) (is_same_outcome x.0 v.0.outcome) (and_last (v.0.link == l.number) (is_verdict_of d.number x.0 v.0) v.1.1))

      -- what is left when the verdicts are given
      left-is : came l.number d.number && not (is_given given l.number d.number) ≡ awaits_now rules e past d l && is_none (begun_verdict_by e past d l)
      left-is = ap (λ b. b && not (is_given given l.number d.number)) came-is ∙ by (awaits_now rules e past d l) refl
        where
          off : (o : Option Outcome) → not (is_some o) ≡ is_none o
          off None = refl
          off (Some x) = refl

          by : (a : Bool) → awaits_now rules e past d l ≡ a → a && not (is_given given l.number d.number) ≡ a && is_none (begun_verdict_by e past d l)
          by false is = refl
          by true waits = ap not (given-is waits) ∙ off (begun_verdict_by e past d l)

      awaits-here : (came l.number d.number && not (is_given given l.number d.number)) && not (has_link ended l.number) ≡ awaits_verdict rules d (e ∷ past) l
      awaits-here =
          ap (λ b. b && not (has_link ended l.number)) left-is
          ∙ (by (awaits_now rules e past d l) refl (begun_verdict_by e past d l) ∙ sym (awaits_verdict_moves rules e past are lawful d found l at))
        where
          bits : (ends : Bool) (o : Option Outcome) → is_none o && not ends ≡ is_none (or_else o (if ends then Some Modified else None))
          bits true None = refl
          bits false None = refl
          bits ends (Some x) = refl

          by : (a : Bool) → awaits_now rules e past d l ≡ a → (o : Option Outcome)
              → (a && is_none o) && not (has_link ended l.number) ≡ a && is_none (or_else o (if ends_link l e then Some Modified else None))
          by false is o = refl
          by true is o =
              ap (λ b. is_none o && not b) (ended-is l at (awaits_now-live rules e past are lawful d found l at is)) ∙ bits (ends_link l e) o

  -- ---- which copies await their verdict behind the event

  abbrev now : ℕ → ℕ → Bool
  now link n = (came link n && not (is_given given link n)) && not (has_link ended link)

  quiet : (link n : ℕ) → came link n ≡ false → now link n ≡ false
  quiet link n none = ap (λ b. (b && not (is_given given link n)) && not (has_link ended link)) none

  on_old : (link n : ℕ) → (o : Option Link) → link_at link past ≡ o → now link n ≡ is_some_and o (λ l. is_some_and (incoming_at n (e ∷ past)) (λ d. awaits_verdict rules d (e ∷ past) l))
  on_old link n None none = quiet link n (came-none link n none)
  on_old link n (Some l) at =
      let number = (judged-found rules past are.1 link l at).0 in
      subst (λ k. now k n ≡ is_some_and (incoming_at n (e ∷ past)) (λ d. awaits_verdict rules d (e ∷ past) l)) number
      (of_one (incoming_at n (e ∷ past)) refl (incoming_at-is rules (e ∷ past) n are) (ap (λ k. link_at k past) number ∙ at))
    where
      of_one : (p : Option Incoming) → incoming_at n (e ∷ past) ≡ p → IfSome p (λ d. (n < length (e ∷ past)) × (d.number ≡ n)) → link_at l.number past ≡ Some l
          → now l.number n ≡ is_some_and p (λ d. awaits_verdict rules d (e ∷ past) l)
      of_one None none of at = quiet l.number n (came-unbegun l.number n none)
      of_one (Some d) found of at =
          let number = of.1 in
          subst (λ m. now l.number m ≡ awaits_verdict rules d (e ∷ past) l) number (awaits-here d (ap (λ m. incoming_at m (e ∷ past)) number ∙ found) l at)

  pub awaits-next : (link n : ℕ) → now link n ≡ awaits_at rules (e ∷ past) link n
  awaits-next link n = by (own_link e) refl
    where
      none_there : (k : Link) → k.number ≡ length past → (p : Option Incoming) → is_some_and p (λ d. awaits_verdict rules d (e ∷ past) k) ≡ false
      none_there k new None = refl
      none_there k new (Some d) = ap (λ b. b && is_none (copy_verdict d k (e ∷ past))) (new_link-undue rules e past are lawful d k new)

      of_another : (k : Link) → own_link e ≡ Some k → (b : Bool) → (k.number == link) ≡ b
          → now link n ≡ is_some_and (if b then Some k else link_at link past) (λ l. is_some_and (incoming_at n (e ∷ past)) (λ d. awaits_verdict rules d (e ∷ past) l))
      of_another k own false other = on_old link n (link_at link past) refl
      of_another k own true same =
          let number = own_link-number rules e past k are own in
          let link_is = eqb-true k.number link same in
          quiet link n (came-none link n (link_at-later rules past are.1 link (omega (arith, number, link_is)))) ∙ sym (none_there k number (incoming_at n (e ∷ past)))

      by : (o : Option Link) → own_link e ≡ o
          → now link n ≡ is_some_and (find (λ (l : Link). l.number == link) (cons_option o (law.links past))) (λ l. is_some_and (incoming_at n (e ∷ past)) (λ d. awaits_verdict rules d (e ∷ past) l))
      by None unopened = on_old link n (link_at link past) refl
      by (Some k) own = of_another k own (k.number == link) refl

  -- ---- which verdicts a delivery has behind it

  -- of those that are given, the ones that count
  abbrev pub taken_as : ℕ → Outcome → CopyVerdict → Bool
  taken_as n outcome v = came v.link v.delivery && is_verdict_of n outcome v

  abbrev pub modified_at : ℕ → Link → Bool
  modified_at n l = came l.number n && not (is_given given l.number n)

  module _ (d : Incoming) (found : incoming_at d.number (e ∷ past) ≡ Some d) (outcome : Outcome) where
    abbrev gets : Link → Bool
    gets l = awaits_now rules e past d l && is_some_and (verdict_by e past d l) (is_same_outcome outcome)

    abbrev added : Bool
    added = list_any (taken_as d.number outcome) given || is_same_outcome outcome Modified && list_any (modified_at d.number) ended

    begun_such : (sent : Option Outcome) (ends : Bool) → is_some_and sent (is_same_outcome outcome) ≡ true → is_some_and (or_else sent (if ends then Some Modified else None)) (is_same_outcome outcome) ≡ true
    begun_such None ends is = absurd cc
    begun_such (Some x) ends is = is

    ended_such : (sent : Option Outcome) → is_none sent ≡ true → is_same_outcome outcome Modified ≡ true → is_some_and (or_else sent (if true then Some Modified else None)) (is_same_outcome outcome) ≡ true
    ended_such None none is = is
    ended_such (Some x) none is = absurd cc

    of_given : (v : CopyVerdict) → Contains given v → taken_as d.number outcome v ≡ true → list_any gets (law.links past) ≡ true
    of_given v there is = of_link (link_at v.link past) refl
      where
        such : is_verdict_of d.number outcome v ≡ true
        such = and_last (came v.link v.delivery) (is_verdict_of d.number outcome v) is

        came_there : came v.link d.number ≡ true
        came_there =
            subst (λ m. came v.link m ≡ true) (eqb-true v.delivery d.number (and_first (v.delivery == d.number) (is_same_outcome outcome v.outcome) such))
            (and_first (came v.link v.delivery) (is_verdict_of d.number outcome v) is)

        one : list_any (λ w. w.link == v.link && is_verdict_of d.number outcome w) given ≡ true
        one =
            any-gives (λ (w : CopyVerdict). w.link == v.link && is_verdict_of d.number outcome w) given v there
            (ap (λ b. b && is_verdict_of d.number outcome v) (eq-eqb v.link v.link refl) ∙ such)

        of_link : (o : Option Link) → link_at v.link past ≡ o → list_any gets (law.links past) ≡ true
        of_link None none = let never : false ≡ true = sym (came-none v.link d.number none) ∙ came_there in absurd cc
        of_link (Some l) at =
            let number = (judged-found rules past are.1 v.link l at).0 in
            let own : link_at l.number past ≡ Some l = ap (λ k. link_at k past) number ∙ at in
            let waits : awaits_now rules e past d l ≡ true = sym (came-is d found l own) ∙ (ap (λ k. came k d.number) number ∙ came_there) in
            any-gives gets (law.links past) l (find_has (λ (m : Link). m.number == v.link) (law.links past) l at)
            (ap (λ b. b && is_some_and (verdict_by e past d l) (is_same_outcome outcome)) waits
            ∙ begun_such (begun_verdict_by e past d l) (ends_link l e)
            (sym (gives-is d found l own waits outcome) ∙ (ap (λ k. list_any (λ (w : CopyVerdict). w.link == k && is_verdict_of d.number outcome w) given) number ∙ one)))

    of_ended : (l : Link) → Contains ended l → modified_at d.number l ≡ true → is_same_outcome outcome Modified ≡ true → list_any gets (law.links past) ≡ true
    of_ended l there is such =
        let of = (all l).0 there in
        let at = (found-live l of.0).at in
        let left : awaits_now rules e past d l && is_none (begun_verdict_by e past d l) ≡ true = sym (left-is d found l at) ∙ is in
        any-gives gets (law.links past) l (find_has (λ (m : Link). m.number == l.number) (law.links past) l at)
        (ap (λ b. b && is_some_and (verdict_by e past d l) (is_same_outcome outcome)) (and_first (awaits_now rules e past d l) (is_none (begun_verdict_by e past d l)) left)
        ∙ (ap (λ b. is_some_and (or_else (begun_verdict_by e past d l) (if b then Some Modified else None)) (is_same_outcome outcome)) of.1
        ∙ ended_such (begun_verdict_by e past d l) (and_last (awaits_now rules e past d l) (is_none (begun_verdict_by e past d l)) left) such))

    to_link : added ≡ true → list_any gets (law.links past) ≡ true
    to_link is = by (list_any (taken_as d.number outcome) given) refl is
      where
        by : (b : Bool) → list_any (taken_as d.number outcome) given ≡ b → b || is_same_outcome outcome Modified && list_any (modified_at d.number) ended ≡ true → list_any gets (law.links past) ≡ true
        by true some is = let v = any-from (taken_as d.number outcome) given some in of_given v.0 v.1.0 v.1.1
        by false none is =
            let l = any-from (modified_at d.number) ended (and_last (is_same_outcome outcome Modified) (list_any (modified_at d.number) ended) is) in
            of_ended l.0 l.1.0 l.1.1 (and_first (is_same_outcome outcome Modified) (list_any (modified_at d.number) ended) is)

    or_first : (a b : Bool) → a ≡ true → a || b ≡ true
    or_first true b is = refl
    or_first false b is = absurd cc

    or_second : (a b : Bool) → b ≡ true → a || b ≡ true
    or_second true b is = refl
    or_second false b is = is

    of_link : (l : Link) → link_at l.number past ≡ Some l → gets l ≡ true → added ≡ true
    of_link l at is =
        let waits = and_first (awaits_now rules e past d l) (is_some_and (verdict_by e past d l) (is_same_outcome outcome)) is in
        by waits (begun_verdict_by e past d l) refl (ends_link l e) refl (and_last (awaits_now rules e past d l) (is_some_and (verdict_by e past d l) (is_same_outcome outcome)) is)
      where
        by : awaits_now rules e past d l ≡ true → (sent : Option Outcome) → begun_verdict_by e past d l ≡ sent → (ends : Bool) → ends_link l e ≡ ends
            → is_some_and (or_else sent (if ends then Some Modified else None)) (is_same_outcome outcome) ≡ true → added ≡ true
        by waits (Some x) sent ends over such =
            let says : is_some_and (begun_verdict_by e past d l) (is_same_outcome outcome) ≡ true = ap (λ o. is_some_and o (is_same_outcome outcome)) sent ∙ such in
            let v = any-from (λ (w : CopyVerdict). w.link == l.number && is_verdict_of d.number outcome w) given (gives-is d found l at waits outcome ∙ says) in
            let link = eqb-true v.0.link l.number (and_first (v.0.link == l.number) (is_verdict_of d.number outcome v.0) v.1.1) in
            let of = and_last (v.0.link == l.number) (is_verdict_of d.number outcome v.0) v.1.1 in
            let delivery = eqb-true v.0.delivery d.number (and_first (v.0.delivery == d.number) (is_same_outcome outcome v.0.outcome) of) in
            let came_there : came v.0.link v.0.delivery ≡ true = ap (λ k. came k v.0.delivery) link ∙ (ap (λ m. came l.number m) delivery ∙ (came-is d found l at ∙ waits)) in
            or_first (list_any (taken_as d.number outcome) given) (is_same_outcome outcome Modified && list_any (modified_at d.number) ended)
            (any-gives (taken_as d.number outcome) given v.0 v.1.0 (ap (λ b. b && is_verdict_of d.number outcome v.0) came_there ∙ of))
        by waits None sent true over such =
            let live = awaits_now-live rules e past are lawful d found l at waits in
            let left : modified_at d.number l ≡ true =
            left-is d found l at ∙ (ap (λ b. b && is_none (begun_verdict_by e past d l)) waits ∙ ap (λ (o : Option Outcome). is_none o) sent) in
            or_second (list_any (taken_as d.number outcome) given) (is_same_outcome outcome Modified && list_any (modified_at d.number) ended)
            (ap (λ b. b && list_any (modified_at d.number) ended) such ∙ any-gives (modified_at d.number) ended l ((all l).1 (lives-live rules past are.1 l at live, over)) left)
        by waits None sent false over such = absurd cc

    from_link : list_any gets (law.links past) ≡ true → added ≡ true
    from_link is =
        let l = any-from gets (law.links past) is in
        let known = contained (λ m. (link_at m.number past ≡ Some m) × (m.number < length past)) (law.links past) l.0 (links-found rules past are.1) l.1.0 in
        of_link l.0 known.0 l.1.1

    none_any : (ls : List Link) → ((l : Link) → is_verdict rules d past outcome l ≡ false) → list_any (is_verdict rules d past outcome) ls ≡ false
    none_any [] none = refl
    none_any (l ∷ ls) none = ap (λ b. b || list_any (is_verdict rules d past outcome) ls) (none l) ∙ none_any ls none

    had_before : verdict_at rules past d.number outcome ≡ has_verdict rules d past outcome
    had_before = elim (found-at rules e past are d.number d (incoming_begun e) refl found) [
      | inl old ↦ ap (λ o. is_some_and o (λ x. has_verdict rules x past outcome)) old
      | inr new ↦
          ap (λ o. is_some_and o (λ x. has_verdict rules x past outcome)) (unbegun_before d found new)
          ∙ sym (none_any (law.links past) (λ l. ap (λ b. b && is_some_and (copy_verdict d l past) (is_same_outcome outcome)) (undue_before d found new l)))
    ]

    had-here : (verdict_at rules past d.number outcome || list_any (taken_as d.number outcome) given) || is_same_outcome outcome Modified && list_any (modified_at d.number) ended
        ≡ has_verdict rules d (e ∷ past) outcome
    had-here =
        ap (λ b. (b || list_any (taken_as d.number outcome) given) || is_same_outcome outcome Modified && list_any (modified_at d.number) ended) had_before
        ∙ (shift (has_verdict rules d past outcome) (list_any (taken_as d.number outcome) given) (is_same_outcome outcome Modified && list_any (modified_at d.number) ended)
        ∙ (ap (λ b. has_verdict rules d past outcome || b) (both-ways added (list_any gets (law.links past)) to_link from_link) ∙ sym (has_verdict_moves rules e past are lawful d found outcome)))
      where
        shift : (a b c : Bool) → (a || b) || c ≡ a || (b || c)
        shift true b c = refl
        shift false b c = refl

  pub had-next : (n : ℕ) (outcome : Outcome)
      → (verdict_at rules past n outcome || list_any (taken_as n outcome) given) || is_same_outcome outcome Modified && list_any (modified_at n) ended ≡ verdict_at rules (e ∷ past) n outcome
  had-next n outcome = by (incoming_at n (e ∷ past)) refl (incoming_at-is rules (e ∷ past) n are)
    where
      -- of a delivery that there is none of no copy awaits
      quiet_given : incoming_at n (e ∷ past) ≡ None → (vs : List CopyVerdict) → list_any (taken_as n outcome) vs ≡ false
      quiet_given none [] = refl
      quiet_given none (v ∷ vs) = ap (λ b. b || list_any (taken_as n outcome) vs) (of_one (v.delivery == n) refl) ∙ quiet_given none vs
        where
          of_one : (b : Bool) → (v.delivery == n) ≡ b → came v.link v.delivery && (b && is_same_outcome outcome v.outcome) ≡ false
          of_one false other = and_false (came v.link v.delivery)
          of_one true same =
              ap (λ b. b && (true && is_same_outcome outcome v.outcome)) (ap (λ m. came v.link m) (eqb-true v.delivery n same) ∙ came-unbegun v.link n none)

      unmodified : incoming_at n (e ∷ past) ≡ None → (ls : List Link) → list_any (modified_at n) ls ≡ false
      unmodified none [] = refl
      unmodified none (l ∷ ls) = ap (λ b. b && not (is_given given l.number n) || list_any (modified_at n) ls) (came-unbegun l.number n none) ∙ unmodified none ls

      by : (p : Option Incoming) → incoming_at n (e ∷ past) ≡ p → IfSome p (λ d. (n < length (e ∷ past)) × (d.number ≡ n))
          → (verdict_at rules past n outcome || list_any (taken_as n outcome) given) || is_same_outcome outcome Modified && list_any (modified_at n) ended ≡ is_some_and p (λ d. has_verdict rules d (e ∷ past) outcome)
      by None none of =
          ap (λ o. (is_some_and o (λ d. has_verdict rules d past outcome) || list_any (taken_as n outcome) given) || is_same_outcome outcome Modified && list_any (modified_at n) ended)
          (none_before n (incoming_begun e) (incoming_deliveries past) none)
          ∙ (ap (λ b. b || is_same_outcome outcome Modified && list_any (modified_at n) ended) (quiet_given none given)
          ∙ (ap (λ b. is_same_outcome outcome Modified && b) (unmodified none ended) ∙ and_false (is_same_outcome outcome Modified)))
      by (Some d) found of =
          let number = of.1 in
          subst (λ m. (verdict_at rules past m outcome || list_any (taken_as m outcome) given) || is_same_outcome outcome Modified && list_any (modified_at m) ended ≡ has_verdict rules d (e ∷ past) outcome) number
          (had-here d (ap (λ m. incoming_at m (e ∷ past)) number ∙ found) outcome)
