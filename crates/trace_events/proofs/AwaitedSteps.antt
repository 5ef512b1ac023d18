-- What one more event does to the copies that await their verdict, and to the verdicts that a delivery has, in a lawful
-- history, whatever the event.
use Rattle.std.proofs.Common.{◌≡◌, refl, sym, ap, subst, ◌∙◌, ℕ, ◌<◌, Bool, true, false, not, ◌&&◌, ◌||◌, ◌==◌, List, [], ◌∷◌, length, Option, Some, None, bytes_eq, is_none, option_and_then, if◌then◌else◌, inl, inr, arith, eqb-true}
use Rattle.std.specs.Prelude.{Contains}
use Rattle.std.specs.List.{AllByRecursion, cons_option, list_any}
use Rattle.amqp_perf.specs.declared.descriptor.Outcome.{Outcome}
use Rattle.amqp_perf.specs.declared.descriptor.Outcome.TheVariants.{Modified}
use Rattle.capture_form.specs.Rules.{RuleSet}
use Rattle.trace_events.specs.Words.{is_some_and, or_else}
use Rattle.trace_events.specs.Event.{Event, Link, Incoming, Outgoing}
use Rattle.trace_events.specs.declared.session.Session.{Session}
use Rattle.trace_events.specs.Connection.{is_over}
use Rattle.trace_events.specs.Session.{live_session, last_session}
use Rattle.trace_events.specs.Address.{is_consumer_of}
use Rattle.trace_events.specs.Link.{is_consumer, is_live, link_at, links, live_link, own_link, session_link}
use Rattle.trace_events.specs.Ends.{ends_link}
use Rattle.trace_events.specs.Incoming.{address_of, completed_by, completes, incoming_at, incoming_begun, is_complete}
use Rattle.trace_events.specs.Outgoing.{outgoing_deliveries, is_on, names, is_named_on, decision}
use Rattle.trace_events.specs.Waiting.{is_of_multicast}
use Rattle.trace_events.specs.Queue.{completed_deliveries}
use Rattle.trace_events.specs.Due.{is_copied_to, is_due}
use Rattle.trace_events.specs.Work.{comes_due}
use Rattle.trace_events.specs.Clauses.{first_broken}
use Rattle.trace_events.specs.Outcome.{is_sent_settled}
use Rattle.trace_events.specs.CopyVerdict.{copy_on, sent_verdict, begun_verdict, copy_verdict, deciding_now, ends_settled, begun_verdict_by, verdict_by, awaits_verdict, awaits_now}
use Rattle.trace_events.specs.BestVerdict.{is_same_outcome, is_verdict, has_verdict, has_all_verdicts}
use Rattle.trace_events.proofs.Along.{and_first, and_last, and_then_some, some_passes}
use Rattle.trace_events.proofs.Judged.{AreJudged}
use Rattle.trace_events.proofs.WaitingSteps.{is_of_multicast-same}
use Rattle.trace_events.proofs.LinkLives.{judged-stands}
use Rattle.trace_events.proofs.LinkNumbers.{links-found, own_link-number}
use Rattle.trace_events.proofs.SessionNumbers.{last_session-known}
use Rattle.trace_events.proofs.BegunDeliveries.{found-begun}
use Rattle.trace_events.proofs.ClausesMet.{lawful-past}
use Rattle.trace_events.proofs.Incomings.{judged-sound}
use Rattle.trace_events.proofs.IncomingProgress.{judged-kept}
use Rattle.trace_events.proofs.LinkEnds.{is_live-next}
use Rattle.trace_events.proofs.OneConsumer.{found-at}
use Rattle.trace_events.proofs.Parts.{IsKept, delivery_kept}
use Rattle.trace_events.proofs.UnsentCopies.{completed-unnamed, due_complete}
use Rattle.trace_events.proofs.WaitingQueue.{all_contained, completed_once, contains_first, each_completed}
use Rattle.trace_events.proofs.VerdictSteps.{found-passes, copy_verdict_moves, begun_verdict_given}

-- ---- a link that a copy is due to was opened before

last_of : (over : Bool) (last : Option Session) (s : Session) → (if over then None else last) ≡ Some s → last ≡ Some s
last_of true last s is = absurd cc
last_of false last s is = is

lives_below : (rules : RuleSet) (past : List Event) → AreJudged rules past → (l : Link) → is_live past l ≡ true → l.number < length past
lives_below rules past are l is =
    let found = some_passes (λ (m : Link). m.number == l.number) (live_link l.session.connection l.session.channel l.handle past) is in
    let on = and_then_some (λ (s : Session). session_link s l.handle past) (live_session l.session.connection l.session.channel past) found.0 found.1 in
    let known = last_session-known rules past are l.session.connection l.session.channel on.0
    (last_of (is_over l.session.connection past) (last_session l.session.connection l.session.channel past) on.0 on.1) in
    let lt = ((judged-stands rules past are).known on.0 l.handle found.0 known on.2).before in
    let same = eqb-true found.0.number l.number found.2 in
    omega (arith, lt, same)

comes_due-live : (rules : RuleSet) (l : Link) (e : Event) (past : List Event) → comes_due rules l e past ≡ true → is_live past l ≡ true
comes_due-live rules l e past is =
    let copied : is_copied_to rules l e past ≡ true = and_first (is_copied_to rules l e past) _ is in
    let d = some_passes (λ d. is_of_multicast rules d (e ∷ past) && is_consumer_of (address_of d (e ∷ past)) past l) (completed_by e) copied in
    let mine : is_consumer_of (address_of d.0 (e ∷ past)) past l ≡ true = and_last (is_of_multicast rules d.0 (e ∷ past)) (is_consumer_of (address_of d.0 (e ∷ past)) past l) d.2 in
    and_last (is_consumer l && bytes_eq l.address (address_of d.0 (e ∷ past))) (is_live past l) mine

pub due_below : (rules : RuleSet) (past : List Event) → AreJudged rules past → (d : Incoming) (l : Link) → is_due rules d l past ≡ true → l.number < length past
due_below rules [] are d l due = absurd cc
due_below rules (e ∷ past) are d l due = by (completes d e) (due_below rules past are.1 d l) due
  where
    by : (b : Bool) → (is_due rules d l past ≡ true → l.number < length past) → (if b then comes_due rules l e past else is_due rules d l past) ≡ true → l.number < length (e ∷ past)
    by true earlier is = let lt = lives_below rules past are.1 l (comes_due-live rules l e past is) in omega (arith, lt)
    by false earlier is = let lt = earlier is in omega (arith, lt)

-- ---- copies are of multicast deliveries alone

same_some : {A : Type 0} (a b : A) → Some a ≡ Some b → a ≡ b
same_some a b is = cc

comes_due-many : (rules : RuleSet) (e : Event) (past : List Event) → AreJudged rules (e ∷ past) → (d : Incoming) → incoming_at d.number (e ∷ past) ≡ Some d → (l : Link) → completes d e ≡ true
    → comes_due rules l e past ≡ true → is_of_multicast rules d (e ∷ past) ≡ true
comes_due-many rules e past are d found l here is =
    let x = some_passes (λ x. is_of_multicast rules x (e ∷ past) && is_consumer_of (address_of x (e ∷ past)) past l) (completed_by e) (and_first (is_copied_to rules l e past) _ is) in
    let own = some_passes (λ (x : Incoming). x.number == d.number) (completed_by e) here in
    let both : x.0 ≡ own.0 = same_some x.0 own.0 (sym x.1 ∙ own.1) in
    let listed : Contains (completed_deliveries (e ∷ past)) own.0 = subst (λ o. Contains (cons_option o (completed_deliveries past)) own.0) (sym own.1) (contains_first own.0 (completed_deliveries past)) in
    let all = judged-kept rules (e ∷ past) are in
    let kept = all_contained (IsKept (e ∷ past)) (completed_deliveries (e ∷ past)) own.0 (each_completed (IsKept (e ∷ past)) (e ∷ past) all.each) listed in
    let same : own.0 ≡ d = same_some own.0 d (sym kept.at ∙ (ap (λ n. incoming_at n (e ∷ past)) (eqb-true own.0.number d.number own.2) ∙ found)) in
    ap (λ y. is_of_multicast rules y (e ∷ past)) (sym same ∙ sym both) ∙ and_first (is_of_multicast rules x.0 (e ∷ past)) (is_consumer_of (address_of x.0 (e ∷ past)) past l) x.2

pub due-many : (rules : RuleSet) (past : List Event) → AreJudged rules past → (d : Incoming) → incoming_at d.number past ≡ Some d → (l : Link) → is_due rules d l past ≡ true → is_of_multicast rules d past ≡ true
due-many rules [] are d found l due = absurd cc
due-many rules (e ∷ past) are d found l due = by (completes d e) refl (λ old is. due-many rules past are.1 d old l is) due
  where
    by : (b : Bool) → completes d e ≡ b → (incoming_at d.number past ≡ Some d → is_due rules d l past ≡ true → is_of_multicast rules d past ≡ true) → (if b then comes_due rules l e past else is_due rules d l past) ≡ true → is_of_multicast rules d (e ∷ past) ≡ true
    by true here earlier is = comes_due-many rules e past are d found l here is
    by false other earlier is = elim (found-at rules e past are d.number d (incoming_begun e) refl found) [
      | inl old ↦ is_of_multicast-same d e past rules other ∙ earlier old is
      | inr new ↦
          let never : is_complete d past ≡ false = (judged-sound rules past are.1).fresh d (omega (arith, new)) in
          let done : is_complete d past ≡ true = due_complete rules past d l is in
          absurd cc
    ]

-- ---- of a delivery that the event completes no copy was begun

module _ (rules : RuleSet) (e : Event) (past : List Event) (are : AreJudged rules (e ∷ past)) (lawful : first_broken rules (e ∷ past) ≡ None) where
  was_lawful : first_broken rules past ≡ None
  was_lawful = lawful-past rules e past lawful

  pub completed-uncopied : (d : Incoming) (l : Link) → completes d e ≡ true → copy_on d l (e ∷ past) ≡ None
  completed-uncopied d l here = by (copy_on d l (e ∷ past)) refl
    where
      by : (o : Option Outgoing) → copy_on d l (e ∷ past) ≡ o → o ≡ None
      by None is = refl
      by (Some j) is =
          let b = found-begun rules (e ∷ past) are lawful (λ (x : Outgoing). is_on l x && names d.number x.note) j is in
          let passes = found-passes (λ (x : Outgoing). is_on l x && names d.number x.note) (outgoing_deliveries (e ∷ past)) j is in
          let named : names d.number j.note ≡ true = and_last (is_on l j) (names d.number j.note) passes in
          let number : b.delivery.number ≡ d.number = eqb-true b.delivery.number d.number (sym (ap (names d.number) b.named) ∙ named) in
          let its : completes b.delivery e ≡ true = ap (λ (n : ℕ). is_some_and (completed_by e) (λ x. x.number == n)) number ∙ here in
          let never : is_named_on b.delivery j.link (e ∷ past) ≡ false = completed-unnamed rules j.link e past are was_lawful b.delivery its in
          let before = b.named_on in
          absurd cc

  -- ---- bits

  here-bits : (comes live ends : Bool) → (comes ≡ true → live ≡ true)
      → comes && is_none (if live && not ends then None else Some Modified) ≡ comes && is_none (if ends then Some Modified else None)
  here-bits false live ends lives = refl
  here-bits true true true lives = refl
  here-bits true true false lives = refl
  here-bits true false ends lives = absurd (let never : false ≡ true = lives refl in cc)

  here-such : (outcome : Outcome) (comes live ends : Bool) → (comes ≡ true → live ≡ true)
      → comes && is_some_and (if live && not ends then None else Some Modified) (is_same_outcome outcome) ≡ comes && is_some_and (if ends then Some Modified else None) (is_same_outcome outcome)
  here-such outcome false live ends lives = refl
  here-such outcome true true true lives = refl
  here-such outcome true true false lives = refl
  here-such outcome true false ends lives = absurd (let never : false ≡ true = lives refl in cc)

  stays-bits : (due : Bool) (was now : Option Outcome) → due && is_none (or_else was now) ≡ (due && is_none was) && is_none now
  stays-bits false was now = refl
  stays-bits true None now = refl
  stays-bits true (Some outcome) now = refl

  stays-such : (outcome : Outcome) (due : Bool) (was now : Option Outcome)
      → due && is_some_and (or_else was now) (is_same_outcome outcome) ≡ due && is_some_and was (is_same_outcome outcome) || (due && is_none was) && is_some_and now (is_same_outcome outcome)
  stays-such outcome false was now = refl
  stays-such outcome true None now = refl
  stays-such outcome true (Some other) now = sym (or-off (is_same_outcome outcome other))
    where
      or-off : (b : Bool) → b || false ≡ b
      or-off true = refl
      or-off false = refl

  -- ---- one copy

  module _ (d : Incoming) (found : incoming_at d.number (e ∷ past) ≡ Some d) (l : Link) (at : link_at l.number past ≡ Some l) where
    abbrev ended : Option Outcome
    ended = if ends_link l e then Some Modified else None

    abbrev over : Option Outcome
    over = if is_live past l && not (ends_link l e) then None else Some Modified

    -- one that the event completes
    module _ (here : completes d e ≡ true) where
      none : copy_on d l (e ∷ past) ≡ None
      none = completed-uncopied d l here

      due_here : is_due rules d l (e ∷ past) ≡ comes_due rules l e past
      due_here = ap (λ b. if b then comes_due rules l e past else is_due rules d l past) here

      verdict_here : copy_verdict d l (e ∷ past) ≡ over
      verdict_here =
          ap (λ o. or_else (option_and_then (λ j. sent_verdict (decision j (e ∷ past)) (is_sent_settled j (e ∷ past))) o) (if is_live (e ∷ past) l then None else Some Modified)) none
          ∙ ap (λ b. if b then None else Some Modified) (is_live-next rules e past are l at)

      by_here : verdict_by e past d l ≡ ended
      by_here = ap (λ o. or_else (option_and_then (λ j. sent_verdict (deciding_now e past j) (ends_settled e j)) o) ended) none

      awaits_here : awaits_verdict rules d (e ∷ past) l ≡ awaits_now rules e past d l && is_none (verdict_by e past d l)
      awaits_here =
          ap (λ b. b && is_none (copy_verdict d l (e ∷ past))) due_here
          ∙ (ap (λ o. comes_due rules l e past && is_none o) verdict_here
          ∙ (here-bits (comes_due rules l e past) (is_live past l) (ends_link l e) (comes_due-live rules l e past)
          ∙ sym (ap (λ b. (if b then comes_due rules l e past else awaits_verdict rules d past l) && is_none (verdict_by e past d l)) here
          ∙ ap (λ o. comes_due rules l e past && is_none o) by_here)))

      not_before : is_due rules d l past ≡ false
      not_before = by (is_due rules d l past) refl
        where
          by : (b : Bool) → is_due rules d l past ≡ b → b ≡ false
          by false is = refl
          by true is = let never : completes d e ≡ false = completed_once rules e past are d (due_complete rules past d l is) in absurd cc

      such_here : (outcome : Outcome) → is_verdict rules d (e ∷ past) outcome l
          ≡ is_verdict rules d past outcome l || awaits_now rules e past d l && is_some_and (verdict_by e past d l) (is_same_outcome outcome)
      such_here outcome =
          ap (λ b. b && is_some_and (copy_verdict d l (e ∷ past)) (is_same_outcome outcome)) due_here
          ∙ (ap (λ o. comes_due rules l e past && is_some_and o (is_same_outcome outcome)) verdict_here
          ∙ (here-such outcome (comes_due rules l e past) (is_live past l) (ends_link l e) (comes_due-live rules l e past)
          ∙ sym (ap (λ b. b && is_some_and (copy_verdict d l past) (is_same_outcome outcome) || awaits_now rules e past d l && is_some_and (verdict_by e past d l) (is_same_outcome outcome)) not_before
          ∙ (ap (λ b. (if b then comes_due rules l e past else awaits_verdict rules d past l) && is_some_and (verdict_by e past d l) (is_same_outcome outcome)) here
          ∙ ap (λ o. comes_due rules l e past && is_some_and o (is_same_outcome outcome)) by_here))))

    -- one that it doesn't
    module _ (other : completes d e ≡ false) where
      due_still : is_due rules d l (e ∷ past) ≡ is_due rules d l past
      due_still = ap (λ b. if b then comes_due rules l e past else is_due rules d l past) other

      undue : d.number ≡ length past → is_due rules d l past ≡ false
      undue new = by (is_due rules d l past) refl
        where
          by : (b : Bool) → is_due rules d l past ≡ b → b ≡ false
          by false is = refl
          by true is =
              let never : is_complete d past ≡ false = (judged-sound rules past are.1).fresh d (omega (arith, new)) in
              let done : is_complete d past ≡ true = due_complete rules past d l is in
              absurd cc

      off-bits : (due : Bool) (o p q : Option Outcome) → due ≡ false → due && is_none o ≡ (due && is_none p) && is_none q
      off-bits due o p q is = rw is refl

      off-such : (outcome : Outcome) (due : Bool) (o p q : Option Outcome) → due ≡ false
          → due && is_some_and o (is_same_outcome outcome) ≡ due && is_some_and p (is_same_outcome outcome) || (due && is_none p) && is_some_and q (is_same_outcome outcome)
      off-such outcome due o p q is = rw is refl

      now_still : awaits_now rules e past d l ≡ awaits_verdict rules d past l
      now_still = ap (λ b. if b then comes_due rules l e past else awaits_verdict rules d past l) other

      awaits_other : is_of_multicast rules d past ≡ true → awaits_verdict rules d (e ∷ past) l ≡ awaits_now rules e past d l && is_none (verdict_by e past d l)
      awaits_other many =
          ap (λ b. b && is_none (copy_verdict d l (e ∷ past))) due_still
          ∙ (elim (found-at rules e past are d.number d (incoming_begun e) refl found) [
            | inl old ↦
                ap (λ o. is_due rules d l past && is_none o) (copy_verdict_moves rules e past are lawful d (delivery_kept rules past d.number d (judged-kept rules past are.1) old) many l at)
                ∙ stays-bits (is_due rules d l past) (copy_verdict d l past) (verdict_by e past d l)
            | inr new ↦ off-bits (is_due rules d l past) (copy_verdict d l (e ∷ past)) (copy_verdict d l past) (verdict_by e past d l) (undue new)
          ]
          ∙ sym (ap (λ b. b && is_none (verdict_by e past d l)) now_still))

      such_other : is_of_multicast rules d past ≡ true → (outcome : Outcome) → is_verdict rules d (e ∷ past) outcome l
          ≡ is_verdict rules d past outcome l || awaits_now rules e past d l && is_some_and (verdict_by e past d l) (is_same_outcome outcome)
      such_other many outcome =
          ap (λ b. b && is_some_and (copy_verdict d l (e ∷ past)) (is_same_outcome outcome)) due_still
          ∙ (elim (found-at rules e past are d.number d (incoming_begun e) refl found) [
            | inl old ↦
                ap (λ o. is_due rules d l past && is_some_and o (is_same_outcome outcome)) (copy_verdict_moves rules e past are lawful d (delivery_kept rules past d.number d (judged-kept rules past are.1) old) many l at)
                ∙ stays-such outcome (is_due rules d l past) (copy_verdict d l past) (verdict_by e past d l)
            | inr new ↦ off-such outcome (is_due rules d l past) (copy_verdict d l (e ∷ past)) (copy_verdict d l past) (verdict_by e past d l) (undue new)
          ]
          ∙ sym (ap (λ b. is_verdict rules d past outcome l || b && is_some_and (verdict_by e past d l) (is_same_outcome outcome)) now_still))

    -- one of anycast has no copies
    module _ (one : is_of_multicast rules d (e ∷ past) ≡ false) where
      undue_then : is_due rules d l (e ∷ past) ≡ false
      undue_then = by (is_due rules d l (e ∷ past)) refl
        where
          by : (b : Bool) → is_due rules d l (e ∷ past) ≡ b → b ≡ false
          by false is = refl
          by true is = let never = due-many rules (e ∷ past) are d found l is in absurd cc

      undue_now : awaits_now rules e past d l ≡ false
      undue_now = by (completes d e) refl
        where
          by : (b : Bool) → completes d e ≡ b → (if b then comes_due rules l e past else awaits_verdict rules d past l) ≡ false
          by true here = sym (due_here here) ∙ undue_then
          by false other = ap (λ b. b && is_none (copy_verdict d l past)) (sym (due_still other) ∙ undue_then)

      undue_before : is_due rules d l past ≡ false
      undue_before = by (completes d e) refl
        where
          by : (b : Bool) → completes d e ≡ b → is_due rules d l past ≡ false
          by true here = not_before here
          by false other = sym (due_still other) ∙ undue_then

      awaits_one : awaits_verdict rules d (e ∷ past) l ≡ awaits_now rules e past d l && is_none (verdict_by e past d l)
      awaits_one = ap (λ b. b && is_none (copy_verdict d l (e ∷ past))) undue_then ∙ sym (ap (λ b. b && is_none (verdict_by e past d l)) undue_now)

      such_one : (outcome : Outcome) → is_verdict rules d (e ∷ past) outcome l
          ≡ is_verdict rules d past outcome l || awaits_now rules e past d l && is_some_and (verdict_by e past d l) (is_same_outcome outcome)
      such_one outcome =
          ap (λ b. b && is_some_and (copy_verdict d l (e ∷ past)) (is_same_outcome outcome)) undue_then
          ∙ sym (ap (λ b. b && is_some_and (copy_verdict d l past) (is_same_outcome outcome) || awaits_now rules e past d l && is_some_and (verdict_by e past d l) (is_same_outcome outcome)) undue_before
          ∙ ap (λ b. b && is_some_and (verdict_by e past d l) (is_same_outcome outcome)) undue_now)

    -- a copy awaits its verdict behind the event where it does with it, and the event gives it none
    pub awaits_verdict_moves : awaits_verdict rules d (e ∷ past) l ≡ awaits_now rules e past d l && is_none (verdict_by e past d l)
    awaits_verdict_moves = by (is_of_multicast rules d (e ∷ past)) refl (completes d e) refl
      where
        by : (many : Bool) → is_of_multicast rules d (e ∷ past) ≡ many → (b : Bool) → completes d e ≡ b → awaits_verdict rules d (e ∷ past) l ≡ awaits_now rules e past d l && is_none (verdict_by e past d l)
        by false one b is = awaits_one one
        by true many true here = awaits_here here
        by true many false other = awaits_other other (sym (is_of_multicast-same d e past rules other) ∙ many)

    -- and has a verdict where it had it, or awaited one that the event gives
    pub is_verdict_moves : (outcome : Outcome) → is_verdict rules d (e ∷ past) outcome l
        ≡ is_verdict rules d past outcome l || awaits_now rules e past d l && is_some_and (verdict_by e past d l) (is_same_outcome outcome)
    is_verdict_moves outcome = by (is_of_multicast rules d (e ∷ past)) refl (completes d e) refl
      where
        by : (many : Bool) → is_of_multicast rules d (e ∷ past) ≡ many → (b : Bool) → completes d e ≡ b → is_verdict rules d (e ∷ past) outcome l
            ≡ is_verdict rules d past outcome l || awaits_now rules e past d l && is_some_and (verdict_by e past d l) (is_same_outcome outcome)
        by false one b is = such_one one outcome
        by true many true here = such_here here outcome
        by true many false other = such_other other (sym (is_of_multicast-same d e past rules other) ∙ many) outcome

    -- while a copy awaits its verdict its link lives
    pub awaits_now-live : awaits_now rules e past d l ≡ true → is_live past l ≡ true
    awaits_now-live = by (completes d e)
      where
        alive : (due : Bool) (sent : Option Outcome) (live : Bool) → due && is_none (or_else sent (if live then None else Some Modified)) ≡ true → live ≡ true
        alive due sent true is = refl
        alive true None false is = absurd cc
        alive true (Some x) false is = absurd cc
        alive false sent false is = absurd cc

        by : (b : Bool) → (if b then comes_due rules l e past else awaits_verdict rules d past l) ≡ true → is_live past l ≡ true
        by true is = comes_due-live rules l e past is
        by false is = alive (is_due rules d l past) (option_and_then (λ j. sent_verdict (decision j past) (is_sent_settled j past)) (copy_on d l past)) (is_live past l) is

    -- what a copy is given that awaits its verdict is the verdict that it has behind the event, as one that was begun
    pub awaited-given : awaits_now rules e past d l ≡ true → begun_verdict d l (e ∷ past) ≡ begun_verdict_by e past d l
    awaited-given = by (completes d e) refl
      where
        by : (b : Bool) → completes d e ≡ b → (if b then comes_due rules l e past else awaits_verdict rules d past l) ≡ true → begun_verdict d l (e ∷ past) ≡ begun_verdict_by e past d l
        by true here is =
            ap (option_and_then (λ j. sent_verdict (decision j (e ∷ past)) (is_sent_settled j (e ∷ past)))) (completed-uncopied d l here)
            ∙ sym (ap (option_and_then (λ j. sent_verdict (deciding_now e past j) (ends_settled e j))) (completed-uncopied d l here))
        by false other is =
            let due : is_due rules d l past ≡ true = and_first (is_due rules d l past) (is_none (copy_verdict d l past)) is in
            elim (found-at rules e past are d.number d (incoming_begun e) refl found) [
              | inl old ↦
                  begun_verdict_given rules e past are lawful d (delivery_kept rules past d.number d (judged-kept rules past are.1) old) (due-many rules past are.1 d old l due) l at
                  (and_last (is_due rules d l past) (is_none (copy_verdict d l past)) is)
              | inr new ↦
                  let never : is_complete d past ≡ false = (judged-sound rules past are.1).fresh d (omega (arith, new)) in
                  let done : is_complete d past ≡ true = due_complete rules past d l due in
                  absurd cc
            ]

  -- ---- a link that the event opens

  -- nothing is due to it
  pub new_link-undue : (d : Incoming) (l : Link) → l.number ≡ length past → is_due rules d l (e ∷ past) ≡ false
  new_link-undue d l new = by (completes d e) refl
    where
      none : (b : Bool) → (b ≡ true → l.number < length past) → b ≡ false
      none false lt = refl
      none true lt = let less = lt refl in absurd (omega (arith, less, new))

      by : (b : Bool) → completes d e ≡ b → is_due rules d l (e ∷ past) ≡ false
      by true here =
          ap (λ b. if b then comes_due rules l e past else is_due rules d l past) here
          ∙ none (comes_due rules l e past) (λ is. lives_below rules past are.1 l (comes_due-live rules l e past is))
      by false other =
          ap (λ b. if b then comes_due rules l e past else is_due rules d l past) other
          ∙ none (is_due rules d l past) (due_below rules past are.1 d l)

  -- ---- all verdicts of a delivery

  any_moves : (p q r : Link → Bool) (ls : List Link) → AllByRecursion (λ l. p l ≡ q l || r l) ls → list_any p ls ≡ list_any q ls || list_any r ls
  any_moves p q r [] each = refl
  any_moves p q r (l ∷ ls) each = ap (λ b. b || list_any p ls) each.0 ∙ (ap (λ b. (q l || r l) || b) (any_moves p q r ls each.1) ∙ shuffle (q l) (r l) (list_any q ls) (list_any r ls))
    where
      shuffle : (a b c d : Bool) → (a || b) || (c || d) ≡ (a || c) || (b || d)
      shuffle true b c d = refl
      shuffle false true true d = refl
      shuffle false true false d = refl
      shuffle false false true d = refl
      shuffle false false false d = refl

  all_by : (P Q : Link → Type 0) → ((l : Link) → P l → Q l) → (ls : List Link) → AllByRecursion P ls → AllByRecursion Q ls
  all_by P Q f [] all = tt
  all_by P Q f (l ∷ ls) all = (f l all.0, all_by P Q f ls all.1)

  module _ (d : Incoming) (found : incoming_at d.number (e ∷ past) ≡ Some d) (outcome : Outcome) where
    abbrev gets : Link → Bool
    gets l = awaits_now rules e past d l && is_some_and (verdict_by e past d l) (is_same_outcome outcome)

    old_links : list_any (is_verdict rules d (e ∷ past) outcome) (links past) ≡ has_verdict rules d past outcome || list_any gets (links past)
    old_links =
        any_moves (is_verdict rules d (e ∷ past) outcome) (is_verdict rules d past outcome) gets (links past)
        (all_by (λ l. (link_at l.number past ≡ Some l) × (l.number < length past)) (λ l. is_verdict rules d (e ∷ past) outcome l ≡ is_verdict rules d past outcome l || gets l)
        (λ l known. is_verdict_moves d found l known.0 outcome) (links past) (links-found rules past are.1))

    -- a delivery has a verdict where it had it, or the event gives it to a copy that awaits one
    pub has_verdict_moves : has_verdict rules d (e ∷ past) outcome ≡ has_verdict rules d past outcome || list_any gets (links past)
    has_verdict_moves = by (own_link e) refl
      where
        by : (o : Option Link) → own_link e ≡ o → list_any (is_verdict rules d (e ∷ past) outcome) (cons_option o (links past)) ≡ has_verdict rules d past outcome || list_any gets (links past)
        by None unopened = old_links
        by (Some m) new =
            ap (λ b. b && is_some_and (copy_verdict d m (e ∷ past)) (is_same_outcome outcome) || list_any (is_verdict rules d (e ∷ past) outcome) (links past))
            (new_link-undue d m (own_link-number rules e past m are new)) ∙ old_links

  -- ---- a delivery whose copies all have their verdict

  either-none : (a b : Bool) → a || b ≡ false → (a ≡ false) × (b ≡ false)
  either-none false b none = (refl, none)
  either-none true b none = absurd cc

  none_left : (p q r : Link → Bool) (ls : List Link) → AllByRecursion (λ l. p l ≡ q l && r l) ls → list_any q ls ≡ false → list_any p ls ≡ false
  none_left p q r [] each over = refl
  none_left p q r (l ∷ ls) each over =
      let parts = either-none (q l) (list_any q ls) over in
      ap (λ b. b || list_any p ls) (each.0 ∙ ap (λ b. b && r l) parts.0) ∙ none_left p q r ls each.1 parts.1

  -- what was complete gets no more copies, so that each has its verdict still
  module _ (d : Incoming) (found : incoming_at d.number (e ∷ past) ≡ Some d) (complete : is_complete d past ≡ true) where
    later : completes d e ≡ false
    later = completed_once rules e past are d complete

    old-left : has_all_verdicts rules d past ≡ true → list_any (awaits_verdict rules d (e ∷ past)) (links past) ≡ false
    old-left all =
        none_left (awaits_verdict rules d (e ∷ past)) (awaits_verdict rules d past) (λ l. is_none (verdict_by e past d l)) (links past)
        (all_by (λ l. (link_at l.number past ≡ Some l) × (l.number < length past))
        (λ l. awaits_verdict rules d (e ∷ past) l ≡ awaits_verdict rules d past l && is_none (verdict_by e past d l))
        (λ l known. awaits_verdict_moves d found l known.0
        ∙ ap (λ b. (if b then comes_due rules l e past else awaits_verdict rules d past l) && is_none (verdict_by e past d l)) later)
        (links past) (links-found rules past are.1))
        (none-of (list_any (awaits_verdict rules d past) (links past)) all)
      where
        none-of : (b : Bool) → not b ≡ true → b ≡ false
        none-of false is = refl
        none-of true is = absurd cc

    pub has_all-stays : has_all_verdicts rules d past ≡ true → has_all_verdicts rules d (e ∷ past) ≡ true
    has_all-stays all = by (own_link e) refl
      where
        by : (o : Option Link) → own_link e ≡ o → not (list_any (awaits_verdict rules d (e ∷ past)) (cons_option o (links past))) ≡ true
        by None unopened = ap not (old-left all)
        by (Some m) new =
            ap (λ b. not (b && is_none (copy_verdict d m (e ∷ past)) || list_any (awaits_verdict rules d (e ∷ past)) (links past)))
            (new_link-undue d m (own_link-number rules e past m are new)) ∙ ap not (old-left all)
