-- Of the deliveries that are due at some addresses the one that was completed first, and what may begin there.
use Rattle.std.proofs.Common.{◌≡◌, refl, sym, ap, ◌∙◌, ℕ, ◌<◌, Bool, true, false, not, ◌&&◌, ◌||◌, List, Option, Some, None, nat_lt, bytes_eq, if◌then◌else◌, ◌==◌, lt-ltb, arith}
use Rattle.std.proofs.lemmas.Bool.{ltb-false}
use Rattle.std.specs.List.{list_any}
use Rattle.std.proofs.lemmas.Slice.Eq.{bytes_eq-Decides}
use Rattle.capture_form.specs.Rules.{RuleSet}
use Rattle.trace_events.specs.Words.{is_some_and}
use Rattle.trace_events.specs.Event.{Event, Link, Incoming}
use Rattle.trace_events.specs.Incoming.{address_of, completed_before, completion, incoming_deliveries, is_complete}
use Rattle.trace_events.specs.Outgoing.{is_paired}
use Rattle.trace_events.specs.Waiting.{always_had_consumer, is_of_multicast, is_waiting}
use Rattle.trace_events.proofs.Along.{and_last}
use Rattle.trace_events.proofs.Judged.{AreJudged}
use Rattle.trace_events.proofs.CompletionOrder.{before-is}
use Rattle.trace_events.proofs.WaitingQueue.{completed_below}
use Rattle.trace_duties.specs.Diligent.{is_next_waiting}
use Rattle.trace_events.specs.View.{incoming_view}
use Rattle.due_lists.proofs.Members.{none-passes, found-contained}
use Rattle.due_lists.specs.Waiting.{IsDueWaiting, earlier_of, is_ahead}
use Rattle.due_lists.specs.Waking.{MayBegin}
use Rattle.due_lists.specs.declared.begin.DueBegin.{DueBegin}
use Rattle.due_lists.proofs.Chosen.{next-waits}
use Rattle.due_lists.proofs.Woken.{complete-of}

same_some : {A : Type 0} (a b : A) → Some a ≡ Some b → a ≡ b
same_some a b is = cc

both : (a b : Bool) → a ≡ true → b ≡ true → a && b ≡ true
both true b first second = second
both false b first second = absurd cc

off : (b : Bool) → not b ≡ true → b ≡ false
off false is = refl
off true is = absurd cc

-- by the numbers of the records that completed them
numbered : (past : List Event) (a b : Incoming) (m n : ℕ) → completion a past ≡ Some m → completion b past ≡ Some n → completed_before a b past ≡ nat_lt m n
numbered past a b m n first second =
    ap (λ (o : Option ℕ). is_some_and o (λ m. is_some_and (completion b past) (λ n. nat_lt m n))) first ∙ ap (λ (o : Option ℕ). is_some_and o (λ n. nat_lt m n)) second

before-later : (past : List Event) (a b c : Incoming) → completed_before a b past ≡ true → completed_before b c past ≡ true → completed_before a c past ≡ true
before-later past a b c one two =
    let x = before-is past a b one in
    let y = before-is past b c two in
    let same : x.second ≡ y.first = same_some x.second y.first (sym x.completed_then ∙ y.completed) in
    let below = x.lower in
    let above = y.lower in
    let lt : x.first < y.second = omega (arith, below, above, same) in
    numbered past a c x.first y.second x.completed y.completed_then ∙ lt-ltb x.first y.second lt

module _ (rules : RuleSet) (past : List Event) (are : AreJudged rules past) where
  -- neither is before the next
  not-before : (a b d : Incoming) → is_waiting rules b past ≡ true → completed_before b a past ≡ false → completed_before d b past ≡ false → completed_before d a past ≡ false
  not-before a b d waits first second = by (completed_before d a past) refl
    where
      complete : is_complete b past ≡ true
      complete = complete-of (is_of_multicast rules b past) (is_complete b past) (is_paired b past) (always_had_consumer b past) waits

      by : (t : Bool) → completed_before d a past ≡ t → t ≡ false
      by false is = refl
      by true is =
          let x = before-is past d a is in
          let k = completed_below rules past are b complete in
          let one = ltb-false k.0 x.second (sym (numbered past b a k.0 x.second k.1 x.completed_then) ∙ first) in
          let two = ltb-false x.first k.0 (sym (numbered past d b x.first k.0 x.completed k.1) ∙ second) in
          let lt = x.lower in
          absurd (omega (arith, one, two, lt))

  ahead-later : (first : Option DueBegin) (due : DueBegin) (d : Incoming) → is_ahead past first d ≡ true → is_ahead past (Some (earlier_of past first due)) d ≡ true
  ahead-later None due d ahead = absurd cc
  ahead-later (Some a) due d ahead = by (completed_before (incoming_view due.delivery) (incoming_view a.delivery) past) refl
    where
      apart : completed_before (incoming_view due.delivery) (incoming_view a.delivery) past ≡ true → (t : Bool) → completed_before d (incoming_view due.delivery) past ≡ t → not t ≡ true
      apart is false none = refl
      apart is true before =
          let never : false ≡ true = sym (ap not (before-later past d (incoming_view due.delivery) (incoming_view a.delivery) before is)) ∙ ahead in
          absurd cc

      by : (t : Bool) → completed_before (incoming_view due.delivery) (incoming_view a.delivery) past ≡ t → is_ahead past (Some (if t then due else a)) d ≡ true
      by true is = apart is (completed_before d (incoming_view due.delivery) past) refl
      by false is = ahead

  ahead-here : (first : Option DueBegin) (due : DueBegin) (d : Incoming) → is_waiting rules (incoming_view due.delivery) past ≡ true
      → completed_before d (incoming_view due.delivery) past ≡ false → is_ahead past (Some (earlier_of past first due)) d ≡ true
  ahead-here None due d waits none = ap not none
  ahead-here (Some a) due d waits none = by (completed_before (incoming_view due.delivery) (incoming_view a.delivery) past) refl
    where
      by : (t : Bool) → completed_before (incoming_view due.delivery) (incoming_view a.delivery) past ≡ t → is_ahead past (Some (if t then due else a)) d ≡ true
      by true is = ap not none
      by false is = ap not (not-before (incoming_view a.delivery) (incoming_view due.delivery) d waits is none)

  -- what waits at the address of a delivery that comes next there was not completed before it
  next-first : (x d : Incoming) (l : Link) → is_next_waiting rules past x ≡ true → MayBegin rules past d l → address_of d past ≡ address_of x past → completed_before d x past ≡ false
  next-first x d l next h same =
      let test = λ (other : Incoming). bytes_eq (address_of other past) (address_of x past) && is_waiting rules other past && completed_before other x past in
      let none : list_any test (incoming_deliveries past) ≡ false = off (list_any test (incoming_deliveries past)) (and_last (is_waiting rules x past) (not (list_any test (incoming_deliveries past))) next) in
      let fails = none-passes test (incoming_deliveries past) none d (found-contained (λ (y : Incoming). y.number == d.number) (incoming_deliveries past) d h.found) in
      sym (ap (λ b. b && completed_before d x past) (both (bytes_eq (address_of d past) (address_of x past)) (is_waiting rules d past) ((bytes_eq-Decides (address_of d past) (address_of x past)).1 same) h.waits)) ∙ fails

  -- ---- one address more

  pub ahead-more : (first : Option DueBegin) (due : DueBegin) → IsDueWaiting rules due past → (d : Incoming) (l : Link) → MayBegin rules past d l → (seen seen' : Bool)
      → seen' ≡ seen || bytes_eq (address_of d past) (address_of (incoming_view due.delivery) past) → (seen ≡ true → is_ahead past first d ≡ true) → seen' ≡ true
      → is_ahead past (Some (earlier_of past first due)) d ≡ true
  ahead-more first due is d l h seen seen' more ahead now = by seen (bytes_eq (address_of d past) (address_of (incoming_view due.delivery) past)) refl refl (sym more ∙ now)
    where
      by : (a b : Bool) → seen ≡ a → bytes_eq (address_of d past) (address_of (incoming_view due.delivery) past) ≡ b → a || b ≡ true → is_ahead past (Some (earlier_of past first due)) d ≡ true
      by true b was same some = ahead-later first due d (ahead was)
      by false true was same some =
          ahead-here first due d (next-waits rules past (incoming_view due.delivery) is.next)
          (next-first (incoming_view due.delivery) d l is.next h ((bytes_eq-Decides (address_of d past) (address_of (incoming_view due.delivery) past)).0 same))
      by false false was same some = absurd cc

-- ---- of two the one that was completed first

pub other-comes : (past : List Event) (first : Option DueBegin) (other due : DueBegin) → first ≡ Some due
    → completed_before (incoming_view other.delivery) (incoming_view due.delivery) past ≡ true → other ≡ earlier_of past first other
other-comes past first other due is before = sym (ap (λ (o : Option DueBegin). earlier_of past o other) is ∙ ap (λ b. if b then other else due) before)

pub first-stays : (past : List Event) (first : Option DueBegin) (other due : DueBegin) → first ≡ Some due
    → completed_before (incoming_view other.delivery) (incoming_view due.delivery) past ≡ false → due ≡ earlier_of past first other
first-stays past first other due is before = sym (ap (λ (o : Option DueBegin). earlier_of past o other) is ∙ ap (λ b. if b then other else due) before)
