-- A delivery that waits, and one of which a copy is due to a link and unsent, may begin there: it is complete and not gone,
-- and goes there for the first time; a copy is of a multicast delivery of the link's address.
use Rattle.std.proofs.Common.{◌≡◌, refl, sym, ap, subst, ◌∙◌, inl, inr, List, [], ◌∷◌, Bool, true, false, not, ◌&&◌, Option, Some, None, if◌then◌else◌, ◌==◌, arith, eqb-true}
use Rattle.std.specs.Prelude.{nat_lt, ◌-◌}
use Rattle.std.specs.Str.{bytes_eq}
use Rattle.std.proofs.lemmas.Slice.Eq.{bytes_eq-Decides}
use Rattle.capture_form.specs.Rules.{RuleSet}
use Rattle.trace_events.specs.Words.{is_some_and, where_passes}
use Rattle.trace_events.specs.Event.{Event, Link, Incoming}
use Rattle.trace_events.specs.Said.{in_transfer}
use Rattle.trace_events.specs.Link.{is_consumer, is_live}
use Rattle.trace_events.specs.Address.{is_consumer_of}
use Rattle.trace_events.specs.Credit.{link_credit, begun_count}
use Rattle.trace_events.specs.Incoming.{address_of, is_last_part, completed_by, completes, is_complete, incoming_begun, incoming_at}
use Rattle.trace_events.specs.Outgoing.{noted, is_named_on, is_paired}
use Rattle.trace_events.specs.Waiting.{is_of_multicast, is_waiting, is_gone, always_had_consumer}
use Rattle.trace_events.specs.Due.{is_copied_to, due_count, is_due, is_unsent}
use Rattle.trace_events.specs.Work.{comes_due}
use Rattle.trace_events.proofs.Along.{and_first, and_last}
use Rattle.trace_events.proofs.IncomingSteps.{address_of-same}
use Rattle.trace_events.proofs.Judged.{AreJudged}
use Rattle.trace_events.proofs.WaitingSteps.{is_of_multicast-same}
use Rattle.trace_events.specs.TransferClause.{goes_to_one_or_is_due, is_in_order, goes_once_and_in_order}
use Rattle.trace_events.proofs.IncomingProgress.{judged-kept}
use Rattle.trace_events.proofs.Incomings.{judged-sound}
use Rattle.trace_events.proofs.OneConsumer.{some-and, found-at}
use Rattle.trace_events.proofs.Parts.{IsKept, holds_some}
use Rattle.trace_events.proofs.UnsentCopies.{due_complete}

-- ---- a copy that is due

-- its delivery is of multicast, and of the link's address
pub record IsCopy (rules : RuleSet) (l : Link) (past : List Event) (d : Incoming) : Type 0 where
  pub multicast : is_of_multicast rules d past ≡ true
  pub address : address_of d past ≡ l.address

same_some : {A : Type 0} (a b : A) → Some a ≡ Some b → a ≡ b
same_some a b is = cc

completed_part : (b : Bool) (o : Option Incoming) (d : Incoming) → (if b then o else None) ≡ Some d → o ≡ Some d
completed_part true o d is = is
completed_part false o d is = absurd cc

module _ (rules : RuleSet) (e : Event) (past : List Event) (are : AreJudged rules (e ∷ past)) (l : Link) (d : Incoming) (found : incoming_at d.number (e ∷ past) ≡ Some d) where
  due_here : completes d e ≡ true → comes_due rules l e past ≡ true → IsCopy rules l (e ∷ past) d
  due_here here comes =
      let copied : is_copied_to rules l e past ≡ true = and_first (is_copied_to rules l e past) (nat_lt (due_count rules l past - begun_count l past) (link_credit l past)) comes in
      let x = some-and (completed_by e) (λ x. is_of_multicast rules x (e ∷ past) && is_consumer_of (address_of x (e ∷ past)) past l) copied in
      let same : (x.0.number == d.number) ≡ true = sym (ap (λ o. is_some_and o (λ (other : Incoming). other.number == d.number)) x.1) ∙ here in
      let part = completed_part (is_some_and (in_transfer e) is_last_part) e.incoming x.0 x.1 in
      let kept = holds_some (IsKept (e ∷ past)) e.incoming x.0 part (judged-kept rules (e ∷ past) are).each.0 in
      let one : x.0 ≡ d = same_some x.0 d (sym kept.at ∙ (ap (λ n. incoming_at n (e ∷ past)) (eqb-true x.0.number d.number same) ∙ found)) in
      let of = and_last (is_of_multicast rules x.0 (e ∷ past)) (is_consumer_of (address_of x.0 (e ∷ past)) past l) x.2 in
      let both = and_first (is_consumer l && bytes_eq l.address (address_of x.0 (e ∷ past))) (is_live past l) of in
      subst (IsCopy rules l (e ∷ past)) one
      (record {
        multicast = and_first (is_of_multicast rules x.0 (e ∷ past)) (is_consumer_of (address_of x.0 (e ∷ past)) past l) x.2;
        address = sym ((bytes_eq-Decides l.address (address_of x.0 (e ∷ past))).0 (and_last (is_consumer l) (bytes_eq l.address (address_of x.0 (e ∷ past))) both));
      })

  known_before : is_complete d past ≡ true → incoming_at d.number past ≡ Some d
  known_before complete = elim (found-at rules e past are d.number d (incoming_begun e) refl found) [
    | inl before ↦ before
    | inr new ↦ let none : is_complete d past ≡ false = (judged-sound rules past are.1).fresh d (omega (arith, new)) in absurd cc
  ]

pub due_copy : (rules : RuleSet) (past : List Event) → AreJudged rules past → (l : Link) (d : Incoming) → incoming_at d.number past ≡ Some d → is_due rules d l past ≡ true → IsCopy rules l past d
due_copy rules [] are l d found due = absurd cc
due_copy rules (e ∷ past) are l d found due = by (completes d e) refl due (due_copy rules past are.1 l d)
  where
    by : (b : Bool) → completes d e ≡ b → (if b then comes_due rules l e past else is_due rules d l past) ≡ true → (incoming_at d.number past ≡ Some d → is_due rules d l past ≡ true → IsCopy rules l past d) → IsCopy rules l (e ∷ past) d
    by true here due earlier = due_here rules e past are l d found here due
    by false none due earlier =
        let copy = earlier (known_before rules e past are l d found (due_complete rules past d l due)) due in
        record { multicast = is_of_multicast-same d e past rules none ∙ copy.multicast; address = address_of-same e past d none ∙ copy.address }

-- ---- what may begin

-- it is complete and not gone, and goes to the link for the first time
pub record GoesFirst (rules : RuleSet) (l : Link) (past : List Event) (d : Incoming) : Type 0 where
  pub complete : is_complete d past ≡ true
  pub whole : is_gone rules d past ≡ false
  pub first : goes_to_one_or_is_due rules l past d ≡ true

never_gone : (many complete paired had : Bool) → many ≡ true → not many && complete && not paired && not had ≡ false
never_gone true complete paired had is = refl
never_gone false complete paired had is = absurd cc

due_first : (many due named alone : Bool) → many ≡ true → due && not named ≡ true → (if many then not named && due else alone) ≡ true
due_first true true false alone is unsent = refl
due_first true true true alone is unsent = absurd cc
due_first true false named alone is unsent = absurd cc
due_first false due named alone is unsent = absurd cc

pub copy_goes_first : (rules : RuleSet) (past : List Event) → AreJudged rules past → (l : Link) (d : Incoming) → incoming_at d.number past ≡ Some d → is_unsent rules d l past ≡ true → GoesFirst rules l past d
copy_goes_first rules past are l d found unsent =
    let due = and_first (is_due rules d l past) (not (is_named_on d l past)) unsent in
    let copy = due_copy rules past are l d found due in
    record {
      complete = due_complete rules past d l due;
      whole = never_gone (is_of_multicast rules d past) (is_complete d past) (is_paired d past) (always_had_consumer d past) copy.multicast;
      first = due_first (is_of_multicast rules d past) (is_due rules d l past) (is_named_on d l past) (not (is_paired d past)) copy.multicast unsent;
    }

waits-complete : (many complete paired had : Bool) → not many && complete && not paired && had ≡ true → complete ≡ true
waits-complete false true paired had is = refl
waits-complete false false paired had is = absurd cc
waits-complete true complete paired had is = absurd cc

waits-whole : (many complete paired had : Bool) → not many && complete && not paired && had ≡ true → not many && complete && not paired && not had ≡ false
waits-whole false true false true is = refl
waits-whole false true false false is = absurd cc
waits-whole false true true had is = absurd cc
waits-whole false false paired had is = absurd cc
waits-whole true complete paired had is = absurd cc

waits-first : (many complete paired had due : Bool) → not many && complete && not paired && had ≡ true → (if many then due else not paired) ≡ true
waits-first false true false had due is = refl
waits-first false true true had due is = absurd cc
waits-first false false paired had due is = absurd cc
waits-first true complete paired had due is = absurd cc

pub waiting_goes_first : (rules : RuleSet) (past : List Event) (l : Link) (d : Incoming) → is_waiting rules d past ≡ true → GoesFirst rules l past d
waiting_goes_first rules past l d waits = record {
  complete = waits-complete (is_of_multicast rules d past) (is_complete d past) (is_paired d past) (always_had_consumer d past) waits;
  whole = waits-whole (is_of_multicast rules d past) (is_complete d past) (is_paired d past) (always_had_consumer d past) waits;
  first = waits-first (is_of_multicast rules d past) (is_complete d past) (is_paired d past) (always_had_consumer d past) (not (is_named_on d l past) && is_due rules d l past) waits;
}

-- ---- so it may go, where it is in order

passes-so : (b : Bool) (d : Incoming) (test : Incoming → Bool) → b ≡ true → test d ≡ true → is_some_and (if b then Some d else None) test ≡ true
passes-so true d test is passes = passes
passes-so false d test is passes = absurd cc

pub may_go : (rules : RuleSet) (e : Event) (past : List Event) (l : Link) (d : Incoming) → noted e.note past ≡ Some d → GoesFirst rules l past d → is_in_order l past d ≡ true → goes_once_and_in_order rules e past l ≡ true
may_go rules e past l d named goes order =
    ap (λ o. is_some_and (where_passes (λ x. is_complete x past && not (is_gone rules x past)) o) (λ x. goes_to_one_or_is_due rules l past x && is_in_order l past x)) named
    ∙ passes-so (is_complete d past && not (is_gone rules d past)) d (λ x. goes_to_one_or_is_due rules l past x && is_in_order l past x)
    (ap (λ b. b && not (is_gone rules d past)) goes.complete ∙ ap not goes.whole) (ap (λ b. b && is_in_order l past d) goes.first ∙ order)
