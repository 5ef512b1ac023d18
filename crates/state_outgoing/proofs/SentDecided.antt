-- What either side has settled is decided, unless it was sent settled.
use Rattle.std.proofs.Common.{◌≡◌, refl, sym, ap, subst, ◌∙◌, ◌⊎◌, inl, inr, ℕ, Bool, true, false, ◌&&◌, ◌||◌, List, [], ◌∷◌, length, Option, Some, None, IfSome, IsSomeAnd, is_some, if◌then◌else◌, arith, eqb-true}
use Rattle.amqp_perf.specs.Meaning.{DispositionFields, flag}
use Rattle.capture_form.specs.Rules.{RuleSet}
use Rattle.trace_events.specs.Words.{is_some_and, is_number, or_else, where_passes}
use Rattle.trace_events.specs.Event.{Event, Outgoing}
use Rattle.trace_events.specs.Link.{is_live}
use Rattle.trace_events.specs.Disposition.{is_decisive, terminal_state}
use Rattle.trace_events.specs.Outgoing.{outgoing_begun, answering, first_deciding, decision, is_settled_by_consumer, is_settled_by_router, outgoing_at}
use Rattle.trace_events.specs.Work.{decides_now}
use Rattle.trace_events.proofs.Judged.{AreJudged}
use Rattle.trace_events.proofs.SettlingSteps.{is_decided-step}
use Rattle.state_outgoing.specs.Sent.{begins_number}
use Rattle.state_outgoing.proofs.SentBegun.{IsDecidedIn, judged-settled, at-number, own-number, begun-once, at-step, by_router-none}
use Rattle.state_outgoing.proofs.SentSteps.{IsDecided}

-- ---- its consumer

-- live: its link lives; a disposition that settles decides
consumer-by : (live : Bool) (o : Option DispositionFields) (earlier : Option DispositionFields) → (was : Bool) → (was ≡ true → is_some earlier ≡ true)
    → live && is_some_and o (λ fields. flag fields.settled) || was ≡ true → is_some (or_else earlier (if live then where_passes is_decisive o else None)) ≡ true
consumer-by live o (Some fields) was before is = refl
consumer-by true None None was before is = before is
consumer-by true (Some fields) None was before is = by (flag fields.settled) is
  where
    by : (b : Bool) → b || was ≡ true → is_some (if b || is_some (terminal_state fields) then Some fields else None) ≡ true
    by true is = refl
    by false is = let never : false ≡ true = before is in absurd cc
consumer-by false o None was before is = before is

consumer-decides : (j : Outgoing) (past : List Event) → is_settled_by_consumer j past ≡ true → is_some (first_deciding j past) ≡ true
consumer-decides j [] is = absurd cc
consumer-decides j (e ∷ past) is =
    consumer-by (is_live past j.link) (answering j e) (first_deciding j past) (is_settled_by_consumer j past) (consumer-decides j past) is

-- ---- the router

stays-decided : (e : Event) (past : List Event) (j : Outgoing) → is_some (decision j past) ≡ true → is_some (decision j (e ∷ past)) ≡ true
stays-decided e past j is = is_decided-step e past j ∙ ap (λ b. b || is_live past j.link && decides_now e j) is

decided-in : (past : List Event) (j : Outgoing) → outgoing_at j.number past ≡ Some j → IsDecidedIn past j.number → is_some (decision j past) ≡ true
decided-in past j found is = subst (λ (o : Option Outgoing). IsSomeAnd o (λ k. is_some (decision k past) ≡ true)) found is

module _ (rules : RuleSet) (e : Event) (past : List Event) (are : AreJudged rules (e ∷ past)) (j : Outgoing) (found : outgoing_at j.number (e ∷ past) ≡ Some j) where
  before : begins_number e j.number ≡ false → outgoing_at j.number past ≡ Some j
  before off = sym (at-step rules e past are j.number ∙ ap (λ b. if b then outgoing_begun e else outgoing_at j.number past) off) ∙ found

  own : begins_number e j.number ≡ true → j.number ≡ length past
  own here =
      own-number rules e past are j
      (sym (at-step rules e past are j.number ∙ ap (λ b. if b then outgoing_begun e else outgoing_at j.number past) here) ∙ found)

  named : (o : Option ℕ) → is_number o j.number ≡ true → IfSome o (IsDecidedIn past) → IsDecidedIn past j.number
  named None is known = absurd cc
  named (Some n) is known = subst (IsDecidedIn past) (eqb-true n j.number is) known

  -- what is settled has begun before
  begun-before : (o : Option Outgoing) → outgoing_at j.number past ≡ o → IsSomeAnd o (λ k. is_some (decision k past) ≡ true) → outgoing_at j.number past ≡ Some j
  begun-before None none never = absurd never
  begun-before (Some k) was decided = before (begun-once rules e past are j.number k was)

  router-by : (settles begins : Bool) → is_number e.settled j.number ≡ settles → begins_number e j.number ≡ begins → settles || is_settled_by_router j past ≡ true
      → (outgoing_at j.number past ≡ Some j → is_settled_by_router j past ≡ true → is_some (decision j past) ≡ true) → is_some (decision j (e ∷ past)) ≡ true
  router-by true begins names at is earlier =
      let decided = named e.settled names (judged-settled rules (e ∷ past) are).0 in
      stays-decided e past j (decided-in past j (begun-before (outgoing_at j.number past) refl decided) decided)
  router-by false false names off is earlier = stays-decided e past j (earlier (before off) is)
  router-by false true names here is earlier =
      let at = own here in
      let never : true ≡ false = sym is ∙ by_router-none j rules past are.1 (omega (arith, at)) in
      absurd cc

router-decides : (rules : RuleSet) (past : List Event) → AreJudged rules past → (j : Outgoing) → outgoing_at j.number past ≡ Some j → is_settled_by_router j past ≡ true
    → is_some (decision j past) ≡ true
router-decides rules [] are j found is = absurd cc
router-decides rules (e ∷ past) are j found is =
    router-by rules e past are j found (is_number e.settled j.number) (begins_number e j.number) refl refl is (router-decides rules past are.1 j)

-- ---- either side

either : (c r : Bool) → c || r ≡ true → (c ≡ true) ⊎ (r ≡ true)
either true r is = inl refl
either false r is = inr is

pub judged-decided : (rules : RuleSet) (past : List Event) → AreJudged rules past → (n : ℕ) (j : Outgoing) → outgoing_at n past ≡ Some j → IsDecided past j
judged-decided rules past are n j found unsettled live is =
    elim (either (is_settled_by_consumer j past) (is_settled_by_router j past) is) [
      | inl consumer ↦ ap (λ b. is_some (if b then None else first_deciding j past)) unsettled ∙ consumer-decides j past consumer
      | inr router ↦ router-decides rules past are j (ap (λ m. outgoing_at m past) (at-number past n j found) ∙ found) router
    ]
