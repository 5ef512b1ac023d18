-- Copies stay in order: an event that sends none keeps them so, and so does one that sends the earliest unsent copy of its
-- link.
use Rattle.std.proofs.Common.{◌≡◌, refl, sym, ap, subst, ◌∙◌, ℕ, inl, inr, List, [], ◌∷◌, Bool, true, false, not, ◌&&◌, ◌||◌, Some, None, is_some, ◌==◌, if◌then◌else◌}
use Rattle.std.specs.Prelude.{Contains, AllPairs}
use Rattle.capture_form.specs.Rules.{RuleSet}
use Rattle.trace_events.specs.Words.{is_some_and, is_none_or}
use Rattle.trace_events.specs.Event.{Event, Link, Incoming, is_on_link}
use Rattle.trace_events.specs.Said.{out_transfer}
use Rattle.trace_events.specs.Link.{is_live, link_at}
use Rattle.trace_events.specs.Ends.{ends_link}
use Rattle.trace_events.specs.Credit.{begins_outgoing}
use Rattle.trace_events.specs.Incoming.{completed_by, completes, is_complete, completed_before, incoming_deliveries}
use Rattle.trace_events.specs.Outgoing.{names, noted, is_named_on}
use Rattle.trace_events.specs.Queue.{completed_deliveries}
use Rattle.trace_events.specs.Due.{is_due, is_unsent}
use Rattle.trace_events.specs.Work.{unsent_copies, comes_due}
use Rattle.trace_events.proofs.Along.{and_first, and_last}
use Rattle.trace_events.proofs.DueSteps.{is_unsent-stays}
use Rattle.trace_events.proofs.Judged.{AreJudged}
use Rattle.trace_events.proofs.OutgoingSteps.{names_on}
use Rattle.trace_events.proofs.StepWords.{and-false, or-true}
use Rattle.trace_events.specs.Clauses.{first_broken}
use Rattle.trace_events.specs.TransferClause.{is_in_order}
use Rattle.trace_events.proofs.CompletionOrder.{before-one_way, before-not_itself, before-numbers, one-before}
use Rattle.trace_events.proofs.IncomingProgress.{judged-kept}
use Rattle.trace_events.proofs.LinkEnds.{is_live-next}
use Rattle.trace_events.proofs.OneConsumer.{or-right, not-true}
use Rattle.trace_events.proofs.Parts.{IsKept}
use Rattle.trace_events.proofs.UnsentCopies.{unsent_complete, unsent_listed, unsent_in_order}
use Rattle.trace_events.proofs.WaitingQueue.{completed_numbered, each_completed, all_contained, find_has, contains_cases}
use Rattle.trace_duties.specs.Quiet.{has_earlier_unsent}
use Rattle.trace_duties.specs.Order.{CopiesInOrder, is_earliest}
use Rattle.trace_events.proofs.LinkOrder.{BeginsWith, begins, begins-on, begins-names, link-cases, new-in_order, in_order-completed, in_order-stays}
use Rattle.trace_duties.proofs.PicksInOrder.{none-passes, none-before, first-pair}

-- ---- what is known of a copy goes by the number of its delivery

due_number : (rules : RuleSet) (past : List Event) (a b : Incoming) (l : Link) → a.number ≡ b.number → is_due rules a l past ≡ is_due rules b l past
due_number rules [] a b l same = refl
due_number rules (e ∷ past) a b l same =
    ap (λ (n : ℕ). if is_some_and (completed_by e) (λ other. other.number == n) then comes_due rules l e past else is_due rules a l past) same
    ∙ ap (λ c. if completes b e then comes_due rules l e past else c) (due_number rules past a b l same)

unsent_number : (rules : RuleSet) (past : List Event) (a b : Incoming) (l : Link) → a.number ≡ b.number → is_unsent rules a l past ≡ is_unsent rules b l past
unsent_number rules past a b l same =
    ap (λ c. c && not (is_named_on a l past)) (due_number rules past a b l same) ∙ ap (λ c. is_due rules b l past && not c) (named_number past same)
  where
    named_number : (past : List Event) → a.number ≡ b.number → is_named_on a l past ≡ is_named_on b l past
    named_number [] same = refl
    named_number (e ∷ past) same = ap (λ c. c || is_named_on a l past) (names_number same) ∙ ap (λ c. names_on b l e || c) (named_number past same)
      where
        names_number : a.number ≡ b.number → names_on a l e ≡ names_on b l e
        names_number same = ap (λ (n : ℕ). is_some (out_transfer e) && names n e.note && is_on_link l e) same

-- ---- a delivery that is sent before a copy was completed before it

module _ (rules : RuleSet) (e : Event) (past : List Event) (are : AreJudged rules (e ∷ past)) (lawful : first_broken rules (e ∷ past) ≡ None) (earliest : is_earliest rules e past ≡ true)
    (l : Link) (at : link_at l.number (e ∷ past) ≡ Some l) (d : Incoming) (unsent : is_unsent rules d l past ≡ true) (unnamed : names_on d l e ≡ false) where
  complete : is_complete d past ≡ true
  complete = unsent_complete rules past d l unsent

  module _ (b : Incoming) (here : BeginsWith e past l b) where
    none_earlier : has_earlier_unsent rules past l b ≡ false
    none_earlier =
        let test = λ (x : Incoming). is_none_or e.link (λ m. not (has_earlier_unsent rules past m x)) in
        let any : is_none_or (noted e.note past) test ≡ true = or-right (begins_outgoing e) (is_none_or (noted e.note past) test) (begins rules e past are lawful l b at here) earliest in
        let it : test b ≡ true = sym (ap (λ o. is_none_or o test) here.is) ∙ any in
        let on : not (has_earlier_unsent rules past l b) ≡ true = sym (ap (λ o. is_none_or o (λ m. not (has_earlier_unsent rules past m b))) (begins-on rules e past are lawful l b at here)) ∙ it in
        not-true (has_earlier_unsent rules past l b) on

    not_before : completed_before d b past ≡ false
    not_before =
        let all = judged-kept rules past are.1 in
        let one = completed_numbered d.number past complete in
        let kept = all_contained (IsKept past) (completed_deliveries past) one.0 (each_completed (IsKept past) past all.each) one.1 in
        let there : Contains (incoming_deliveries past) one.0 = find_has (λ (x : Incoming). x.number == one.0.number) (incoming_deliveries past) one.0 kept.at in
        let off = none-passes (λ (x : Incoming). completed_before x b past && is_unsent rules x l past) (incoming_deliveries past) one.0 none_earlier there in
        let same : is_unsent rules one.0 l past ≡ true = unsent_number rules past one.0 d l one.2 ∙ unsent in
        sym (before-numbers past one.0 b d b one.2 refl) ∙ both (completed_before one.0 b past) (is_unsent rules one.0 l past) same off
      where
        both : (c u : Bool) → u ≡ true → c && u ≡ false → c ≡ false
        both false u is off = refl
        both true true is off = absurd cc
        both true false is off = absurd cc

    sent-before : completed_before b d past ≡ true
    sent-before = one-before rules past are.1 b d here.complete complete (sym (begins-names rules e past are lawful l b at here d) ∙ unnamed) not_before

-- ---- a step

module _ (rules : RuleSet) (e : Event) (past : List Event) (are : AreJudged rules (e ∷ past)) (lawful : first_broken rules (e ∷ past) ≡ None) (earliest : is_earliest rules e past ≡ true)
    (order : CopiesInOrder rules past) where
  not-yes : (b : Bool) → not b ≡ true → b ≡ false
  not-yes false is = refl
  not-yes true is = absurd cc

  old_link : (l : Link) (d : Incoming) → link_at l.number past ≡ Some l → link_at l.number (e ∷ past) ≡ Some l → is_live (e ∷ past) l ≡ true → is_unsent rules d l (e ∷ past) ≡ true
      → (b : Bool) → completes d e ≡ b → is_in_order l (e ∷ past) d ≡ true
  old_link l d old at lives unsent true here = in_order-completed rules e past are lawful l d here
  old_link l d old at lives unsent false none =
      let both : is_unsent rules d l past && not (names_on d l e) ≡ true = sym (is_unsent-stays rules l e past d none) ∙ unsent in
      let was = and_first (is_unsent rules d l past) (not (names_on d l e)) both in
      let unnamed = not-yes (names_on d l e) (and_last (is_unsent rules d l past) (not (names_on d l e)) both) in
      let lived = and_first (is_live past l) (not (ends_link l e)) (sym (is_live-next rules e past are l old) ∙ lives) in
      in_order-stays rules e past are lawful l d (order l d old lived was) (λ b here. sent-before rules e past are lawful earliest l at d was unnamed b here)

  -- copies that were in order stay so, if a delivery that begins is behind no unsent copy of its link
  pub copies_in_order-step : CopiesInOrder rules (e ∷ past)
  copies_in_order-step l d at lives unsent = elim (link-cases rules e past are l at) [
    | inl old ↦ old_link l d old at lives unsent (completes d e) refl
    | inr new ↦ new-in_order rules e past are l d new
  ]

-- an event that begins no delivery to a client sends no copy out of order
pub earliest-none : (rules : RuleSet) (e : Event) (past : List Event) → begins_outgoing e ≡ false → is_earliest rules e past ≡ true
earliest-none rules e past none =
    ap (λ b. not b || is_none_or (noted e.note past) (λ d. is_none_or e.link (λ l. not (has_earlier_unsent rules past l d)))) none

-- nor does one that sends what no unsent copy of the link was completed before
pub earliest-sent : (rules : RuleSet) (e : Event) (past : List Event) (l : Link) (d : Incoming) → e.link ≡ Some l → noted e.note past ≡ Some d → has_earlier_unsent rules past l d ≡ false → is_earliest rules e past ≡ true
earliest-sent rules e past l d on is none =
    ap (λ o. not (begins_outgoing e) || is_none_or o (λ d. is_none_or e.link (λ l. not (has_earlier_unsent rules past l d)))) is
    ∙ (ap (λ o. not (begins_outgoing e) || is_none_or o (λ l. not (has_earlier_unsent rules past l d))) on
    ∙ (ap (λ b. not (begins_outgoing e) || not b) none ∙ or-true (not (begins_outgoing e))))

-- before any event they are in order
pub copies_in_order-none : (rules : RuleSet) → CopiesInOrder rules []
copies_in_order-none rules l d at lives unsent = refl

-- ---- the first of a link's unsent copies is the earliest

pub first_unsent-earliest : (rules : RuleSet) (past : List Event) → AreJudged rules past → (l : Link) (d : Incoming) (ds : List Incoming) → unsent_copies rules l past ≡ d ∷ ds → has_earlier_unsent rules past l d ≡ false
first_unsent-earliest rules past are l d ds is =
    none-before (λ (x : Incoming). completed_before x d past && is_unsent rules x l past) (incoming_deliveries past) (λ x there. by x there (is_unsent rules x l past) refl)
  where
    order : AllPairs (λ a b. completed_before a b past ≡ true) (d ∷ ds)
    order = subst (AllPairs (λ a b. completed_before a b past ≡ true)) is (unsent_in_order rules l past are)

    not_before : (x : Incoming) → Contains (d ∷ ds) x → completed_before x d past ≡ false
    not_before x listed = elim (contains_cases d ds x listed) [
      | inl same ↦ subst (λ (y : Incoming). completed_before y d past ≡ false) same (before-not_itself past d)
      | inr later ↦ before-one_way past d x (first-pair (λ a b. completed_before a b past ≡ true) d ds x order later)
    ]

    by : (x : Incoming) → Contains (incoming_deliveries past) x → (b : Bool) → is_unsent rules x l past ≡ b → completed_before x d past && b ≡ false
    by x there false unsent = and-false (completed_before x d past)
    by x there true unsent =
        ap (λ c. c && true) (not_before x (subst (λ xs. Contains xs x) is (unsent_listed rules l past (judged-kept rules past are) x there unsent)))
