-- Where every delivery that began went to the link that was picked, an anycast delivery that waits may go to any link of its
-- address by the order of completion.
use Rattle.std.proofs.Common.{◌≡◌, refl, sym, ap, subst, ◌∙◌, ℕ, suc, inl, inr, List, [], ◌∷◌, Bool, true, false, not, ◌&&◌, ◌||◌, Option, Some, None, IfSome, ◌==◌, arith}
use Rattle.std.specs.Prelude.{Contains, AllPairs}
use Rattle.std.specs.Str.{bytes_eq}
use Rattle.std.specs.List.{list_any}
use Rattle.std.proofs.lemmas.Slice.Eq.{bytes_eq-Decides}
use Rattle.capture_form.specs.Rules.{RuleSet}
use Rattle.trace_events.specs.Words.{is_some_and, is_none_or}
use Rattle.trace_events.specs.Event.{Event, Link, Incoming, Outgoing}
use Rattle.trace_events.specs.Link.{link_at}
use Rattle.trace_events.specs.Address.{has_multicast, has_consumer}
use Rattle.trace_events.specs.Credit.{begins_outgoing}
use Rattle.trace_events.specs.Incoming.{address_of, completes, is_complete, completed_before, incoming_begun, incoming_deliveries, incoming_at}
use Rattle.trace_events.specs.Outgoing.{names, noted, is_paired}
use Rattle.trace_events.specs.Queue.{pairs, stays, waits_at, waiting_queue}
use Rattle.trace_events.specs.Waiting.{is_of_multicast, is_waiting, always_had_consumer}
use Rattle.trace_events.proofs.IncomingSteps.{address_of-same}
use Rattle.trace_events.proofs.Along.{and_first, and_last}
use Rattle.trace_events.proofs.Judged.{AreJudged, IsTransfer, judged-transfer}
use Rattle.trace_events.proofs.QueueSteps.{is_waiting-stays}
use Rattle.trace_events.specs.Clauses.{first_broken}
use Rattle.trace_events.specs.Kept.{AtEach}
use Rattle.trace_events.specs.TransferClause.{is_in_order}
use Rattle.trace_events.proofs.BegunDeliveries.{begun-own}
use Rattle.trace_events.proofs.ClausesMet.{lawful-past}
use Rattle.trace_events.proofs.CompletionOrder.{before-one_way, before-not_itself, one-before}
use Rattle.trace_events.proofs.IncomingProgress.{judged-kept}
use Rattle.trace_events.proofs.Incomings.{judged-sound}
use Rattle.trace_events.proofs.OneConsumer.{found-at, or-right, not-true}
use Rattle.trace_events.proofs.WaitingQueue.{queued_waits, waits_queued, queued_in_order, find_has, contains_none, contains_first, contains_later, contains_cases}
use Rattle.trace_duties.specs.Diligent.{is_picked, is_next_waiting, is_picked_link, is_due_frame, moment_keeps, all_keep}
use Rattle.trace_events.proofs.LinkOrder.{BeginsWith, begins-address, begins, link-cases, new-in_order, in_order-completed, in_order-stays}

-- ---- each pick of a history that kept its duties was kept

not_begun : (b c : Bool) → b ≡ false → not b || c ≡ true
not_begun false c is = refl
not_begun true c is = absurd cc

keeps_picked : (rules : RuleSet) (e : Event) (past : List Event) → AreJudged rules (e ∷ past) → moment_keeps rules e past e.moment ≡ true → is_picked rules e past ≡ true
keeps_picked rules e past are keeps = by e.outgoing refl (judged-transfer rules e past are)
  where
    by : (o : Option Outgoing) → e.outgoing ≡ o → IfSome o (λ j. IsTransfer e.moment) → is_picked rules e past ≡ true
    by None none transfer =
        not_begun (begins_outgoing e) (is_none_or (noted e.note past) (λ d. is_of_multicast rules d past || is_next_waiting rules past d && is_some_and e.link (is_picked_link rules past d)))
        (ap (λ o. is_some_and o (λ (j : Outgoing). j.number == e.number)) none)
    by (Some j) is t = and_first (is_picked rules e past) (is_due_frame rules e t.frame past) (sym (ap (moment_keeps rules e past) t.written) ∙ keeps)

pub all_picked : (rules : RuleSet) (past : List Event) → AreJudged rules past → all_keep rules past ≡ true → AtEach (λ e past. is_picked rules e past ≡ true) past
all_picked rules [] are keeps = tt
all_picked rules (e ∷ past) are keeps = (
  keeps_picked rules e past are (and_first (moment_keeps rules e past e.moment) (all_keep rules past) keeps),
  all_picked rules past are.1 (and_last (moment_keeps rules e past e.moment) (all_keep rules past) keeps),
)

-- ---- what waits is anycast, and complete

waits-anycast : (many complete paired had : Bool) → not many && complete && not paired && had ≡ true → many ≡ false
waits-anycast false complete paired had is = refl
waits-anycast true complete paired had is = absurd cc

waits-complete : (many complete paired had : Bool) → not many && complete && not paired && had ≡ true → complete ≡ true
waits-complete false true paired had is = refl
waits-complete false false paired had is = absurd cc
waits-complete true complete paired had is = absurd cc

pub none-passes : (test : Incoming → Bool) (xs : List Incoming) (x : Incoming) → list_any test xs ≡ false → Contains xs x → test x ≡ false
none-passes test [] x none there = contains_none x there
none-passes test (y ∷ ys) x none there = by (test y) refl none (none-passes test ys x)
  where
    by : (b : Bool) → test y ≡ b → b || list_any test ys ≡ false → (list_any test ys ≡ false → Contains ys x → test x ≡ false) → test x ≡ false
    by true here none earlier = absurd cc
    by false here none earlier = elim (contains_cases y ys x there) [
      | inl same ↦ ap test (sym same) ∙ here
      | inr later ↦ earlier none later
    ]

otherwise : (many rest : Bool) → many ≡ false → many || rest ≡ true → rest ≡ true
otherwise false rest is all = all
otherwise true rest is all = absurd cc

-- ---- an event that begins a delivery on a link, to which another waits

module _ (rules : RuleSet) (e : Event) (past : List Event) (are : AreJudged rules (e ∷ past)) (lawful : first_broken rules (e ∷ past) ≡ None) (picked : is_picked rules e past ≡ true)
    (l : Link) (at : link_at l.number (e ∷ past) ≡ Some l) (d : Incoming) (known : incoming_at d.number past ≡ Some d) (address : address_of d past ≡ l.address)
    (waits : is_waiting rules d past ≡ true) (unpaired : pairs d e ≡ false) where
  anycast : is_of_multicast rules d past ≡ false
  anycast = waits-anycast (is_of_multicast rules d past) (is_complete d past) (is_paired d past) (always_had_consumer d past) waits

  complete : is_complete d past ≡ true
  complete = waits-complete (is_of_multicast rules d past) (is_complete d past) (is_paired d past) (always_had_consumer d past) waits

  module _ (b : Incoming) (here : BeginsWith e past l b) where
    same_address : address_of b past ≡ address_of d past
    same_address = sym (begins-address rules e past are lawful l b at here) ∙ sym address

    -- it was the next of its address
    was_next : is_next_waiting rules past b ≡ true
    was_next =
        let test = λ (x : Incoming). is_of_multicast rules x past || is_next_waiting rules past x && is_some_and e.link (is_picked_link rules past x) in
        let any : is_none_or (noted e.note past) test ≡ true = or-right (begins_outgoing e) (is_none_or (noted e.note past) test) (begins rules e past are lawful l b at here) picked in
        let it : test b ≡ true = sym (ap (λ o. is_none_or o test) here.is) ∙ any in
        and_first (is_next_waiting rules past b) (is_some_and e.link (is_picked_link rules past b))
        (otherwise (is_of_multicast rules b past) _ (ap (has_multicast rules) same_address ∙ anycast) it)

    not_before : completed_before d b past ≡ false
    not_before =
        let test = λ (x : Incoming). bytes_eq (address_of x past) (address_of b past) && is_waiting rules x past && completed_before x b past in
        let none : list_any test (incoming_deliveries past) ≡ false =
        not-true (list_any test (incoming_deliveries past)) (and_last (is_waiting rules b past) (not (list_any test (incoming_deliveries past))) was_next) in
        let there : Contains (incoming_deliveries past) d = find_has (λ (x : Incoming). x.number == d.number) (incoming_deliveries past) d known in
        sym (ap (λ c. c && is_waiting rules d past && completed_before d b past) ((bytes_eq-Decides (address_of d past) (address_of b past)).1 (sym same_address))
        ∙ ap (λ c. c && completed_before d b past) waits) ∙ none-passes test (incoming_deliveries past) d none there

    apart : (b.number == d.number) ≡ false
    apart =
        let own = begun-own rules e past are lawful here.delivery here.begun in
        sym (ap (λ o. is_some_and o (λ (j : Outgoing). names d.number j.note)) here.begun ∙ ap (names d.number) (own.0 ∙ here.named)) ∙ unpaired

    pub picked-before : completed_before b d past ≡ true
    picked-before = one-before rules past are.1 b d here.complete complete apart not_before

-- ---- along a history

no-pair : (has pair : Bool) → has && not pair ≡ true → pair ≡ false
no-pair true false is = refl
no-pair true true is = absurd cc
no-pair false pair is = absurd cc

abbrev IsInOrder : RuleSet → List Event → Link → Incoming → Type 0
IsInOrder rules past l d =
    link_at l.number past ≡ Some l → incoming_at d.number past ≡ Some d → address_of d past ≡ l.address → is_waiting rules d past ≡ true → is_in_order l past d ≡ true

module _ (rules : RuleSet) (e : Event) (past : List Event) (are : AreJudged rules (e ∷ past)) (lawful : first_broken rules (e ∷ past) ≡ None) (picked : is_picked rules e past ≡ true)
    (l : Link) (d : Incoming) (earlier : IsInOrder rules past l d) where
  -- what waits began before
  known_before : is_complete d past ≡ true → incoming_at d.number (e ∷ past) ≡ Some d → incoming_at d.number past ≡ Some d
  known_before complete found = elim (found-at rules e past are d.number d (incoming_begun e) refl found) [
    | inl before ↦ before
    | inr new ↦ let none : is_complete d past ≡ false = (judged-sound rules past are.1).fresh d (omega (arith, new)) in absurd cc
  ]

  old_link : link_at l.number past ≡ Some l → link_at l.number (e ∷ past) ≡ Some l → incoming_at d.number (e ∷ past) ≡ Some d → address_of d (e ∷ past) ≡ l.address → is_waiting rules d (e ∷ past) ≡ true
      → (b : Bool) → completes d e ≡ b → is_in_order l (e ∷ past) d ≡ true
  old_link old at found address waits true here = in_order-completed rules e past are lawful l d here
  old_link old at found address waits false none =
      let both : is_waiting rules d past && stays e past d ≡ true = sym (is_waiting-stays rules d e past none) ∙ waits in
      let waited = and_first (is_waiting rules d past) (stays e past d) both in
      let unpaired = no-pair (has_consumer (address_of d (e ∷ past)) (e ∷ past)) (pairs d e) (and_last (is_waiting rules d past) (stays e past d) both) in
      let known = known_before (waits-complete (is_of_multicast rules d past) (is_complete d past) (is_paired d past) (always_had_consumer d past) waited) found in
      let address_was : address_of d past ≡ l.address = sym (address_of-same e past d none) ∙ address in
      in_order-stays rules e past are lawful l d (earlier old known address_was waited)
      (λ b here. picked-before rules e past are lawful picked l at d known address_was waited unpaired b here)

  order_step : IsInOrder rules (e ∷ past) l d
  order_step at found address waits = elim (link-cases rules e past are l at) [
    | inl old ↦ old_link old at found address waits (completes d e) refl
    | inr new ↦ new-in_order rules e past are l d new
  ]

-- an anycast delivery that waits is in order on each link of its address
pub waiting_in_order : (rules : RuleSet) (past : List Event) → AreJudged rules past → first_broken rules past ≡ None → AtEach (λ e past. is_picked rules e past ≡ true) past
    → (l : Link) (d : Incoming) → link_at l.number past ≡ Some l → incoming_at d.number past ≡ Some d → address_of d past ≡ l.address → is_waiting rules d past ≡ true → is_in_order l past d ≡ true
waiting_in_order rules [] are lawful picked l d = λ at known address waits. refl
waiting_in_order rules (e ∷ past) are lawful picked l d =
    order_step rules e past are lawful picked.0 l d (waiting_in_order rules past are.1 (lawful-past rules e past lawful) picked.1 l d)

-- where each event kept the router's duties
pub kept_in_order : (rules : RuleSet) (past : List Event) → AreJudged rules past → first_broken rules past ≡ None → all_keep rules past ≡ true
    → (l : Link) (d : Incoming) → link_at l.number past ≡ Some l → incoming_at d.number past ≡ Some d → address_of d past ≡ l.address → is_waiting rules d past ≡ true → is_in_order l past d ≡ true
kept_in_order rules past are lawful keeps = waiting_in_order rules past are lawful (all_picked rules past are keeps)

-- ---- the first of an address's queue is the next of those that wait there

pub first-pair : (R : Incoming → Incoming → Type 0) (x : Incoming) (xs : List Incoming) (y : Incoming) → AllPairs R (x ∷ xs) → Contains xs y → R x y
first-pair R x xs y pairs there = let lt = there.1 in subst (R x) there.2 (pairs 0 (suc there.0) y (omega (arith, lt)) (omega (arith, lt)))

pub none-before : (test : Incoming → Bool) (xs : List Incoming) → ((x : Incoming) → Contains xs x → test x ≡ false) → list_any test xs ≡ false
none-before test [] none = refl
none-before test (x ∷ xs) none = ap (λ b. b || list_any test xs) (none x (contains_first x xs)) ∙ none-before test xs (λ y there. none y (contains_later x xs y there))

pub first_waiting-next : (rules : RuleSet) (past : List Event) → AreJudged rules past → (address : List ℕ) (d : Incoming) (ds : List Incoming) → waiting_queue rules address past ≡ d ∷ ds → is_next_waiting rules past d ≡ true
first_waiting-next rules past are address d ds is =
    ap (λ b. b && not (list_any earlier (incoming_deliveries past))) waits
    ∙ ap not (none-before earlier (incoming_deliveries past) (λ x there. by x there (bytes_eq (address_of x past) (address_of d past)) refl (is_waiting rules x past) refl))
  where
    earlier : Incoming → Bool
    earlier x = bytes_eq (address_of x past) (address_of d past) && is_waiting rules x past && completed_before x d past

    here : waits_at rules address past d ≡ true
    here = (queued_waits rules address past (judged-kept rules past are) d (subst (λ xs. Contains xs d) (sym is) (contains_first d ds))).1

    waits : is_waiting rules d past ≡ true
    waits = and_last (bytes_eq (address_of d past) address) (is_waiting rules d past) here

    same : address_of d past ≡ address
    same = (bytes_eq-Decides (address_of d past) address).0 (and_first (bytes_eq (address_of d past) address) (is_waiting rules d past) here)

    order : AllPairs (λ a b. completed_before a b past ≡ true) (d ∷ ds)
    order = subst (AllPairs (λ a b. completed_before a b past ≡ true)) is (queued_in_order rules address past are)

    not_before : (x : Incoming) → Contains (d ∷ ds) x → completed_before x d past ≡ false
    not_before x listed = elim (contains_cases d ds x listed) [
      | inl one ↦ subst (λ (y : Incoming). completed_before y d past ≡ false) one (before-not_itself past d)
      | inr later ↦ before-one_way past d x (first-pair (λ a b. completed_before a b past ≡ true) d ds x order later)
    ]

    queued : (x : Incoming) → Contains (incoming_deliveries past) x → bytes_eq (address_of x past) (address_of d past) ≡ true → is_waiting rules x past ≡ true → Contains (d ∷ ds) x
    queued x there at waits_too =
        let of : address_of x past ≡ address = (bytes_eq-Decides (address_of x past) (address_of d past)).0 at ∙ same in
        let both : waits_at rules address past x ≡ true = ap (λ b. b && is_waiting rules x past) ((bytes_eq-Decides (address_of x past) address).1 of) ∙ waits_too in
        subst (λ xs. Contains xs x) is (waits_queued rules address past (judged-kept rules past are) x there both)

    by : (x : Incoming) → Contains (incoming_deliveries past) x → (a : Bool) → bytes_eq (address_of x past) (address_of d past) ≡ a → (b : Bool) → is_waiting rules x past ≡ b → a && b && completed_before x d past ≡ false
    by x there false at b waits_too = refl
    by x there true at false waits_too = refl
    by x there true at true waits_too = not_before x (queued x there at waits_too)
