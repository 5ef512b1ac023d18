-- The queue of an address in a judged history: how it moves with each event, and which deliveries stand in it.
use Rattle.std.proofs.Common.{◌≡◌, refl, sym, ap, ◌∙◌, subst, ℕ, ◌<◌, ◌⊎◌, inl, inr, List, [], ◌∷◌, ◌++◌, Bool, true, false, not, ◌&&◌, ◌||◌, ◌==◌, Option, Some, None, filter, find, reverse, length, get_or, arith, eqb-true, eq-eqb, lt-ltb}
use Rattle.std.specs.Prelude.{if◌then◌else◌, nat_lt, option_map, Contains, AllPairs}
use Rattle.std.specs.Str.{bytes_eq}
use Rattle.std.specs.List.{cons_option, list_any, AllByRecursion}
use Rattle.std.proofs.lemmas.List.{reverse-append}
use Rattle.std.proofs.lemmas.List.Elements.{Contains-append_left, Contains-append_right, Contains-push, Contains-push_cases, Contains-append_cases, Contains-get_or}
use Rattle.std.proofs.lemmas.List.Kept.{AllPairs-filter}
use Rattle.std.proofs.lemmas.List.Quantifiers.{all_pairs_push}
use Rattle.capture_form.specs.declared.records.Record.{Record}
use Rattle.capture_form.specs.Rules.{RuleSet}
use Rattle.trace_events.specs.Words.{is_some_and}
use Rattle.trace_events.specs.Event.{Event, Incoming}
use Rattle.trace_events.specs.Said.{in_transfer}
use Rattle.trace_events.specs.Incoming.{address_of, is_last_part, completed_by, completes, is_complete, completion, completed_before, incoming_deliveries, incoming_at}
use Rattle.trace_events.specs.Address.{has_multicast}
use Rattle.trace_events.specs.Outgoing.{is_paired}
use Rattle.trace_events.specs.Waiting.{is_of_multicast, always_had_consumer}
use Rattle.trace_events.specs.Queue.{stays, completed_deliveries, waits_at, waiting_queue}
use Rattle.trace_events.specs.History.{history}
use Rattle.trace_events.proofs.Judged.{AreJudged, judged-number, history-judged}
use Rattle.trace_events.proofs.QueueSteps.{completed-complete, filter-reverse, waiting_queue-step}
use Rattle.trace_events.proofs.IncomingSteps.{address_of-same, completion-same, completion-here}
use Rattle.trace_events.proofs.OneConsumer.{some-and}
use Rattle.trace_events.proofs.Incomings.{judged-part, judged-sound, not-again}
use Rattle.trace_events.proofs.Parts.{EachPart, IsKept, AreKept, history_kept, each_delivery, holds_some}

-- ---- how it moves

-- no delivery is completed twice
pub completed_once : (rules : RuleSet) (e : Event) (past : List Event) → AreJudged rules (e ∷ past) → (d : Incoming) → is_complete d past ≡ true → completes d e ≡ false
completed_once rules e past are d done = not-again e past (judged-number rules e past are) (judged-part rules e past are) (judged-sound rules past are.1) d done

-- so one that is complete is for the same address and as many consumers behind any event
pub address_stays : (rules : RuleSet) (e : Event) (past : List Event) → AreJudged rules (e ∷ past) → (d : Incoming) → is_complete d past ≡ true → address_of d (e ∷ past) ≡ address_of d past
address_stays rules e past are d done = address_of-same e past d (completed_once rules e past are d done)

pub multicast_stays : (rules : RuleSet) (e : Event) (past : List Event) → AreJudged rules (e ∷ past) → (d : Incoming) → is_complete d past ≡ true
    → is_of_multicast rules d (e ∷ past) ≡ is_of_multicast rules d past
multicast_stays rules e past are d done = ap (has_multicast rules) (address_stays rules e past are d done)

-- those that stay, and behind them the one that the event completes, if it waits there
pub waiting_queue_moves : (rules : RuleSet) (address : List ℕ) (e : Event) (past : List Event) → AreJudged rules (e ∷ past)
    → waiting_queue rules address (e ∷ past) ≡ filter (stays e past) (waiting_queue rules address past) ++ filter (waits_at rules address (e ∷ past)) (cons_option (completed_by e) [])
waiting_queue_moves rules address e past are = waiting_queue-step rules address e past (completed_once rules e past are)

-- ---- elements of lists

pub contains_first : {A : Type 0} (x : A) (xs : List A) → Contains (x ∷ xs) x
contains_first x xs = Contains-append_left (x ∷ []) xs x (Contains-push [] x)

pub contains_later : {A : Type 0} (y : A) (xs : List A) (x : A) → Contains xs x → Contains (y ∷ xs) x
contains_later y xs x h = Contains-append_right (y ∷ []) xs x h

pub contains_none : {A B : Type 0} (x : A) → Contains [] x → B
contains_none x h = let lt = h.1 in absurd (omega (arith, lt))

pub contains_cases : {A : Type 0} (y : A) (xs : List A) (x : A) → Contains (y ∷ xs) x → (y ≡ x) ⊎ Contains xs x
contains_cases y xs x h = elim (Contains-append_cases (y ∷ []) xs x h) [
  | inl one ↦ elim (Contains-push_cases [] y x one) [
    | inl none ↦ contains_none x none
    | inr same ↦ inl same
  ]
  | inr later ↦ inr later
]

pub all_contained : {A : Type 0} (P : A → Type 0) (xs : List A) (x : A) → AllByRecursion P xs → Contains xs x → P x
all_contained P [] x all h = contains_none x h
all_contained P (y ∷ ys) x all h = elim (contains_cases y ys x h) [
  | inl same ↦ subst P same all.0
  | inr later ↦ all_contained P ys x all.1 later
]

pub in_reverse : {A : Type 0} (xs : List A) (x : A) → Contains (reverse xs) x → Contains xs x
in_reverse [] x h = h
in_reverse (y ∷ ys) x h = elim (Contains-push_cases (reverse ys) y x (subst (λ zs. Contains zs x) (reverse-append (y ∷ []) ys) h)) [
  | inl earlier ↦ contains_later y ys x (in_reverse ys x earlier)
  | inr same ↦ subst (λ z. Contains (y ∷ ys) z) same (contains_first y ys)
]

pub reverse_has : {A : Type 0} (xs : List A) (x : A) → Contains xs x → Contains (reverse xs) x
reverse_has [] x h = h
reverse_has (y ∷ ys) x h = subst (λ zs. Contains zs x) (sym (reverse-append (y ∷ []) ys)) (elim (contains_cases y ys x h) [
  | inl same ↦ subst (λ z. Contains (reverse ys ++ y ∷ []) z) same (Contains-push (reverse ys) y)
  | inr later ↦ Contains-append_left (reverse ys) (y ∷ []) x (reverse_has ys x later)
])

pub in_filter : {A : Type 0} (p : A → Bool) (xs : List A) (x : A) → Contains (filter p xs) x → Contains xs x × (p x ≡ true)
in_filter p [] x h = contains_none x h
in_filter p (y ∷ ys) x h = by (p y) refl (in_filter p ys x) h
  where
    by : (b : Bool) → p y ≡ b → (Contains (filter p ys) x → Contains ys x × (p x ≡ true)) → Contains (if b then y ∷ filter p ys else filter p ys) x → Contains (y ∷ ys) x × (p x ≡ true)
    by true is rest h = elim (contains_cases y (filter p ys) x h) [
      | inl same ↦ (subst (λ z. Contains (y ∷ ys) z) same (contains_first y ys), subst (λ z. p z ≡ true) same is)
      | inr later ↦ (contains_later y ys x (rest later).0, (rest later).1)
    ]
    by false is rest h = (contains_later y ys x (rest h).0, (rest h).1)

pub filter_has : {A : Type 0} (p : A → Bool) (xs : List A) (x : A) → p x ≡ true → Contains xs x → Contains (filter p xs) x
filter_has p [] x passes h = h
filter_has p (y ∷ ys) x passes h = elim (contains_cases y ys x h) [
  | inl same ↦ here (p y) (ap p same ∙ passes) same
  | inr later ↦ rest (p y) (filter_has p ys x passes later)
]
  where
    here : (b : Bool) → b ≡ true → y ≡ x → Contains (if b then y ∷ filter p ys else filter p ys) x
    here true holds same = subst (λ z. Contains (y ∷ filter p ys) z) same (contains_first y (filter p ys))
    here false holds same = absurd cc

    rest : (b : Bool) → Contains (filter p ys) x → Contains (if b then y ∷ filter p ys else filter p ys) x
    rest true h = contains_later y (filter p ys) x h
    rest false h = h

pub find_has : {A : Type 0} (test : A → Bool) (xs : List A) (x : A) → find test xs ≡ Some x → Contains xs x
find_has test [] x found = absurd cc
find_has test (y ∷ ys) x found = by (test y) (find_has test ys x) found
  where
    by : (b : Bool) → (find test ys ≡ Some x → Contains ys x) → (if b then Some y else find test ys) ≡ Some x → Contains (y ∷ ys) x
    by true later found = let same : y ≡ x = cc in subst (λ z. Contains (y ∷ ys) z) same (contains_first y ys)
    by false later found = contains_later y ys x (later found)

-- ---- what events complete

completed_part : (b : Bool) (o : Option Incoming) (d : Incoming) → (if b then o else None) ≡ Some d → o ≡ Some d
completed_part true o d is = is
completed_part false o d is = absurd cc

pub each_completed : (P : Incoming → Type 0) (past : List Event) → EachPart P past → AllByRecursion P (completed_deliveries past)
each_completed P [] each = tt
each_completed P (e ∷ past) each = by (completed_by e) refl (each_completed P past each.1)
  where
    by : (o : Option Incoming) → completed_by e ≡ o → AllByRecursion P (completed_deliveries past) → AllByRecursion P (cons_option o (completed_deliveries past))
    by None is earlier = earlier
    by (Some d) is earlier = (holds_some P e.incoming d (completed_part (is_some_and (in_transfer e) is_last_part) e.incoming d is) each.0, earlier)

abbrev pub IsNumbered : ℕ → List Incoming → Type 0
IsNumbered n ds = (x : Incoming) × Contains ds x × (x.number ≡ n)

pub completed_numbered : (n : ℕ) (past : List Event) → list_any (λ e. is_some_and (completed_by e) (λ x. x.number == n)) past ≡ true → IsNumbered n (completed_deliveries past)
completed_numbered n [] done = absurd cc
completed_numbered n (e ∷ past) done = by (completed_by e) (completed_numbered n past) done
  where
    test : (x : Incoming) (b : Bool) → (x.number == n) ≡ b → (list_any (λ e. is_some_and (completed_by e) (λ x. x.number == n)) past ≡ true → IsNumbered n (completed_deliveries past))
        → b || list_any (λ e. is_some_and (completed_by e) (λ x. x.number == n)) past ≡ true → IsNumbered n (x ∷ completed_deliveries past)
    test x true is earlier done = (x, contains_first x (completed_deliveries past), eqb-true x.number n is)
    test x false is earlier done = let one = earlier done in (one.0, contains_later x (completed_deliveries past) one.0 one.1, one.2)

    by : (o : Option Incoming) → (list_any (λ e. is_some_and (completed_by e) (λ x. x.number == n)) past ≡ true → IsNumbered n (completed_deliveries past))
        → is_some_and o (λ x. x.number == n) || list_any (λ e. is_some_and (completed_by e) (λ x. x.number == n)) past ≡ true → IsNumbered n (cons_option o (completed_deliveries past))
    by None earlier done = earlier done
    by (Some x) earlier done = test x (x.number == n) refl earlier done

-- ---- which deliveries stand in the queue

waits_complete : (address many complete paired always : Bool) → address && (not many && complete && not paired && always) ≡ true → complete ≡ true
waits_complete true false true paired always e = refl
waits_complete true false false paired always e = absurd cc
waits_complete true true complete paired always e = absurd cc
waits_complete false many complete paired always e = absurd cc

module _ (rules : RuleSet) (address : List ℕ) (past : List Event) (all : AreKept rules past) (d : Incoming) where
  -- one that stands there is a delivery of the history that waits at the address
  pub queued_waits : Contains (waiting_queue rules address past) d → Contains (incoming_deliveries past) d × (waits_at rules address past d ≡ true)
  queued_waits queued =
      let step = in_filter (waits_at rules address past) (completed_deliveries past) d (in_reverse (filter (waits_at rules address past) (completed_deliveries past)) d queued) in
      let kept = all_contained (IsKept past) (completed_deliveries past) d (each_completed (IsKept past) past all.each) step.0 in
      (find_has (λ (x : Incoming). x.number == d.number) (incoming_deliveries past) d kept.at, step.1)

  -- and each such delivery stands there
  pub waits_queued : Contains (incoming_deliveries past) d → waits_at rules address past d ≡ true → Contains (waiting_queue rules address past) d
  waits_queued known waits =
      let kept = all_contained (IsKept past) (incoming_deliveries past) d (each_delivery (IsKept past) past all.each) known in
      let done : is_complete d past ≡ true = waits_complete (bytes_eq (address_of d past) address) (is_of_multicast rules d past) (is_complete d past) (is_paired d past) (always_had_consumer d past) waits in
      let one = completed_numbered d.number past done in
      let other = all_contained (IsKept past) (completed_deliveries past) one.0 (each_completed (IsKept past) past all.each) one.1 in
      let both : ◌≡◌ {A = Option Incoming} (Some one.0) (Some d) = sym other.at ∙ (ap (λ n. incoming_at n past) one.2 ∙ kept.at) in
      let same : one.0 ≡ d = cc in
      reverse_has (filter (waits_at rules address past) (completed_deliveries past)) d
      (filter_has (waits_at rules address past) (completed_deliveries past) d waits (subst (Contains (completed_deliveries past)) same one.1))

-- of a capture: the queue has exactly the deliveries that wait at the address
pub waiting_queue_has : (rules : RuleSet) (rs : List Record) (address : List ℕ) (d : Incoming) → let past = history rules rs in
    (Contains (waiting_queue rules address past) d → Contains (incoming_deliveries past) d × (waits_at rules address past d ≡ true))
    × (Contains (incoming_deliveries past) d → waits_at rules address past d ≡ true → Contains (waiting_queue rules address past) d)
waiting_queue_has rules rs address d =
    let past = history rules rs in
    (queued_waits rules address past (history_kept rules rs) d, waits_queued rules address past (history_kept rules rs) d)

-- ---- in which order they stand

abbrev pub IsCompletedBelow : List Event → Incoming → Type 0
IsCompletedBelow past d = (m : ℕ) × (completion d past ≡ Some m) × (m < length past)

pub completed_below : (rules : RuleSet) (past : List Event) → AreJudged rules past → (d : Incoming) → is_complete d past ≡ true → IsCompletedBelow past d
completed_below rules [] are d done = absurd cc
completed_below rules (e ∷ past) are d done = by (completes d e) refl (completed_below rules past are.1 d) done
  where
    by : (b : Bool) → completes d e ≡ b → (is_complete d past ≡ true → IsCompletedBelow past d) → b || is_complete d past ≡ true → IsCompletedBelow (e ∷ past) d
    by true here earlier done = let number = judged-number rules e past are in (e.number, completion-here e past d here, omega (arith, number))
    by false none earlier done = let before = earlier done in let lt = before.2 in (before.0, completion-same e past d none ∙ before.1, omega (arith, lt))

find_any : {A : Type 0} (p : A → Bool) (xs : List A) (x : A) → find p xs ≡ Some x → list_any p xs ≡ true
find_any p [] x found = absurd cc
find_any p (y ∷ ys) x found = by (p y) (find_any p ys x) found
  where
    by : (b : Bool) → (find p ys ≡ Some x → list_any p ys ≡ true) → (if b then Some y else find p ys) ≡ Some x → b || list_any p ys ≡ true
    by true later found = refl
    by false later found = later found

some_found : {A B : Type 0} (f : A → B) (o : Option A) (y : B) → option_map f o ≡ Some y → (x : A) × (o ≡ Some x)
some_found f None y e = absurd cc
some_found f (Some x) y e = (x, refl)

pub completion_complete : (past : List Event) (d : Incoming) (m : ℕ) → completion d past ≡ Some m → is_complete d past ≡ true
completion_complete past d m is = let one = some_found (λ (e : Event). e.number) (find (completes d) past) m is in find_any (completes d) past one.0 one.1

pub completion_lower : (a b : Incoming) (past : List Event) (m n : ℕ) → completion a past ≡ Some m → completion b past ≡ Some n → nat_lt m n ≡ true → completed_before a b past ≡ true
completion_lower a b past m n first second below =
    ap (λ (o : Option ℕ). is_some_and o (λ m. is_some_and (completion b past) (λ n. nat_lt m n))) first
    ∙ (ap (λ (o : Option ℕ). is_some_and o (λ n. nat_lt m n)) second ∙ below)

-- an order of completion stays
pub before_stays : (rules : RuleSet) (e : Event) (past : List Event) → AreJudged rules (e ∷ past) → (a b : Incoming) → completed_before a b past ≡ true → completed_before a b (e ∷ past) ≡ true
before_stays rules e past are a b before =
    let first = some-and (completion a past) (λ m. is_some_and (completion b past) (λ n. nat_lt m n)) before in
    let second = some-and (completion b past) (λ n. nat_lt first.0 n) first.2 in
    completion_lower a b (e ∷ past) first.0 second.0
    (completion-same e past a (completed_once rules e past are a (completion_complete past a first.0 first.1)) ∙ first.1)
    (completion-same e past b (completed_once rules e past are b (completion_complete past b second.0 second.1)) ∙ second.1)
    second.2

-- one that the event completes is behind each that was complete
before_new : (rules : RuleSet) (e : Event) (past : List Event) → AreJudged rules (e ∷ past) → (a d : Incoming) → is_complete a past ≡ true → completed_by e ≡ Some d → completed_before a d (e ∷ past) ≡ true
before_new rules e past are a d done is =
    let below = completed_below rules past are.1 a done in
    let number = judged-number rules e past are in
    let lt = below.2 in
    completion_lower a d (e ∷ past) below.0 e.number
    (completion-same e past a (completed_once rules e past are a done) ∙ below.1)
    (completion-here e past d (ap (λ (o : Option Incoming). is_some_and o (λ x. x.number == d.number)) is ∙ eq-eqb d.number d.number refl))
    (lt-ltb below.0 e.number (omega (arith, number, lt)))

abbrev pub AreInOrder : List Event → List Incoming → Type 0
AreInOrder past ds = AllPairs (λ a b. completed_before a b past ≡ true) ds

order_step : (rules : RuleSet) (e : Event) (past : List Event) → AreJudged rules (e ∷ past) → AreInOrder (e ∷ past) (reverse (completed_deliveries past)) → (o : Option Incoming) → completed_by e ≡ o
    → AreInOrder (e ∷ past) (reverse (cons_option o (completed_deliveries past)))
order_step rules e past are older None is = older
order_step rules e past are older (Some d) is =
    subst (AreInOrder (e ∷ past)) (sym (reverse-append (d ∷ []) (completed_deliveries past)))
    (all_pairs_push (λ a b. completed_before a b (e ∷ past) ≡ true) (reverse (completed_deliveries past)) d older
    (λ k x within. let a = get_or (reverse (completed_deliveries past)) k x in
    before_new rules e past are a d
    (all_contained (λ a. is_complete a past ≡ true) (completed_deliveries past) a (completed-complete past)
    (in_reverse (completed_deliveries past) a (Contains-get_or (reverse (completed_deliveries past)) k x within))) is))

pub completed_in_order : (rules : RuleSet) (past : List Event) → AreJudged rules past → AreInOrder past (reverse (completed_deliveries past))
completed_in_order rules [] are = λ i j d lt within. absurd (omega (arith, within))
completed_in_order rules (e ∷ past) are =
    order_step rules e past are (λ i j d lt within. let ds = reverse (completed_deliveries past) in before_stays rules e past are (get_or ds i d) (get_or ds j d) (completed_in_order rules past are.1 i j d lt within))
    (completed_by e) refl

-- each stands before those that were completed later
pub queued_in_order : (rules : RuleSet) (address : List ℕ) (past : List Event) → AreJudged rules past → AllPairs (λ a b. completed_before a b past ≡ true) (waiting_queue rules address past)
queued_in_order rules address past are =
    subst (AllPairs (λ a b. completed_before a b past ≡ true)) (sym (filter-reverse (waits_at rules address past) (completed_deliveries past)))
    (AllPairs-filter (λ a b. completed_before a b past ≡ true) (waits_at rules address past) (reverse (completed_deliveries past)) (completed_in_order rules past are))

-- of a capture
pub waiting_queue_in_order : (rules : RuleSet) (rs : List Record) (address : List ℕ) → AllPairs (λ a b. completed_before a b (history rules rs) ≡ true) (waiting_queue rules address (history rules rs))
waiting_queue_in_order rules rs address = queued_in_order rules address (history rules rs) (history-judged rules rs)
