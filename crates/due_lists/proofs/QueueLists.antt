-- How the queue of an address moves with each event, and which delivery is the first of it.
use Rattle.std.proofs.Common.{◌≡◌, refl, sym, ap, subst, ◌∙◌, inl, inr, ℕ, Bool, true, false, ◌&&◌, not, List, [], ◌∷◌, ◌++◌, filter, map, reverse, if◌then◌else◌}
use Rattle.std.specs.Prelude.{Contains, bytes_eq}
use Rattle.std.specs.List.{cons_option, AllByRecursion}
use Rattle.std.proofs.lemmas.List.{append_assoc, map-append, reverse-append}
use Rattle.std.proofs.lemmas.List.Elements.{Contains-append_cases, Contains-append_left, Contains-append_right, filter-append}
use Rattle.capture_form.specs.Rules.{RuleSet}
use Rattle.trace_events.specs.Event.{Event, Incoming}
use Rattle.trace_events.specs.Incoming.{address_of, completed_by, is_complete}
use Rattle.trace_events.specs.Outgoing.{is_paired}
use Rattle.trace_events.specs.Queue.{stays, completed_deliveries, waiting_queue, waits_at}
use Rattle.trace_events.specs.Address.{has_multicast}
use Rattle.trace_events.specs.Waiting.{is_of_multicast, is_waiting, always_had_consumer}
use Rattle.trace_events.proofs.Judged.{AreJudged}
use Rattle.trace_events.proofs.QueueSteps.{completed-complete, each-map, filter-cons, filter-each, filter-reverse, is_waiting-stays, one-alone}
use Rattle.trace_events.proofs.StepWords.{filter-both}
use Rattle.trace_events.proofs.WaitingQueue.{contains_cases, contains_first, contains_later, contains_none, address_stays, completed_once, in_filter, in_reverse}
use Rattle.due_lists.specs.Queues.{is_of, completed_at, IsQueue}

-- ---- the queue is those of all complete ones that wait

waits-bits : (here many complete paired always : Bool) → here && (not many && complete && not paired && always) ≡ (here && not many) && (not many && complete && not paired && always)
waits-bits true true complete paired always = refl
waits-bits true false complete paired always = refl
waits-bits false many complete paired always = refl

pub queue-is : (rules : RuleSet) (address : List ℕ) (past : List Event) → waiting_queue rules address past ≡ filter (λ d. is_waiting rules d past) (completed_at rules address past)
queue-is rules address past =
    ap reverse (filter-both (waits_at rules address past) (is_of rules address past) (λ d. is_waiting rules d past)
    (λ d. waits-bits (bytes_eq (address_of d past) address) (is_of_multicast rules d past) (is_complete d past) (is_paired d past) (always_had_consumer d past)) (completed_deliveries past))
    ∙ filter-reverse (λ d. is_waiting rules d past) (filter (is_of rules address past) (completed_deliveries past))

-- ---- one event

and-nothing : (b : Bool) → b ≡ b && true
and-nothing true = refl
and-nothing false = refl

all-pass : {A : Type 0} (xs : List A) → filter (λ x. true) xs ≡ xs
all-pass [] = refl
all-pass (x ∷ xs) = ap (λ ys. x ∷ ys) (all-pass xs)

-- complete ones stay of their address
pub of-stays : (rules : RuleSet) (address : List ℕ) (e : Event) (past : List Event) → AreJudged rules (e ∷ past)
    → filter (is_of rules address (e ∷ past)) (completed_deliveries past) ≡ filter (is_of rules address past) (completed_deliveries past)
of-stays rules address e past are =
    let now = is_of rules address (e ∷ past) in
    let before = is_of rules address past in
    filter-each now before (λ d. true) (completed_deliveries past)
    (each-map (λ (d : Incoming). is_complete d past ≡ true) (λ d. now d ≡ before d && true)
    (λ d done. ap (λ own. bytes_eq own address && not (has_multicast rules own)) (address_stays rules e past are d done) ∙ and-nothing (before d)) (completed_deliveries past)
    (completed-complete past))
    ∙ all-pass (filter before (completed_deliveries past))

pub completed_at-step : (rules : RuleSet) (address : List ℕ) (e : Event) (past : List Event) → AreJudged rules (e ∷ past)
    → completed_at rules address (e ∷ past) ≡ completed_at rules address past ++ filter (is_of rules address (e ∷ past)) (cons_option (completed_by e) [])
completed_at-step rules address e past are =
    let test = is_of rules address (e ∷ past) in
    ap reverse (filter-cons test (completed_by e) (completed_deliveries past))
    ∙ (reverse-append (filter test (cons_option (completed_by e) [])) (filter test (completed_deliveries past))
    ∙ (ap (λ xs. reverse (filter test (completed_deliveries past)) ++ xs) (one-alone test (completed_by e))
    ∙ ap (λ xs. reverse xs ++ filter test (cons_option (completed_by e) [])) (of-stays rules address e past are)))

each-in : {A : Type 0} (P : A → Type 0) (xs : List A) (x : A) → AllByRecursion P xs → Contains xs x → P x
each-in P [] x each there = contains_none x there
each-in P (y ∷ ys) x each there = elim (contains_cases y ys x there) [
  | inl same ↦ subst P same each.0
  | inr later ↦ each-in P ys x each.1 later
]

listed-complete : (rules : RuleSet) (address : List ℕ) (past : List Event) (d : Incoming) → Contains (completed_at rules address past) d → Contains (completed_deliveries past) d
listed-complete rules address past d there =
    (in_filter (is_of rules address past) (completed_deliveries past) d (in_reverse (filter (is_of rules address past) (completed_deliveries past)) d there)).0

pub queue-step : (rules : RuleSet) (e : Event) (past : List Event) → AreJudged rules (e ∷ past) → (address numbers later : List ℕ) → IsQueue rules past address numbers
    → later ≡ numbers ++ map (λ d. d.number) (filter (is_of rules address (e ∷ past)) (cons_option (completed_by e) [])) → IsQueue rules (e ∷ past) address later
queue-step rules e past are address numbers later queue is =
    let new = filter (is_of rules address (e ∷ past)) (cons_option (completed_by e) []) in
    record {
      dropped = queue.dropped;
      kept = queue.kept ++ new;
      all = completed_at-step rules address e past are ∙ (ap (λ xs. xs ++ new) queue.all ∙ append_assoc queue.dropped queue.kept new);
      over = λ d there.
          let listed = listed-complete rules address past d (subst (λ xs. Contains xs d) (sym queue.all) (Contains-append_left queue.dropped queue.kept d there)) in
          let done = each-in (λ (x : Incoming). is_complete x past ≡ true) (completed_deliveries past) d (completed-complete past) listed in
          is_waiting-stays rules d e past (completed_once rules e past are d done) ∙ ap (λ b. b && stays e past d) (queue.over d there);
      are = is ∙ (ap (λ xs. xs ++ map (λ (d : Incoming). d.number) new) queue.are ∙ sym (map-append (λ (d : Incoming). d.number) queue.kept new));
    }

-- ---- those in front that wait no more

pub record IsSplit (xs : List Incoming) (first rest : List ℕ) : Type 0 where
  pub before : List Incoming
  pub behind : List Incoming
  pub whole : xs ≡ before ++ behind
  pub firsts : map (λ d. d.number) before ≡ first
  pub rests : map (λ d. d.number) behind ≡ rest

pub split : (xs : List Incoming) (first rest : List ℕ) → map (λ d. d.number) xs ≡ first ++ rest → IsSplit xs first rest
split xs [] rest is = record { before = []; behind = xs; whole = refl; firsts = refl; rests = is }
split [] (n ∷ ns) rest is = absurd cc
split (x ∷ xs) (n ∷ ns) rest is =
    let here : x.number ≡ n = cc in
    let later = split xs ns rest (cc) in
    record { before = x ∷ later.before; behind = later.behind; whole = ap (λ ys. x ∷ ys) later.whole; firsts = ap (λ m. m ∷ map (λ (d : Incoming). d.number) later.before) here ∙ ap (λ ys. n ∷ ys) later.firsts; rests = later.rests }

map-has : (xs : List Incoming) (d : Incoming) → Contains xs d → Contains (map (λ x. x.number) xs) d.number
map-has [] d there = contains_none d there
map-has (x ∷ xs) d there = elim (contains_cases x xs d there) [
  | inl same ↦ subst (λ (y : Incoming). Contains (x.number ∷ map (λ (z : Incoming). z.number) xs) y.number) same (contains_first x.number (map (λ (z : Incoming). z.number) xs))
  | inr later ↦ contains_later x.number (map (λ (z : Incoming). z.number) xs) d.number (map-has xs d later)
]

-- a number that doesn't wait is of no delivery that waits
pub shorter : (rules : RuleSet) (past : List Event) (address numbers gone later : List ℕ) → IsQueue rules past address numbers → numbers ≡ gone ++ later
    → ((d : Incoming) → Contains (completed_deliveries past) d → Contains gone d.number → is_waiting rules d past ≡ false) → IsQueue rules past address later
shorter rules past address numbers gone later queue is over =
    let parts = split queue.kept gone later (sym queue.are ∙ is) in
    let all : completed_at rules address past ≡ (queue.dropped ++ parts.before) ++ parts.behind =
    queue.all ∙ (ap (λ xs. queue.dropped ++ xs) parts.whole ∙ sym (append_assoc queue.dropped parts.before parts.behind)) in
    record {
      dropped = queue.dropped ++ parts.before;
      kept = parts.behind;
      all = all;
      over = λ d there. elim (Contains-append_cases queue.dropped parts.before d there) [
        | inl first ↦ queue.over d first
        | inr second ↦
            over d (listed-complete rules address past d (subst (λ xs. Contains xs d) (sym all) (Contains-append_left (queue.dropped ++ parts.before) parts.behind d there)))
            (subst (λ ns. Contains ns d.number) parts.firsts (map-has parts.before d second))
      ];
      are = sym parts.rests;
    }

-- ---- the first

filter-none : {A : Type 0} (p : A → Bool) (xs : List A) → ((x : A) → Contains xs x → p x ≡ false) → filter p xs ≡ []
filter-none p [] none = refl
filter-none p (x ∷ xs) none = ap (λ b. if b then x ∷ filter p xs else filter p xs) (none x (contains_first x xs)) ∙ filter-none p xs (λ y there. none y (contains_later x xs y there))

pub queue-kept : (rules : RuleSet) (past : List Event) (address numbers : List ℕ) → (queue : IsQueue rules past address numbers)
    → waiting_queue rules address past ≡ filter (λ d. is_waiting rules d past) queue.kept
queue-kept rules past address numbers queue =
    queue-is rules address past
    ∙ (ap (filter (λ d. is_waiting rules d past)) queue.all
    ∙ (filter-append (λ d. is_waiting rules d past) queue.dropped queue.kept
    ∙ ap (λ xs. xs ++ filter (λ d. is_waiting rules d past) queue.kept) (filter-none (λ d. is_waiting rules d past) queue.dropped queue.over)))

pub none-waits : (rules : RuleSet) (past : List Event) (address numbers : List ℕ) → IsQueue rules past address numbers → numbers ≡ [] → waiting_queue rules address past ≡ []
none-waits rules past address numbers queue none = queue-kept rules past address numbers queue ∙ by queue.kept (sym queue.are ∙ none)
  where
    by : (xs : List Incoming) → map (λ d. d.number) xs ≡ [] → filter (λ d. is_waiting rules d past) xs ≡ []
    by [] is = refl
    by (x ∷ xs) is = absurd cc

-- the first of the queue, if the delivery of its first number waits
pub record IsFirst (rules : RuleSet) (past : List Event) (address : List ℕ) (n : ℕ) : Type 0 where
  pub delivery : Incoming
  pub others : List Incoming
  pub number : delivery.number ≡ n
  pub listed : Contains (completed_deliveries past) delivery
  pub here : is_of rules address past delivery ≡ true
  pub queue : is_waiting rules delivery past ≡ true → waiting_queue rules address past ≡ delivery ∷ others

pub first-of : (rules : RuleSet) (past : List Event) (address numbers : List ℕ) (n : ℕ) (rest : List ℕ) → IsQueue rules past address numbers → numbers ≡ n ∷ rest → IsFirst rules past address n
first-of rules past address numbers n rest queue is = by queue.kept refl (sym queue.are ∙ is)
  where
    by : (xs : List Incoming) → queue.kept ≡ xs → map (λ d. d.number) xs ≡ n ∷ rest → IsFirst rules past address n
    by [] own is = absurd cc
    by (x ∷ xs) own is = record {
      delivery = x;
      others = filter (λ d. is_waiting rules d past) xs;
      number = cc;
      listed = listed-complete rules address past x
          (subst (λ ys. Contains ys x) (sym (queue.all ∙ ap (λ ys. queue.dropped ++ ys) own)) (Contains-append_right queue.dropped (x ∷ xs) x (contains_first x xs)));
      here = (in_filter (is_of rules address past) (completed_deliveries past) x (in_reverse (filter (is_of rules address past) (completed_deliveries past)) x
          (subst (λ ys. Contains ys x) (sym (queue.all ∙ ap (λ ys. queue.dropped ++ ys) own)) (Contains-append_right queue.dropped (x ∷ xs) x (contains_first x xs))))).1;
      queue = λ waits. queue-kept rules past address numbers queue
          ∙ (ap (filter (λ d. is_waiting rules d past)) own ∙ ap (λ b. if b then x ∷ filter (λ d. is_waiting rules d past) xs else filter (λ d. is_waiting rules d past) xs) waits);
    }
