-- What one more event does to the deliveries that wait, in one equation for every event.
use Rattle.std.proofs.Common.{◌≡◌, refl, sym, ap, ◌∙◌, ℕ, Bool, true, false, not, ◌&&◌, ◌||◌, List, [], ◌∷◌, ◌++◌, Option, Some, None, filter, reverse, if◌then◌else◌, ◌==◌, eq-eqb}
use Rattle.std.specs.Str.{bytes_eq}
use Rattle.std.specs.List.{cons_option, AllByRecursion}
use Rattle.std.proofs.lemmas.List.{reverse-append, append-nil}
use Rattle.std.proofs.lemmas.List.Elements.{filter-append}
use Rattle.capture_form.specs.Rules.{RuleSet}
use Rattle.trace_events.specs.Words.{is_some_and}
use Rattle.trace_events.specs.Event.{Event, Incoming}
use Rattle.trace_events.specs.Address.{has_consumer}
use Rattle.trace_events.specs.Incoming.{address_of, completed_by, completes, is_complete}
use Rattle.trace_events.specs.Outgoing.{is_paired}
use Rattle.trace_events.specs.Waiting.{is_of_multicast, always_had_consumer, is_waiting}
use Rattle.trace_events.specs.Queue.{pairs, stays, completed_deliveries, waits_at, waiting_queue}
use Rattle.trace_events.proofs.StepWords.{or-true}
use Rattle.trace_events.proofs.IncomingSteps.{address_of-same}
use Rattle.trace_events.proofs.WaitingSteps.{if-fails, is_of_multicast-same}
use Rattle.trace_events.proofs.EveryStep.{is_paired-step}

-- ---- a delivery that waits

-- m: not of multicast, k: completed by the event, c and p: complete and paired before, b: paired by the event, h: its
-- address has a consumer, a: it always had one before
waiting-bits : (m k c p b h a : Bool) → m && (k || c) && not (b || p) && (h && (k || a)) ≡ (if k then m && not p else m && c && not p && a) && (h && not b)
waiting-bits false true c p b h a = refl
waiting-bits false false c p b h a = refl
waiting-bits true true c p true true a = by p
  where
    by : (p : Bool) → false ≡ not p && false
    by true = refl
    by false = refl
waiting-bits true true c p true false a = by p
  where
    by : (p : Bool) → false ≡ not p && false
    by true = refl
    by false = refl
waiting-bits true true c true false h a = refl
waiting-bits true true c false false true a = refl
waiting-bits true true c false false false a = refl
waiting-bits true false false p b h a = refl
waiting-bits true false true true true h a = refl
waiting-bits true false true true false h a = refl
waiting-bits true false true false true true true = refl
waiting-bits true false true false true true false = refl
waiting-bits true false true false true false true = refl
waiting-bits true false true false true false false = refl
waiting-bits true false true false false true true = refl
waiting-bits true false true false false true false = refl
waiting-bits true false true false false false true = refl
waiting-bits true false true false false false false = refl

-- what waited stays or not; what the event completes begins to wait or not
pub is_waiting-step : (rules : RuleSet) (d : Incoming) (e : Event) (past : List Event)
    → is_waiting rules d (e ∷ past) ≡ (if completes d e then not (is_of_multicast rules d (e ∷ past)) && not (is_paired d past) else is_waiting rules d past) && stays e past d
is_waiting-step rules d e past =
    let now = not (is_of_multicast rules d (e ∷ past)) in
    ap (λ b. now && is_complete d (e ∷ past) && not b && always_had_consumer d (e ∷ past)) (is_paired-step e past d)
    ∙ (waiting-bits now (completes d e) (is_complete d past) (is_paired d past) (pairs d e) (has_consumer (address_of d (e ∷ past)) (e ∷ past)) (always_had_consumer d past)
    ∙ ap (λ b. b && stays e past d)
    (if-fails (completes d e) (now && not (is_paired d past)) (now && is_complete d past && not (is_paired d past) && always_had_consumer d past) (is_waiting rules d past)
    (λ none. ap (λ b. not b && is_complete d past && not (is_paired d past) && always_had_consumer d past) (is_of_multicast-same d e past rules none))))

pub is_waiting-stays : (rules : RuleSet) (d : Incoming) (e : Event) (past : List Event) → completes d e ≡ false
    → is_waiting rules d (e ∷ past) ≡ is_waiting rules d past && stays e past d
is_waiting-stays rules d e past none =
    is_waiting-step rules d e past
    ∙ ap (λ b. (if b then not (is_of_multicast rules d (e ∷ past)) && not (is_paired d past) else is_waiting rules d past) && stays e past d) none

pub is_waiting-begins : (rules : RuleSet) (d : Incoming) (e : Event) (past : List Event) → completes d e ≡ true
    → is_waiting rules d (e ∷ past) ≡ (not (is_of_multicast rules d (e ∷ past)) && not (is_paired d past)) && stays e past d
is_waiting-begins rules d e past here =
    is_waiting-step rules d e past
    ∙ ap (λ b. (if b then not (is_of_multicast rules d (e ∷ past)) && not (is_paired d past) else is_waiting rules d past) && stays e past d) here

-- ---- the queue of an address

pub each-map : {A : Type 0} (P Q : A → Type 0) → ((x : A) → P x → Q x) → (xs : List A) → AllByRecursion P xs → AllByRecursion Q xs
each-map P Q f [] each = tt
each-map P Q f (x ∷ xs) each = (f x each.0, each-map P Q f xs each.1)

each-cons : {A : Type 0} (P : A → Type 0) (o : Option A) (xs : List A) → ((x : A) → o ≡ Some x → P x) → AllByRecursion P xs → AllByRecursion P (cons_option o xs)
each-cons P None xs here each = each
each-cons P (Some x) xs here each = (here x refl, each)

pub filter-each : {A : Type 0} (p q r : A → Bool) (xs : List A) → AllByRecursion (λ x. p x ≡ q x && r x) xs → filter p xs ≡ filter r (filter q xs)
filter-each p q r [] each = refl
filter-each p q r (x ∷ xs) each =
    ap (λ b. if b then x ∷ filter p xs else filter p xs) each.0 ∙ (ap (λ rest. if q x && r x then x ∷ rest else rest) (filter-each p q r xs each.1) ∙ by (q x))
  where
    by : (b : Bool) → (if b && r x then x ∷ filter r (filter q xs) else filter r (filter q xs)) ≡ filter r (if b then x ∷ filter q xs else filter q xs)
    by true = refl
    by false = refl

pub filter-reverse : {A : Type 0} (p : A → Bool) (xs : List A) → reverse (filter p xs) ≡ filter p (reverse xs)
filter-reverse p [] = refl
filter-reverse p (x ∷ xs) =
    by (p x) refl
    ∙ (ap (λ ys. ys ++ filter p (x ∷ [])) (filter-reverse p xs) ∙ (sym (filter-append p (reverse xs) (x ∷ [])) ∙ ap (filter p) (sym (reverse-append (x ∷ []) xs))))
  where
    by : (b : Bool) → p x ≡ b → reverse (if b then x ∷ filter p xs else filter p xs) ≡ reverse (filter p xs) ++ (if b then x ∷ [] else [])
    by true is = reverse-append (x ∷ []) (filter p xs)
    by false is = sym (append-nil (reverse (filter p xs)))

pub filter-cons : {A : Type 0} (p : A → Bool) (o : Option A) (xs : List A) → filter p (cons_option o xs) ≡ filter p (cons_option o []) ++ filter p xs
filter-cons p None xs = refl
filter-cons p (Some x) xs = filter-append p (x ∷ []) xs

pub one-alone : {A : Type 0} (p : A → Bool) (o : Option A) → reverse (filter p (cons_option o [])) ≡ filter p (cons_option o [])
one-alone p None = refl
one-alone p (Some x) = by (p x)
  where
    by : (b : Bool) → reverse (if b then x ∷ [] else []) ≡ (if b then x ∷ [] else [])
    by true = refl
    by false = refl

-- the deliveries that events completed are complete
completed-here : (e : Event) (past : List Event) (d : Incoming) → completed_by e ≡ Some d → is_complete d (e ∷ past) ≡ true
completed-here e past d is =
    ap (λ (o : Option Incoming). is_some_and o (λ other. other.number == d.number) || is_complete d past) is ∙ ap (λ b. b || is_complete d past) (eq-eqb d.number d.number refl)

pub completed-complete : (past : List Event) → AllByRecursion (λ d. is_complete d past ≡ true) (completed_deliveries past)
completed-complete [] = tt
completed-complete (e ∷ past) =
    each-cons (λ (d : Incoming). is_complete d (e ∷ past) ≡ true) (completed_by e) (completed_deliveries past) (completed-here e past)
    (each-map (λ (d : Incoming). is_complete d past ≡ true) (λ d. is_complete d (e ∷ past) ≡ true)
    (λ d done. ap (λ b. completes d e || b) done ∙ or-true (completes d e)) (completed_deliveries past) (completed-complete past))

and-again : (b w s : Bool) → b && (w && s) ≡ (b && w) && s
and-again true w s = refl
and-again false w s = refl

-- the queue behind any event: those that stay, and behind them the one that the event completes, if it waits there
pub waiting_queue-step : (rules : RuleSet) (address : List ℕ) (e : Event) (past : List Event) → ((d : Incoming) → is_complete d past ≡ true → completes d e ≡ false)
    → waiting_queue rules address (e ∷ past) ≡ filter (stays e past) (waiting_queue rules address past) ++ filter (waits_at rules address (e ∷ past)) (cons_option (completed_by e) [])
waiting_queue-step rules address e past new =
    let now = waits_at rules address (e ∷ past) in
    let added = filter now (cons_option (completed_by e) []) in
    ap reverse (filter-cons now (completed_by e) (completed_deliveries past))
    ∙ (reverse-append added (filter now (completed_deliveries past))
    ∙ (ap (λ xs. reverse (filter now (completed_deliveries past)) ++ xs) (one-alone now (completed_by e))
    ∙ ap (λ xs. xs ++ added)
    (ap reverse (filter-each now (waits_at rules address past) (stays e past) (completed_deliveries past)
    (each-map (λ (d : Incoming). is_complete d past ≡ true) (λ d. now d ≡ waits_at rules address past d && stays e past d)
    (λ d done. ap (λ a. bytes_eq a address && is_waiting rules d (e ∷ past)) (address_of-same e past d (new d done))
    ∙ (ap (λ b. bytes_eq (address_of d past) address && b) (is_waiting-stays rules d e past (new d done)) ∙ and-again (bytes_eq (address_of d past) address) (is_waiting rules d past) (stays e past d)))
    (completed_deliveries past) (completed-complete past)))
    ∙ filter-reverse (stays e past) (filter (waits_at rules address past) (completed_deliveries past)))))
