-- In a lawful capture an anycast delivery has at most one pair, which stays; what is paired is never gone, and what is told
-- is decided.
use Rattle.std.proofs.Common.{◌≡◌, refl, sym, ap, subst, ◌∙◌, ℕ, suc, ◌<◌, ◌≤◌, Bool, true, false, cond, not, ◌&&◌, List, [], ◌∷◌, length, Option, Some, None, IfSome, is_some, filter, find, arith}
use Rattle.std.specs.List.{AllByRecursion, cons_option}
use Rattle.capture_form.specs.declared.records.Record.{Record}
use Rattle.capture_form.specs.Rules.{RuleSet}
use Rattle.trace_events.specs.Event.{Event, Incoming, Outgoing}
use Rattle.trace_events.specs.Incoming.{incoming_at, is_complete, is_told}
use Rattle.trace_events.specs.Outgoing.{outgoing_begun, outgoing_deliveries, names, pairing, is_paired}
use Rattle.trace_events.specs.Waiting.{is_of_multicast, is_gone, is_undecided, always_had_consumer}
use Rattle.trace_events.specs.History.{judge, continued}
use Rattle.trace_events.proofs.Judged.{AreJudged, judged-number}
use Rattle.trace_events.specs.Clauses.{first_broken}
use Rattle.trace_events.specs.Kept.{carriers, ReachesOne}
use Rattle.trace_events.proofs.ClausesMet.{lawful-past}
use Rattle.trace_events.proofs.OneConsumer.{incoming_at-is}
use Rattle.trace_events.proofs.Incomings.{judged-part, judged-sound, at-step}
use Rattle.trace_events.proofs.Decided.{told-decided}
use Rattle.trace_events.proofs.JudgedHistories.{of_captures, judged-keeps}

-- ---- what is paired stays so, and is never gone

some_stays : {A : Type 0} (test : A → Bool) (o : Option A) (xs : List A) → is_some (find test xs) ≡ true → is_some (find test (cons_option o xs)) ≡ true
some_stays test None xs is = is
some_stays test (Some x) xs is = by (test x)
  where
    by : (b : Bool) → is_some (cond b (Some x) (find test xs)) ≡ true
    by true = refl
    by false = is

pub is_paired-stays : (d : Incoming) (e : Event) (past : List Event) → is_paired d past ≡ true → is_paired d (e ∷ past) ≡ true
is_paired-stays d e past is = some_stays (λ (j : Outgoing). names d.number j.note) (outgoing_begun e) (outgoing_deliveries past) is

none_gone : (multicast complete paired had : Bool) → paired ≡ true → (not multicast && complete && not paired) && not had ≡ false
none_gone true complete paired had is = refl
none_gone false false paired had is = refl
none_gone false true true had is = refl
none_gone false true false had is = absurd cc

pub paired-not_gone : (rules : RuleSet) (d : Incoming) (past : List Event) → is_paired d past ≡ true → is_gone rules d past ≡ false
paired-not_gone rules d past is = none_gone (is_of_multicast rules d past) (is_complete d past) (is_paired d past) (always_had_consumer d past) is

pub paired-never_gone : (rules : RuleSet) (d : Incoming) (past : List Event) (rs : List Record) → is_paired d past ≡ true → is_gone rules d (continued rules past rs) ≡ false
paired-never_gone rules d past [] is = paired-not_gone rules d past is
paired-never_gone rules d past (r ∷ rs) is = paired-never_gone rules d (judge rules past r ∷ past) rs (is_paired-stays d (judge rules past r) past is)

-- ---- of a list in which one at most passes, that is the one that is found

none_left : {A : Type 0} (xs : List A) → suc (length xs) ≤ 1 → xs ≡ []
none_left [] le = refl
none_left (x ∷ xs) le = absurd (omega (arith, le))

one_found : {A : Type 0} (test : A → Bool) (xs : List A) → length (filter test xs) ≤ 1 → filter test xs ≡ cons_option (find test xs) []
one_found test [] le = refl
one_found test (x ∷ xs) le = by (test x) le (one_found test xs)
  where
    by : (b : Bool) → length (cond b (x ∷ filter test xs) (filter test xs)) ≤ 1 → (length (filter test xs) ≤ 1 → filter test xs ≡ cons_option (find test xs) [])
        → cond b (x ∷ filter test xs) (filter test xs) ≡ cons_option (cond b (Some x) (find test xs)) []
    by true le rest = ap (λ ys. x ∷ ys) (none_left (filter test xs) le)
    by false le rest = rest le

none_pass : {A : Type 0} (test : A → Bool) (o : Option A) (xs : List A) → filter test xs ≡ [] → AllByRecursion (λ x. test x ≡ true → o ≡ Some x) xs
none_pass test o [] none = tt
none_pass test o (x ∷ xs) none = by (test x) refl none (none_pass test o xs)
  where
    by : (b : Bool) → test x ≡ b → cond b (x ∷ filter test xs) (filter test xs) ≡ [] → (filter test xs ≡ [] → AllByRecursion (λ x. test x ≡ true → o ≡ Some x) xs)
        → (test x ≡ true → o ≡ Some x) × AllByRecursion (λ x. test x ≡ true → o ≡ Some x) xs
    by true is none rest = absurd cc
    by false is none rest = (λ yes. let never : false ≡ true = sym is ∙ yes in absurd cc, rest none)

first_left : {A : Type 0} (o : Option A) (x : A) (xs : List A) → x ∷ xs ≡ cons_option o [] → (o ≡ Some x) × (xs ≡ [])
first_left None x xs is = absurd cc
first_left (Some y) x xs is = (let same : x ≡ y = cc in ap Some (sym same), cc)

each_one : {A : Type 0} (test : A → Bool) (o : Option A) (xs : List A) → filter test xs ≡ cons_option o [] → AllByRecursion (λ x. test x ≡ true → o ≡ Some x) xs
each_one test o [] is = tt
each_one test o (x ∷ xs) is = by (test x) refl is (each_one test o xs)
  where
    by : (b : Bool) → test x ≡ b → cond b (x ∷ filter test xs) (filter test xs) ≡ cons_option o [] → (filter test xs ≡ cons_option o [] → AllByRecursion (λ x. test x ≡ true → o ≡ Some x) xs)
        → (test x ≡ true → o ≡ Some x) × AllByRecursion (λ x. test x ≡ true → o ≡ Some x) xs
    by true passes is rest = let h = first_left o x (filter test xs) is in (λ yes. h.0, none_pass test o xs h.1)
    by false fails is rest = (λ yes. let never : false ≡ true = sym fails ∙ yes in absurd cc, rest is)

found_some : {A : Type 0} (test : A → Bool) (xs : List A) (x : A) → find test xs ≡ Some x → 1 ≤ length (filter test xs)
found_some test [] x is = absurd cc
found_some test (y ∷ ys) x is = by (test y) is (found_some test ys x)
  where
    by : (b : Bool) → cond b (Some y) (find test ys) ≡ Some x → (find test ys ≡ Some x → 1 ≤ length (filter test ys)) → 1 ≤ length (cond b (y ∷ filter test ys) (filter test ys))
    by true is rest = omega arith
    by false is rest = rest is

found_stays : {A : Type 0} (test : A → Bool) (o : Option A) (xs : List A) (x : A) → find test xs ≡ Some x → length (filter test (cons_option o xs)) ≤ 1 → find test (cons_option o xs) ≡ Some x
found_stays test None xs x is le = is
found_stays test (Some y) xs x is le = by (test y) le
  where
    by : (b : Bool) → length (cond b (y ∷ filter test xs) (filter test xs)) ≤ 1 → cond b (Some y) (find test xs) ≡ Some x
    by true le = absurd (omega (arith, le, found_some test xs x is))
    by false le = is

-- ---- the one that carries an anycast delivery

module _ (rules : RuleSet) (past : List Event) (are : AreJudged rules past) (lawful : first_broken rules past ≡ None) where
  pub judged-reaches_one : ReachesOne rules past
  judged-reaches_one = (judged-keeps rules past are lawful).one

  own_number : (n : ℕ) (d : Incoming) → incoming_at n past ≡ Some d → (n < length past) × (d.number ≡ n)
  own_number n d found = subst (λ (o : Option Incoming). IfSome o (λ d. (n < length past) × (d.number ≡ n))) found (incoming_at-is rules past n are)

  few_carriers : (n : ℕ) (d : Incoming) → incoming_at n past ≡ Some d → is_of_multicast rules d past ≡ false → length (carriers d.number past) ≤ 1
  few_carriers n d found anycast = subst (λ m. length (carriers m past) ≤ 1) (sym (own_number n d found).1) (judged-reaches_one n d found anycast)

  -- all that carry it are its pair, if it has one
  pub carriers-pairing : (n : ℕ) (d : Incoming) → incoming_at n past ≡ Some d → is_of_multicast rules d past ≡ false → carriers d.number past ≡ cons_option (pairing d past) []
  carriers-pairing n d found anycast = one_found (λ (j : Outgoing). names d.number j.note) (outgoing_deliveries past) (few_carriers n d found anycast)

  -- each delivery to a client whose note names it is its pair
  pub carries-pairing : (n : ℕ) (d : Incoming) → incoming_at n past ≡ Some d → is_of_multicast rules d past ≡ false
      → AllByRecursion (λ j. names d.number j.note ≡ true → pairing d past ≡ Some j) (outgoing_deliveries past)
  carries-pairing n d found anycast = each_one (λ (j : Outgoing). names d.number j.note) (pairing d past) (outgoing_deliveries past) (carriers-pairing n d found anycast)

-- the pair stays
pub pairing-stays : (rules : RuleSet) (e : Event) (past : List Event) → AreJudged rules (e ∷ past) → first_broken rules (e ∷ past) ≡ None → (n : ℕ) (d : Incoming) → incoming_at n past ≡ Some d
    → is_of_multicast rules d (e ∷ past) ≡ false → (j : Outgoing) → pairing d past ≡ Some j → pairing d (e ∷ past) ≡ Some j
pairing-stays rules e past are lawful n d found anycast j is =
    let at = own_number rules past are.1 (lawful-past rules e past lawful) n d found in
    let now : incoming_at n (e ∷ past) ≡ Some d = at-step e past (judged-number rules e past are) (judged-part rules e past are) (judged-sound rules past are.1) n at.0 ∙ found in
    found_stays (λ (k : Outgoing). names d.number k.note) (outgoing_begun e) (outgoing_deliveries past) j is (few_carriers rules (e ∷ past) are lawful n d now anycast)

-- ---- what is told is decided

pub told-is_decided : (rules : RuleSet) (past : List Event) → AreJudged rules past → first_broken rules past ≡ None → (n : ℕ) (d : Incoming) → incoming_at n past ≡ Some d → is_told d past ≡ true
    → is_undecided rules d past ≡ false
told-is_decided rules past are lawful =
    of_captures rules (λ (xs : List Event). (n : ℕ) (d : Incoming) → incoming_at n xs ≡ Some d → is_told d xs ≡ true → is_undecided rules d xs ≡ false) (told-decided rules) past are lawful
