-- Of the deliveries of one session at most one of each id is undecided.
use Rattle.std.proofs.Common.{◌≡◌, refl, sym, ap, ◌∙◌, ℕ, ◌⊎◌, inl, inr, List, [], ◌∷◌, length, Bool, true, false, ◌&&◌, ◌||◌, ◌==◌, Option, Some, None, find, arith, eqb-true}
use Rattle.std.specs.Prelude.{if◌then◌else◌}
use Rattle.std.specs.List.{list_any, cons_option, AllByRecursion}
use Rattle.capture_form.specs.declared.records.Record.{Record}
use Rattle.capture_form.specs.Rules.{RuleSet}
use Rattle.trace_events.specs.Words.{is_some_and, is_number}
use Rattle.trace_events.specs.Event.{Event, Incoming}
use Rattle.trace_events.specs.declared.session.Session.{Session}
use Rattle.trace_events.specs.Incoming.{in_progress, incoming_at, incoming_begun, incoming_deliveries}
use Rattle.trace_events.specs.Waiting.{is_undecided, is_undecided_of}
use Rattle.trace_events.specs.History.{judge, history, new_incoming}
use Rattle.trace_events.proofs.Along.{along, and_first, and_last}
use Rattle.trace_events.proofs.Links.{passing}
use Rattle.trace_events.proofs.Parts.{IsPart, record_part, first_free, IsFree, progress_holds, IsKept, AreKept, kept_step, none_kept, all_such, each_delivery}
use Rattle.trace_events.proofs.Undecided.{undecided_before}

-- ---- on lists

-- at most one passes
abbrev pub AtMostOne : {A : Type 0} → (A → Bool) → List A → Type 0
AtMostOne test [] = Unit {0}
AtMostOne test (x ∷ xs) = (test x ≡ true → list_any test xs ≡ false) × AtMostOne test xs

-- what passes the second test passes the first
abbrev pub Keeps : {A : Type 0} → (A → Bool) → (A → Bool) → A → Type 0
Keeps first second x = second x ≡ true → first x ≡ true

pub none_passes : {A : Type 0} (u v : A → Bool) (xs : List A) → AllByRecursion (Keeps u v) xs → list_any u xs ≡ false → list_any v xs ≡ false
none_passes u v [] keeps none = refl
none_passes u v (x ∷ xs) keeps none = by (u x) (v x) refl refl (none_passes u v xs keeps.1) none
  where
    by : (b c : Bool) → u x ≡ b → v x ≡ c → (list_any u xs ≡ false → list_any v xs ≡ false) → b || list_any u xs ≡ false → c || list_any v xs ≡ false
    by true c first second later none = absurd cc
    by false true first second later none = let yes : u x ≡ true = keeps.0 second in absurd cc
    by false false first second later none = later none

pub fewer : {A : Type 0} (u v : A → Bool) (xs : List A) → AllByRecursion (Keeps u v) xs → AtMostOne u xs → AtMostOne v xs
fewer u v [] keeps one = tt
fewer u v (x ∷ xs) keeps one = (λ passes. none_passes u v xs keeps.1 (one.0 (keeps.0 passes)), fewer u v xs keeps.1 one.1)

pub found_any : {A : Type 0} (u p : A → Bool) (xs : List A) (x : A) → find p xs ≡ Some x → u x ≡ true → list_any u xs ≡ true
found_any u p [] x found passes = absurd cc
found_any u p (y ∷ ys) x found passes = by (p y) (u y) refl (λ later. found_any u p ys x later passes) found
  where
    by : (b c : Bool) → u y ≡ c → (find p ys ≡ Some x → list_any u ys ≡ true) → (if b then Some y else find p ys) ≡ Some x → c || list_any u ys ≡ true
    by b true is later found = refl
    by true false is later found = let same : y ≡ x = cc in let yes : u y ≡ true = ap u same ∙ passes in absurd cc
    by false false is later found = later found

-- one that passes the first test alone is the only one, so that none passes the second
pub none_but : {A : Type 0} (u v p : A → Bool) (xs : List A) (x : A) → find p xs ≡ Some x → u x ≡ true → v x ≡ false → AtMostOne u xs → AllByRecursion (Keeps u v) xs → list_any v xs ≡ false
none_but u v p [] x found passes fails one keeps = refl
none_but u v p (y ∷ ys) x found passes fails one keeps = by (p y) (u y) (v y) refl refl (λ later. none_but u v p ys x later passes fails one.1 keeps.1) found
  where
    by : (b c d : Bool) → u y ≡ c → v y ≡ d → (find p ys ≡ Some x → list_any v ys ≡ false) → (if b then Some y else find p ys) ≡ Some x → d || list_any v ys ≡ false
    by b true false first second later found = none_passes u v ys keeps.1 (one.0 first)
    by true true true first second later found = let same : y ≡ x = cc in let no : v y ≡ false = ap v same ∙ fails in absurd cc
    by false true true first second later found =
        let some : list_any u ys ≡ true = found_any u p ys x found passes in
        let none : list_any u ys ≡ false = one.0 first in
        absurd cc
    by b false true first second later found = let yes : u y ≡ true = keeps.0 second in absurd cc
    by false false false first second later found = later found
    by true false false first second later found = let same : y ≡ x = cc in let yes : u y ≡ true = ap u same ∙ passes in absurd cc

-- two that pass are one, where each is found by its own test
pub one_found : {A : Type 0} (u p q : A → Bool) (xs : List A) (x y : A) → AtMostOne u xs → find p xs ≡ Some x → find q xs ≡ Some y → u x ≡ true → u y ≡ true → x ≡ y
one_found u p q [] x y one found other first second = absurd cc
one_found u p q (z ∷ zs) x y one found other first second = by (p z) (q z) (λ found other. one_found u p q zs x y one.1 found other first second) found other
  where
    by : (b c : Bool) → (find p zs ≡ Some x → find q zs ≡ Some y → x ≡ y) → (if b then Some z else find p zs) ≡ Some x → (if c then Some z else find q zs) ≡ Some y → x ≡ y
    by true true later found other = cc
    by true false later found other =
        let same : z ≡ x = cc in
        let none : list_any u zs ≡ false = one.0 (ap u same ∙ first) in
        let some : list_any u zs ≡ true = found_any u q zs y other second in
        absurd cc
    by false true later found other =
        let same : z ≡ y = cc in
        let none : list_any u zs ≡ false = one.0 (ap u same ∙ second) in
        let some : list_any u zs ≡ true = found_any u p zs x found first in
        absurd cc
    by false false later found other = later found other

-- ---- on the deliveries of a history

keep_by : (on has before now : Bool) → (now ≡ true → before ≡ true) → on && has && now ≡ true → on && has && before ≡ true
keep_by true true before now keeps is = keeps is
keep_by true false before now keeps is = absurd cc
keep_by false has before now keeps is = absurd cc

-- an undecided delivery of the session and the id was one before
pub of_before : (rules : RuleSet) (past : List Event) (r : Record) (s : Session) (id : ℕ) (d : Incoming) → AreKept rules past → IsKept past d
    → is_undecided_of rules s id (judge rules past r ∷ past) d ≡ true → is_undecided_of rules s id past d ≡ true
of_before rules past r s id d all kept is =
    keep_by (d.link.session.number == s.number) (is_number d.id id) (is_undecided rules d past) (is_undecided rules d (judge rules past r ∷ past))
    (undecided_before rules past r d all kept.link.before) is

pub all_keep : (rules : RuleSet) (past : List Event) (r : Record) (s : Session) (id : ℕ) → AreKept rules past
    → AllByRecursion (Keeps (is_undecided_of rules s id past) (is_undecided_of rules s id (judge rules past r ∷ past))) (incoming_deliveries past)
all_keep rules past r s id all =
    all_such (IsKept past) (Keeps (is_undecided_of rules s id past) (is_undecided_of rules s id (judge rules past r ∷ past))) (incoming_deliveries past)
    (λ d kept. of_before rules past r s id d all kept) (each_delivery (IsKept past) past all.each)

is_given : (o : Option ℕ) (id : ℕ) → is_number o id ≡ true → o ≡ Some id
is_given None id e = absurd cc
is_given (Some n) id e = ap Some (eqb-true n id e)

-- the id of a delivery that begins is of no undecided one of its session
pub free_of : (rules : RuleSet) (past : List Event) (s : Session) (id : ℕ) (d : Incoming) → IsFree rules past d → (d.link.session.number == s.number) ≡ true → is_number d.id id ≡ true
    → list_any (is_undecided_of rules s id past) (incoming_deliveries past) ≡ false
free_of rules past s id d free on has =
    ap (λ (n : ℕ). list_any (λ (x : Incoming). x.link.session.number == n && is_number x.id id && is_undecided rules x past) (incoming_deliveries past)) (sym (eqb-true d.link.session.number s.number on))
    ∙ (sym (ap (λ (o : Option ℕ). is_some_and o (λ n. list_any (is_undecided_of rules d.link.session n past) (incoming_deliveries past))) (is_given d.id id has)) ∙ free.free)

-- a delivery that a record begins has an id that is free
pub begun_free : (rules : RuleSet) (past : List Event) (r : Record) (d : Incoming) → AreKept rules past → incoming_begun (judge rules past r) ≡ Some d → IsFree rules past d
begun_free rules past r d all is =
    let e = judge rules past r in
    let begun = passing (λ (x : Incoming). x.number == e.number) e.incoming d is in
    let p = record_part rules past r d begun.0 in
    by p p.part.kind (eqb-true d.number (length past) begun.1)
  where
    by : (p : IsPart (judge rules past r) past d) → (in_progress p.part.link past ≡ Some d) ⊎ ((in_progress p.part.link past ≡ None) × (d ≡ new_incoming (length past) p.fields p.part.link))
        → d.number ≡ length past → IsFree rules past d
    by p (inr new) number = first_free rules past r d p new.0 new.1
    by p (inl going) number = let lt = (progress_holds (IsKept past) p.part.link past d all.each going).before in absurd (omega (arith, lt, number))

-- ---- along a history

-- at most one delivery of the session and the id is undecided
abbrev pub AreApart : RuleSet → List Event → Type 0
AreApart rules past = (s : Session) (id : ℕ) → AtMostOne (is_undecided_of rules s id past) (incoming_deliveries past)

pub apart_step : (rules : RuleSet) (past : List Event) (r : Record) → AreKept rules past → AreApart rules past → AreApart rules (judge rules past r ∷ past)
apart_step rules past r all apart s id = by (incoming_begun (judge rules past r)) refl
  where
    by : (o : Option Incoming) → incoming_begun (judge rules past r) ≡ o → AtMostOne (is_undecided_of rules s id (judge rules past r ∷ past)) (cons_option o (incoming_deliveries past))
    by None is = fewer (is_undecided_of rules s id past) (is_undecided_of rules s id (judge rules past r ∷ past)) (incoming_deliveries past) (all_keep rules past r s id all) (apart s id)
    by (Some d) is = (
      λ undecided.
          let both = and_first (d.link.session.number == s.number && is_number d.id id) (is_undecided rules d (judge rules past r ∷ past)) undecided in
          let on = and_first (d.link.session.number == s.number) (is_number d.id id) both in
          let has = and_last (d.link.session.number == s.number) (is_number d.id id) both in
          none_passes (is_undecided_of rules s id past) (is_undecided_of rules s id (judge rules past r ∷ past)) (incoming_deliveries past) (all_keep rules past r s id all)
          (free_of rules past s id d (begun_free rules past r d all is) on has),
      fewer (is_undecided_of rules s id past) (is_undecided_of rules s id (judge rules past r ∷ past)) (incoming_deliveries past) (all_keep rules past r s id all) (apart s id),
    )

record Apart (rules : RuleSet) (past : List Event) : Type 0 where
  kept : AreKept rules past
  apart : AreApart rules past

pub history_apart : (rules : RuleSet) (rs : List Record) → AreApart rules (history rules rs)
history_apart rules rs =
    (along rules (Apart rules) (record { kept = none_kept rules; apart = λ s id. tt })
    (λ past r h. record { kept = kept_step rules past r h.kept; apart = apart_step rules past r h.kept h.apart }) rs).apart

-- of a capture: two undecided deliveries of one session and one id are one
pub undecided_one : (rules : RuleSet) (rs : List Record) (s : Session) (id m n : ℕ) (a b : Incoming) → incoming_at m (history rules rs) ≡ Some a → incoming_at n (history rules rs) ≡ Some b
    → is_undecided_of rules s id (history rules rs) a ≡ true → is_undecided_of rules s id (history rules rs) b ≡ true → a ≡ b
undecided_one rules rs s id m n a b found other first second =
    one_found (is_undecided_of rules s id (history rules rs)) (λ d. d.number == m) (λ d. d.number == n) (incoming_deliveries (history rules rs)) a b (history_apart rules rs s id) found other first second
