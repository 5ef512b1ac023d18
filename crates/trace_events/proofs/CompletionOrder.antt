-- The order in which deliveries from clients were completed, in a judged history: of two that are complete one comes first,
-- and stays so.
use Rattle.std.proofs.Common.{◌≡◌, refl, sym, ap, ◌∙◌, ℕ, ◌<◌, List, [], ◌∷◌, Bool, true, false, ◌≤◌, ◌==◌, Option, Some, None, option_map, find, arith, eqb-true, eq-eqb, lt-ltb}
use Rattle.std.specs.Prelude.{nat_lt}
use Rattle.std.proofs.lemmas.Bool.{ltb-true, ltb-false, le-ltb}
use Rattle.capture_form.specs.Rules.{RuleSet}
use Rattle.trace_events.specs.Words.{is_some_and}
use Rattle.trace_events.specs.Event.{Event, Incoming}
use Rattle.trace_events.specs.Incoming.{completed_by, completes, is_complete, completion, completed_before}
use Rattle.trace_events.proofs.Judged.{AreJudged, judged-number}
use Rattle.trace_events.proofs.IncomingSteps.{completion-same, completion-here}
use Rattle.trace_events.proofs.OneConsumer.{some-and}
use Rattle.trace_events.proofs.WaitingQueue.{completed_once, completed_below, completion_complete, completion_lower}

-- ---- by the numbers of the records that completed them

pub record IsBefore (past : List Event) (a b : Incoming) : Type 0 where
  pub first : ℕ
  pub second : ℕ
  pub completed : completion a past ≡ Some first
  pub completed_then : completion b past ≡ Some second
  pub lower : first < second

pub before-is : (past : List Event) (a b : Incoming) → completed_before a b past ≡ true → IsBefore past a b
before-is past a b before =
    let m = some-and (completion a past) (λ m. is_some_and (completion b past) (λ n. nat_lt m n)) before in
    let n = some-and (completion b past) (λ n. nat_lt m.0 n) m.2 in
    record { first = m.0; second = n.0; completed = m.1; completed_then = n.1; lower = ltb-true m.0 n.0 n.2 }

before-by : (past : List Event) (a b : Incoming) (m n : ℕ) → completion a past ≡ Some m → completion b past ≡ Some n → completed_before a b past ≡ nat_lt m n
before-by past a b m n first second =
    ap (λ (o : Option ℕ). is_some_and o (λ m. is_some_and (completion b past) (λ n. nat_lt m n))) first ∙ ap (λ (o : Option ℕ). is_some_and o (λ n. nat_lt m n)) second

-- not both ways
pub before-one_way : (past : List Event) (a b : Incoming) → completed_before a b past ≡ true → completed_before b a past ≡ false
before-one_way past a b before =
    let is = before-is past a b before in
    let lt = is.lower in
    before-by past b a is.second is.first is.completed_then is.completed ∙ le-ltb is.second is.first (omega (arith, lt))

pub before-not_itself : (past : List Event) (a : Incoming) → completed_before a a past ≡ false
before-not_itself past a = by (completed_before a a past) refl
  where
    by : (b : Bool) → completed_before a a past ≡ b → b ≡ false
    by false is = refl
    by true is = let no : completed_before a a past ≡ false = before-one_way past a a is in absurd cc

-- it goes by numbers alone
pub before-numbers : (past : List Event) (a b c d : Incoming) → a.number ≡ c.number → b.number ≡ d.number → completed_before a b past ≡ completed_before c d past
before-numbers past a b c d first second =
    ap (λ (o : Option ℕ). is_some_and o (λ m. is_some_and (completion b past) (λ n. nat_lt m n))) (completion-number past a c first)
    ∙ ap (λ (o : Option ℕ). is_some_and (completion c past) (λ m. is_some_and o (λ n. nat_lt m n))) (completion-number past b d second)
  where
    completion-number : (past : List Event) (x y : Incoming) → x.number ≡ y.number → completion x past ≡ completion y past
    completion-number past x y same = ap (λ (n : ℕ). option_map (λ (e : Event). e.number) (find (λ e. is_some_and (completed_by e) (λ other. other.number == n)) past)) same

-- ---- one event completes one delivery

same_some : {A : Type 0} (a b : A) → Some a ≡ Some b → a ≡ b
same_some a b is = cc

both-of : (a b : Incoming) (o : Option Incoming) → is_some_and o (λ x. x.number == a.number) ≡ true → is_some_and o (λ x. x.number == b.number) ≡ true → a.number ≡ b.number
both-of a b None first second = absurd cc
both-of a b (Some x) first second = sym (eqb-true x.number a.number first) ∙ eqb-true x.number b.number second

pub completion-one : (rules : RuleSet) (past : List Event) → AreJudged rules past → (a b : Incoming) (m : ℕ) → completion a past ≡ Some m → completion b past ≡ Some m → a.number ≡ b.number
completion-one rules [] are a b m first second = absurd cc
completion-one rules (e ∷ past) are a b m first second = by (completes a e) (completes b e) refl refl (completion-one rules past are.1 a b m)
  where
    -- what was completed before has a lower number
    earlier-not : (x : Incoming) → Some e.number ≡ Some m → completion x past ≡ Some m → a.number ≡ b.number
    earlier-not x now was =
        let below = completed_below rules past are.1 x (completion_complete past x m was) in
        let lt = below.2 in
        let one : e.number ≡ m = same_some e.number m now in
        let other : below.0 ≡ m = same_some below.0 m (sym below.1 ∙ was) in
        let number = judged-number rules e past are in
        absurd (omega (arith, lt, one, other, number))

    by : (here there : Bool) → completes a e ≡ here → completes b e ≡ there → (completion a past ≡ Some m → completion b past ≡ Some m → a.number ≡ b.number) → a.number ≡ b.number
    by true true here there earlier = both-of a b (completed_by e) here there
    by true false here there earlier = earlier-not b (sym (completion-here e past a here) ∙ first) (sym (completion-same e past b there) ∙ second)
    by false true here there earlier = earlier-not a (sym (completion-here e past b there) ∙ second) (sym (completion-same e past a here) ∙ first)
    by false false here there earlier = earlier (sym (completion-same e past a here) ∙ first) (sym (completion-same e past b there) ∙ second)

-- so of two that are complete one comes first
pub one-before : (rules : RuleSet) (past : List Event) → AreJudged rules past → (a b : Incoming) → is_complete a past ≡ true → is_complete b past ≡ true → (a.number == b.number) ≡ false
    → completed_before b a past ≡ false → completed_before a b past ≡ true
one-before rules past are a b first second apart not_before =
    let m = completed_below rules past are a first in
    let n = completed_below rules past are b second in
    by m.0 n.0 m.1 n.1
  where
    by : (m n : ℕ) → completion a past ≡ Some m → completion b past ≡ Some n → completed_before a b past ≡ true
    by m n here there =
        let most : m ≤ n = ltb-false n m (sym (before-by past b a n m there here) ∙ not_before) in
        before-by past a b m n here there ∙ decided (nat_lt m n) refl most
      where
        decided : (b : Bool) → nat_lt m n ≡ b → m ≤ n → b ≡ true
        decided true is most = refl
        decided false is most =
            let least : n ≤ m = ltb-false m n is in
            let same : m ≡ n = omega (arith, least, most) in
            let yes : (a.number == b.number) ≡ true = eq-eqb a.number b.number (completion-one rules past are a b n (here ∙ ap Some same) there) in
            absurd cc

-- ---- what an event completes comes behind all that were complete

pub before-completed : (rules : RuleSet) (e : Event) (past : List Event) → AreJudged rules (e ∷ past) → (a d : Incoming) → is_complete a past ≡ true → completes d e ≡ true
    → completed_before a d (e ∷ past) ≡ true
before-completed rules e past are a d done here =
    let below = completed_below rules past are.1 a done in
    let number = judged-number rules e past are in
    let lt = below.2 in
    completion_lower a d (e ∷ past) below.0 e.number (completion-same e past a (completed_once rules e past are a done) ∙ below.1) (completion-here e past d here)
    (lt-ltb below.0 e.number (omega (arith, number, lt)))
