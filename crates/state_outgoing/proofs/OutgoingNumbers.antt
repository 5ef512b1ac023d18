-- Deliveries to clients have numbers that fall: so one that is found by any test is found by its number.
use Rattle.std.proofs.Common.{◌≡◌, refl, sym, ap, ◌∙◌, ◌<◌, ◌≤◌, ℕ, Bool, true, false, List, [], ◌∷◌, length, Option, Some, None, IfSome, find, option_and_then, option_map, if◌then◌else◌, ◌==◌, eqb-true, eq-eqb, ne_eqb, arith}
use Rattle.std.specs.List.{cons_option}
use Rattle.capture_form.specs.Rules.{RuleSet}
use Rattle.trace_events.specs.Words.{is_some_and}
use Rattle.trace_events.specs.Event.{Event, Outgoing}
use Rattle.trace_events.specs.Outgoing.{outgoing_begun, outgoing_deliveries, outgoing_at}
use Rattle.trace_events.proofs.Judged.{AreJudged, judged-number}
use Rattle.trace_events.proofs.Links.{passing}
use Rattle.state_outgoing.specs.LetGo.{where_kept, kept_at}
use Rattle.state_outgoing.specs.Sent.{Sent, sent}

-- ---- numbers that fall

-- each number is below the one before it, and the first below this one
abbrev pub AreFalling : ℕ → List Outgoing → Type 0
AreFalling n [] = Unit {0}
AreFalling n (j ∷ js) = (j.number < n) × AreFalling j.number js

falling-weaker : (n m : ℕ) (js : List Outgoing) → n ≤ m → AreFalling n js → AreFalling m js
falling-weaker n m [] le h = tt
falling-weaker n m (j ∷ js) le h = (omega (arith, le, h.0), h.1)

falling-more : (n m : ℕ) (o : Option Outgoing) (js : List Outgoing) → n < m → ((j : Outgoing) → o ≡ Some j → j.number ≡ n) → AreFalling n js → AreFalling m (cons_option o js)
falling-more n m None js lt own h = falling-weaker n m js (omega (arith, lt)) h
falling-more n m (Some j) js lt own h = (omega (arith, lt, own j refl), falling-weaker n j.number js (omega (arith, own j refl)) h)

-- a delivery that an event begins has the event's number
pub begun-number : (e : Event) (j : Outgoing) → outgoing_begun e ≡ Some j → j.number ≡ e.number
begun-number e j begun = eqb-true j.number e.number (passing (λ (x : Outgoing). x.number == e.number) e.outgoing j begun).1

pub judged-falling : (rules : RuleSet) (past : List Event) → AreJudged rules past → AreFalling (length past) (outgoing_deliveries past)
judged-falling rules [] are = tt
judged-falling rules (e ∷ past) are =
    falling-more (length past) (length (e ∷ past)) (outgoing_begun e) (outgoing_deliveries past) (omega arith) (λ j is. begun-number e j is ∙ judged-number rules e past are)
    (judged-falling rules past are.1)

-- ---- one that is found

same_some : {A : Type 0} (a b : A) → Some a ≡ Some b → a ≡ b
same_some a b is = cc

pub found-passes : {A : Type 0} (test : A → Bool) (xs : List A) (x : A) → find test xs ≡ Some x → test x ≡ true
found-passes test [] x found = absurd cc
found-passes test (y ∷ ys) x found = by (test y) refl found (found-passes test ys x)
  where
    by : (b : Bool) → test y ≡ b → (if b then Some y else find test ys) ≡ Some x → (find test ys ≡ Some x → test x ≡ true) → test x ≡ true
    by true is found later = ap test (sym (same_some y x found)) ∙ is
    by false is found later = later found

abbrev IsAt : ℕ → List Outgoing → Outgoing → Type 0
IsAt n js j = (j.number < n) × (find (λ k. k.number == j.number) js ≡ Some j)

found-by : (n : ℕ) (js : List Outgoing) → AreFalling n js → (test : Outgoing → Bool) (j : Outgoing) → find test js ≡ Some j → IsAt n js j
found-by n [] falls test j found = absurd cc
found-by n (k ∷ js) falls test j found = by (test k) found (found-by k.number js falls.1 test j)
  where
    by : (b : Bool) → (if b then Some k else find test js) ≡ Some j → (find test js ≡ Some j → IsAt k.number js j) → IsAt n (k ∷ js) j
    by true found later =
        let number : k.number ≡ j.number = ap (λ (x : Outgoing). x.number) (same_some k j found) in
        (omega (arith, falls.0, number), ap (λ b. if b then Some k else find (λ x. x.number == j.number) js) (eq-eqb k.number j.number number) ∙ found)
    by false found later =
        let at = later found in
        let lt = at.0 in
        (omega (arith, lt, falls.0), ap (λ b. if b then Some k else find (λ x. x.number == j.number) js) (ne_eqb k.number j.number (λ same. omega (arith, same, lt))) ∙ at.1)

module _ (rules : RuleSet) (past : List Event) (are : AreJudged rules past) (test : Outgoing → Bool) where
  -- it has begun before
  pub found-earlier : (j : Outgoing) → find test (outgoing_deliveries past) ≡ Some j → j.number < length past
  found-earlier j found = (found-by (length past) (outgoing_deliveries past) (judged-falling rules past are) test j found).0

  pub found-at : (j : Outgoing) → find test (outgoing_deliveries past) ≡ Some j → outgoing_at j.number past ≡ Some j
  found-at j found = (found-by (length past) (outgoing_deliveries past) (judged-falling rules past are) test j found).1

  -- so it is known
  pub found-known : IfSome (find test (outgoing_deliveries past)) (λ j. outgoing_at j.number past ≡ Some j)
  found-known = by (find test (outgoing_deliveries past)) refl
    where
      by : (o : Option Outgoing) → find test (outgoing_deliveries past) ≡ o → IfSome o (λ j. outgoing_at j.number past ≡ Some j)
      by None none = tt
      by (Some j) found = found-at j found

  -- and where those that were not let go are kept by their numbers, what is kept of it
  pub found-entry : (gone : List (ℕ × Unit {0})) (kept : ℕ → Option Sent) → ((n : ℕ) → kept n ≡ kept_at gone n past)
      → option_and_then kept (option_map (λ j. j.number) (find test (outgoing_deliveries past))) ≡ where_kept gone (option_map (sent past) (find test (outgoing_deliveries past)))
  found-entry gone kept were = by (find test (outgoing_deliveries past)) refl
    where
      by : (o : Option Outgoing) → find test (outgoing_deliveries past) ≡ o → option_and_then kept (option_map (λ j. j.number) o) ≡ where_kept gone (option_map (sent past) o)
      by None none = refl
      by (Some j) found = were j.number ∙ ap (λ o. where_kept gone (option_map (sent past) o)) (found-at j found)

-- ---- the last that passes, behind one more event

module _ (e : Event) (past : List Event) (test : Outgoing → Bool) where
  find-step : (o : Option Outgoing) → find test (cons_option o (outgoing_deliveries past)) ≡ (if is_some_and o test then o else find test (outgoing_deliveries past))
  find-step None = refl
  find-step (Some j) = refl

  -- it is the one that the event begins, where that passes
  pub last-step : find test (outgoing_deliveries (e ∷ past)) ≡ (if is_some_and (outgoing_begun e) test then outgoing_begun e else find test (outgoing_deliveries past))
  last-step = find-step (outgoing_begun e)
