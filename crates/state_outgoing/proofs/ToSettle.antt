-- The delivery to settle is that of the least number of those that a group has and that may be settled.
use Rattle.std.proofs.Common.{◌≡◌, refl, sym, ap, subst, ◌∙◌, ◌<◌, ◌≤◌, ℕ, Bool, true, false, ◌&&◌, List, [], ◌∷◌, length, reverse, Option, Some, None, IfSome, find, option_and_then, option_map, nat_eq, if◌then◌else◌, ◌==◌, eqb-true, eq-eqb, ne_eqb, arith}
use Rattle.std.specs.List.{list_any}
use Rattle.capture_form.specs.Rules.{RuleSet}
use Rattle.trace_events.specs.declared.session.Session.{Session}
use Rattle.trace_events.specs.Words.{is_some_and, is_number, or_else}
use Rattle.trace_events.specs.Event.{Event, Outgoing}
use Rattle.trace_events.specs.Outgoing.{outgoing_deliveries, outgoing_at}
use Rattle.trace_events.specs.Settling.{is_to_settle, to_settle}
use Rattle.trace_events.proofs.Judged.{AreJudged}
use Rattle.trace_events.proofs.Earliest.{earliest, find-reverse}
use Rattle.state_outgoing.specs.Sent.{Sent, sent, sent_at}
use Rattle.state_outgoing.specs.Earliest.{least}
use Rattle.state_outgoing.proofs.LeastNumbers.{least-is, least-none}
use Rattle.state_outgoing.proofs.OutgoingNumbers.{AreFalling, judged-falling}

-- ---- of a list whose numbers fall, the last that passes

abbrev at : ℕ → List Outgoing → Option Outgoing
at n js = find (λ j. j.number == n) js

module _ (test : Outgoing → Bool) where
  first-none : (js : List Outgoing) → earliest test js ≡ None → (n : ℕ) → is_some_and (at n js) test ≡ false
  first-none [] none n = refl
  first-none (j ∷ js) none n = by (earliest test js) refl (test j) refl (j.number == n) none (first-none js)
    where
      by : (o : Option Outgoing) → earliest test js ≡ o → (b : Bool) → test j ≡ b → (c : Bool) → or_else o (if b then Some j else None) ≡ None
          → (earliest test js ≡ None → (n : ℕ) → is_some_and (at n js) test ≡ false) → is_some_and (if c then Some j else at n js) test ≡ false
      by (Some i) was b is c none later = absurd cc
      by None was true is c none later = absurd cc
      by None was false is true none later = is
      by None was false is false none later = later was n

  record IsFirst (m : ℕ) (js : List Outgoing) (j : Outgoing) : Type 0 where
    passes : test j ≡ true
    found : at j.number js ≡ Some j
    below : j.number < m
    least : (n : ℕ) → is_some_and (at n js) test ≡ true → j.number ≤ n

  first-least : (m : ℕ) (js : List Outgoing) → AreFalling m js → (j : Outgoing) → earliest test js ≡ Some j → IsFirst m js j
  first-least m [] falls j first = absurd cc
  first-least m (i ∷ js) falls j first = by (earliest test js) refl (test i) refl first (first-least i.number js falls.1)
    where
      number : (c : Bool) (n : ℕ) → (i.number == n) ≡ c → (k : ℕ) → k ≤ i.number → (is_some_and (at n js) test ≡ true → k ≤ n) → is_some_and (if c then Some i else at n js) test ≡ true → k ≤ n
      number true n same k le later passes = omega (arith, eqb-true i.number n same, le)
      number false n same k le later passes = later passes

      by : (o : Option Outgoing) → earliest test js ≡ o → (b : Bool) → test i ≡ b → or_else o (if b then Some i else None) ≡ Some j
          → ((j : Outgoing) → earliest test js ≡ Some j → IsFirst i.number js j) → IsFirst m (i ∷ js) j
      by (Some k) was b is first later =
          let same : k ≡ j = cc in
          let h = later j (was ∙ first) in
          let lt = h.below in
          record {
            passes = h.passes;
            found = ap (λ b. if b then Some i else at j.number js) (ne_eqb i.number j.number (λ same. omega (arith, same, lt))) ∙ h.found;
            below = omega (arith, lt, falls.0);
            least = λ n. number (i.number == n) n refl j.number (omega (arith, lt)) (h.least n);
          }
      by None was true is first later =
          let same : i ≡ j = cc in
          record {
            passes = ap test (sym same) ∙ is;
            found = ap (λ (x : Outgoing). at x.number (i ∷ js)) (sym same) ∙ (ap (λ b. if b then Some i else at i.number js) (eq-eqb i.number i.number refl) ∙ ap Some same);
            below = let lt = falls.0 in omega (arith, lt, ap (λ (x : Outgoing). x.number) same);
            least = λ n. number (i.number == n) n refl j.number (omega (arith, ap (λ (x : Outgoing). x.number) same))
                (λ yes. let never : false ≡ true = sym (first-none js was n) ∙ yes in absurd cc);
          }
      by None was false is first later = absurd cc

-- ---- of all deliveries that have begun, by numbers

-- the first that passes is known
pub first-known : (rules : RuleSet) (past : List Event) → AreJudged rules past → (test : Outgoing → Bool) → IfSome (find test (reverse (outgoing_deliveries past))) (λ j. outgoing_at j.number past ≡ Some j)
first-known rules past are test =
    subst (λ o. IfSome o (λ j. outgoing_at j.number past ≡ Some j)) (sym (find-reverse test (outgoing_deliveries past))) (by (earliest test (outgoing_deliveries past)) refl)
  where
    by : (o : Option Outgoing) → earliest test (outgoing_deliveries past) ≡ o → IfSome o (λ j. outgoing_at j.number past ≡ Some j)
    by None none = tt
    by (Some j) is = (first-least test (length past) (outgoing_deliveries past) (judged-falling rules past are) j is).found

module _ (rules : RuleSet) (past : List Event) (are : AreJudged rules past) (test : Outgoing → Bool) (meets : ℕ → Bool) (same : (n : ℕ) → meets n ≡ is_some_and (outgoing_at n past) test) where
  last-passes : (o : Option Outgoing) → earliest test (outgoing_deliveries past) ≡ o → find test (reverse (outgoing_deliveries past)) ≡ o
  last-passes o is = find-reverse test (outgoing_deliveries past) ∙ is

  -- none passes
  pub no-first : ((n : ℕ) → meets n ≡ false) → find test (reverse (outgoing_deliveries past)) ≡ None
  no-first none = by (earliest test (outgoing_deliveries past)) refl
    where
      by : (o : Option Outgoing) → earliest test (outgoing_deliveries past) ≡ o → find test (reverse (outgoing_deliveries past)) ≡ None
      by None is = last-passes None is
      by (Some j) is =
          let h = first-least test (length past) (outgoing_deliveries past) (judged-falling rules past are) j is in
          let yes : meets j.number ≡ true = same j.number ∙ (ap (λ o. is_some_and o test) h.found ∙ h.passes) in
          let no : meets j.number ≡ false = none j.number in
          absurd cc

  -- the one of the least number
  pub first-at : (m : ℕ) → meets m ≡ true → ((n : ℕ) → meets n ≡ true → m ≤ n) → find test (reverse (outgoing_deliveries past)) ≡ outgoing_at m past
  first-at m meeting below = by (earliest test (outgoing_deliveries past)) refl
    where
      by : (o : Option Outgoing) → earliest test (outgoing_deliveries past) ≡ o → find test (reverse (outgoing_deliveries past)) ≡ outgoing_at m past
      by None is =
          let no : is_some_and (outgoing_at m past) test ≡ false = first-none test (outgoing_deliveries past) is m in
          let never : true ≡ false = sym meeting ∙ (same m ∙ no) in
          absurd cc
      by (Some j) is =
          let h = first-least test (length past) (outgoing_deliveries past) (judged-falling rules past are) j is in
          let up = h.least m (sym (same m) ∙ meeting) in
          let down = below j.number (same j.number ∙ (ap (λ o. is_some_and o test) h.found ∙ h.passes)) in
          let number : j.number ≡ m = omega (arith, up, down) in
          last-passes (Some j) is ∙ (sym h.found ∙ ap (λ n. outgoing_at n past) number)

-- where a list has them all
pub first-of : (rules : RuleSet) (past : List Event) → AreJudged rules past → (test : Outgoing → Bool) (passes : ℕ → Bool) (ns : List ℕ)
    → ((n : ℕ) → list_any (nat_eq n) ns && passes n ≡ is_some_and (outgoing_at n past) test)
    → option_and_then (λ n. outgoing_at n past) (least passes ns) ≡ find test (reverse (outgoing_deliveries past))
first-of rules past are test passes ns same = by (least passes ns) refl
  where
    by : (o : Option ℕ) → least passes ns ≡ o → option_and_then (λ n. outgoing_at n past) o ≡ find test (reverse (outgoing_deliveries past))
    by None none = sym (no-first rules past are test (λ n. list_any (nat_eq n) ns && passes n) same (least-none passes ns none))
    by (Some m) is =
        let h = least-is passes ns m is in
        sym (first-at rules past are test (λ n. list_any (nat_eq n) ns && passes n) same m h.among h.below)

-- ---- the delivery to settle

abbrev pub is_of : Session → ℕ → Outgoing → Bool
is_of s id j = j.link.session.number == s.number && is_number j.id id

module _ (rules : RuleSet) (past : List Event) (are : AreJudged rules past) (s : Session) (id : ℕ) where
  abbrev pub is_asked : Outgoing → Bool
  is_asked j = is_of s id j && is_to_settle past j

  pub to_settle-at : (meets : ℕ → Bool) → ((n : ℕ) → meets n ≡ is_some_and (outgoing_at n past) is_asked)
      → (m : ℕ) → meets m ≡ true → ((n : ℕ) → meets n ≡ true → m ≤ n) → to_settle s id past ≡ outgoing_at m past
  to_settle-at meets same m meeting below = first-at rules past are is_asked meets same m meeting below

  pub to_settle-known : IfSome (to_settle s id past) (λ j. outgoing_at j.number past ≡ Some j)
  to_settle-known = first-known rules past are is_asked

  pub to_settle-none : (meets : ℕ → Bool) → ((n : ℕ) → meets n ≡ is_some_and (outgoing_at n past) is_asked) → ((n : ℕ) → meets n ≡ false) → to_settle s id past ≡ None
  to_settle-none meets same none = no-first rules past are is_asked meets same none

  pub to_settle-of : (passes : ℕ → Bool) (ns : List ℕ) → ((n : ℕ) → list_any (nat_eq n) ns && passes n ≡ is_some_and (outgoing_at n past) is_asked)
      → option_and_then (λ n. outgoing_at n past) (least passes ns) ≡ to_settle s id past
  to_settle-of passes ns same = first-of rules past are is_asked passes ns same

-- ---- by a group of the deliveries of the id on the session

same_some : {A : Type 0} (a b : A) → Some a ≡ Some b → a ≡ b
same_some a b is = cc

last_bit : (a b : Bool) → a && b ≡ true → b ≡ true
last_bit true b is = is
last_bit false b is = absurd cc

-- a mark that each delivery to settle bears leaves none of them out
marked-bits : (of mark asks : Bool) → (asks ≡ true → mark ≡ true) → (of && mark) && asks ≡ of && asks
marked-bits true true asks bears = refl
marked-bits true false true bears = let never : false ≡ true = bears refl in absurd cc
marked-bits true false false bears = refl
marked-bits false mark asks bears = refl

-- what is known of each delivery is kept by its number, at least of those to settle; the group has those of the id that bear the
-- mark; and what passes is to be settled
module _ (rules : RuleSet) (past : List Event) (are : AreJudged rules past) (kept : ℕ → Option Sent)
    (laws : (n : ℕ) (x : Sent) → kept n ≡ Some x → sent_at n past ≡ Some x)
    (stays : (n : ℕ) (j : Outgoing) → outgoing_at n past ≡ Some j → is_to_settle past j ≡ true → kept n ≡ Some (sent past j))
    (s : Session) (id : ℕ) (mark : Sent → Bool) (bears : (j : Outgoing) → is_to_settle past j ≡ true → mark (sent past j) ≡ true)
    (ns : List ℕ) (grouped : (n : ℕ) → list_any (nat_eq n) ns ≡ is_some_and (kept n) (λ x. is_of s id x.delivery && mark x))
    (passes : ℕ → Bool) (asks : (n : ℕ) → passes n ≡ is_some_and (kept n) (λ x. is_to_settle past x.delivery)) where
  group-meets : (n : ℕ) → list_any (nat_eq n) ns && passes n ≡ is_some_and (outgoing_at n past) (is_asked rules past are s id)
  group-meets n =
      ap (λ b. b && passes n) (grouped n)
      ∙ (ap (λ b. is_some_and (kept n) (λ x. is_of s id x.delivery && mark x) && b) (asks n) ∙ by (outgoing_at n past) refl (kept n) refl)
    where
      not-asked : (of asks : Bool) → (asks ≡ true → false ≡ true) → false ≡ of && asks
      not-asked of true never = let both : false ≡ true = never refl in absurd cc
      not-asked true false never = refl
      not-asked false false never = refl

      by : (o : Option Outgoing) → outgoing_at n past ≡ o → (k : Option Sent) → kept n ≡ k
          → is_some_and k (λ (x : Sent). is_of s id x.delivery && mark x) && is_some_and k (λ (x : Sent). is_to_settle past x.delivery)
          ≡ is_some_and o (is_asked rules past are s id)
      by None none None empty = refl
      by None none (Some x) entry = let never : None ≡ Some x = sym (ap (option_map (sent past)) none) ∙ laws n x entry in absurd cc
      by (Some j) at None empty = not-asked (is_of s id j) (is_to_settle past j) (λ is. let never : None ≡ Some (sent past j) = sym empty ∙ stays n j at is in absurd cc)
      by (Some j) at (Some x) entry =
          let own : sent past j ≡ x = same_some (sent past j) x (sym (ap (option_map (sent past)) at) ∙ laws n x entry) in
          sym (ap (λ (y : Sent). (is_of s id y.delivery && mark y) && is_to_settle past y.delivery) own) ∙ marked-bits (is_of s id j) (mark (sent past j)) (is_to_settle past j) (bears j)

  -- what is kept of the least number that passes
  pub to_settle-entry : option_map (λ x. x.delivery) (option_and_then kept (least passes ns)) ≡ to_settle s id past
  to_settle-entry = by (least passes ns) refl ∙ to_settle-of rules past are s id passes ns group-meets
    where
      -- one that meets it is known, and so it is kept
      of : (n : ℕ) → is_some_and (outgoing_at n past) (is_asked rules past are s id) ≡ true → (o : Option Outgoing) → outgoing_at n past ≡ o → option_map (λ (x : Sent). x.delivery) (kept n) ≡ o
      of n meets None none = let never : false ≡ true = sym (ap (λ o. is_some_and o (is_asked rules past are s id)) none) ∙ meets in absurd cc
      of n meets (Some j) at =
          let asked : is_of s id j && is_to_settle past j ≡ true = sym (ap (λ o. is_some_and o (is_asked rules past are s id)) at) ∙ meets in
          ap (option_map (λ (x : Sent). x.delivery)) (stays n j at (last_bit (is_of s id j) (is_to_settle past j) asked))

      by : (o : Option ℕ) → least passes ns ≡ o → option_map (λ (x : Sent). x.delivery) (option_and_then kept o) ≡ option_and_then (λ n. outgoing_at n past) o
      by None none = refl
      by (Some n) is = of n (sym (group-meets n) ∙ (least-is passes ns n is).among) (outgoing_at n past) refl
