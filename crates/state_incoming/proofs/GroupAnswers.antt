-- What the groups answer of all the deliveries of a history.
use Rattle.std.proofs.Common.{◌≡◌, refl, sym, ap, subst, ◌∙◌, ◌↔◌, ℕ, Bool, true, false, IsTrue, ◌&&◌, ◌||◌, not, List, [], ◌∷◌, Option, Some, None, option_map, if◌then◌else◌, ◌==◌, find, eqb-true, nat_eq, bytes_eq, length, count_by, option_and_then, eq-eqb}
use Rattle.std.specs.List.{list_any, slice_get, IsDistinct, AllByRecursion}
use Rattle.capture_form.specs.Rules.{RuleSet}
use Rattle.trace_events.specs.Words.{is_some_and, where_passes}
use Rattle.trace_events.specs.Event.{Event, Incoming}
use Rattle.trace_events.specs.declared.session.Session.{Session}
use Rattle.trace_events.specs.Waiting.{is_undecided_of}
use Rattle.trace_events.specs.Incoming.{address_of, incoming_at, incoming_deliveries}
use Rattle.trace_events.specs.History.{IsHistory}
use Rattle.trace_events.proofs.Along.{some_passes}
use Rattle.trace_events.proofs.Judged.{AreJudged, history-judged}
use Rattle.trace_events.proofs.IdsApart.{found_any, undecided_one}
use Rattle.trace_events.proofs.IncomingProgress.{judged-kept}
use Rattle.trace_events.proofs.Parts.{IsKept, each_delivery, found_holds}
use Rattle.state_incoming.specs.Held.{Held, held, is_held, held_at}
use Rattle.state_incoming.specs.Grouped.{is_for}
use Rattle.state_incoming.proofs.HeldAnswers.{held-of, held-address}
use Rattle.state_incoming.proofs.IncomingNumbers.{length-counted}
use Rattle.state_incoming.proofs.OverKnown.{kept-law, kept-there}

-- they are judged
pub judged-of : (rules : RuleSet) (past : List Event) → IsHistory rules past → AreJudged rules past
judged-of rules past (records, is) = subst (AreJudged rules) (sym is) (history-judged rules records)

-- two undecided deliveries of one session and one id are one
pub undecided-one : (rules : RuleSet) (past : List Event) → IsHistory rules past → (s : Session) (id m n : ℕ) (a b : Incoming) → incoming_at m past ≡ Some a → incoming_at n past ≡ Some b
    → is_undecided_of rules s id past a ≡ true → is_undecided_of rules s id past b ≡ true → a ≡ b
undecided-one rules past (records, is) s id =
    subst (λ (xs : List Event). (m n : ℕ) (a b : Incoming) → incoming_at m xs ≡ Some a → incoming_at n xs ≡ Some b
    → is_undecided_of rules s id xs a ≡ true → is_undecided_of rules s id xs b ≡ true → a ≡ b) (sym is) (undecided_one rules records s id)

and_both : (a b : Bool) → a && b ≡ true → (a ≡ true) × (b ≡ true)
and_both true b is = (refl, is)
and_both false b is = absurd cc

pub both : (a b : Bool) → a ≡ true → b ≡ true → a && b ≡ true
both true b first second = second
both false b first second = absurd cc

pub found-passes : {A : Type 0} (test : A → Bool) (xs : List A) (x : A) → find test xs ≡ Some x → test x ≡ true
found-passes test [] x found = absurd cc
found-passes test (y ∷ ys) x found = by (test y) refl (found-passes test ys x) found
  where
    by : (b : Bool) → test y ≡ b → (find test ys ≡ Some x → test x ≡ true) → (if b then Some y else find test ys) ≡ Some x → test x ≡ true
    by true is later found = let same : y ≡ x = cc in ap test (sym same) ∙ is
    by false is later found = later found

find-none : {A : Type 0} (test : A → Bool) (xs : List A) → list_any test xs ≡ false → find test xs ≡ None
find-none test [] off = refl
find-none test (x ∷ xs) off = by (test x) refl off (find-none test xs)
  where
    by : (b : Bool) → test x ≡ b → b || list_any test xs ≡ false → (list_any test xs ≡ false → find test xs ≡ None) → (if b then Some x else find test xs) ≡ None
    by true is off later = absurd cc
    by false is off later = later off

find-none-any : {A : Type 0} (test : A → Bool) (xs : List A) → find test xs ≡ None → list_any test xs ≡ false
find-none-any test [] none = refl
find-none-any test (x ∷ xs) none = by (test x) refl none (find-none-any test xs)
  where
    by : (b : Bool) → test x ≡ b → (if b then Some x else find test xs) ≡ None → (find test xs ≡ None → list_any test xs ≡ false) → b || list_any test xs ≡ false
    by true is none later = absurd cc
    by false is none later = later none

pub find-some : {A : Type 0} (test : A → Bool) (xs : List A) → list_any test xs ≡ true → (x : A) × (find test xs ≡ Some x)
find-some {A = A} test xs is = by (find test xs) refl (find-none-any test xs)
  where
    by : (o : Option A) → find test xs ≡ o → (find test xs ≡ None → list_any test xs ≡ false) → (x : A) × (find test xs ≡ Some x)
    by None none off = let never : true ≡ false = sym is ∙ off none in absurd cc
    by (Some x) some off = (x, some)

-- one of a list that passes
one-of : {A : Type 0} (P : A → Type 0) (test : A → Bool) (xs : List A) → AllByRecursion P xs → list_any test xs ≡ true → (x : A) × P x × (test x ≡ true)
one-of P test [] all is = absurd cc
one-of {A = A} P test (x ∷ xs) all is = by (test x) refl is (one-of P test xs all.1)
  where
    by : (b : Bool) → test x ≡ b → b || list_any test xs ≡ true → (list_any test xs ≡ true → (y : A) × P y × (test y ≡ true)) → (y : A) × P y × (test y ≡ true)
    by true here is later = (x, all.0, here)
    by false here is later = later is

-- the address of an entry is that of its delivery
pub address-at : (rules : RuleSet) (past : List Event) (gone : ℕ → Bool) (kept : ℕ → Option Held) → ((n : ℕ) → kept n ≡ (if gone n then None else held_at rules n past)) → (address : List ℕ) (mark : Held → Bool) (n : ℕ)
    → is_some_and (kept n) (λ x. is_for address x && mark x) ≡ is_some_and (kept n) (λ x. bytes_eq (address_of x.delivery past) address && mark x)
address-at rules past gone kept were address mark n = by (kept n) refl
  where
    by : (o : Option Held) → kept n ≡ o → is_some_and o (λ x. is_for address x && mark x) ≡ is_some_and o (λ x. bytes_eq (address_of x.delivery past) address && mark x)
    by None is = refl
    by (Some x) is = ap (λ a. bytes_eq a address && mark x) (sym (held-address rules n past x (held-of rules n past x (kept-law (gone n) (held_at rules n past) x (sym (were n) ∙ is)).1)))

-- the tests of one group: of a delivery's key, of what the law says of it, and of what its entry says; it is said of none
-- that is gone
module _ (rules : RuleSet) (past : List Event) (are : AreJudged rules past) (gone : ℕ → Bool) (kept : ℕ → Option Held) (were : (n : ℕ) → kept n ≡ (if gone n then None else held_at rules n past))
    (key law : Incoming → Bool) (mark : Held → Bool) (same : (d : Incoming) → law d ≡ mark (held rules past d)) (holds : (d : Incoming) → law d ≡ true → is_held rules past d ≡ true)
    (there : (d : Incoming) → incoming_at d.number past ≡ Some d → law d ≡ true → gone d.number ≡ false)
    (member : ℕ → Bool) (grouped : (n : ℕ) → member n ≡ is_some_and (kept n) (λ x. key x.delivery && mark x)) where
  abbrev test : Incoming → Bool
  test d = key d && law d

  pub member-of : (d : Incoming) → incoming_at d.number past ≡ Some d → test d ≡ true → member d.number ≡ true
  member-of d at is =
      let parts = and_both (key d) (law d) is in
      let entry : kept d.number ≡ Some (held rules past d) =
      were d.number
      ∙ (kept-there (gone d.number) (held_at rules d.number past) (there d at parts.1)
      ∙ (ap (λ o. option_map (held rules past) (where_passes (is_held rules past) o)) at
      ∙ ap (λ b. option_map (held rules past) (if b then Some d else None)) (holds d parts.1))) in
      grouped d.number ∙ (ap (λ o. is_some_and o (λ x. key x.delivery && mark x)) entry ∙ both (key d) (mark (held rules past d)) parts.0 (sym (same d) ∙ parts.1))

  pub record IsMember (n : ℕ) : Type 0 where
    pub delivery : Incoming
    pub at : incoming_at n past ≡ Some delivery
    pub passes : test delivery ≡ true
    pub entry : kept n ≡ Some (held rules past delivery)

  pub of-member : (n : ℕ) → member n ≡ true → IsMember n
  of-member n is = by (kept n) refl (sym (grouped n) ∙ is)
    where
      by : (o : Option Held) → kept n ≡ o → is_some_and o (λ x. key x.delivery && mark x) ≡ true → IsMember n
      by None none is = absurd cc
      by (Some x) some is =
          let of = held-of rules n past x (kept-law (gone n) (held_at rules n past) x (sym (were n) ∙ some)).1 in
          let parts = and_both (key x.delivery) (mark x) is in record {
            delivery = x.delivery;
            at = of.at;
            passes = both (key x.delivery) (law x.delivery) parts.0 (same x.delivery ∙ (ap mark of.is ∙ parts.1));
            entry = some ∙ ap Some (sym of.is);
          }

  none-any : ((n : ℕ) → member n ≡ false) → list_any test (incoming_deliveries past) ≡ false
  none-any none = by (list_any test (incoming_deliveries past)) refl
    where
      by : (b : Bool) → list_any test (incoming_deliveries past) ≡ b → list_any test (incoming_deliveries past) ≡ false
      by false is = is
      by true is =
          let one = one-of (IsKept past) test (incoming_deliveries past) (each_delivery (IsKept past) past (judged-kept rules past are).each) is in
          let never : true ≡ false = sym (member-of one.0 one.1.at one.2) ∙ none one.0.number in
          absurd cc

  any-none : list_any test (incoming_deliveries past) ≡ false → (n : ℕ) → member n ≡ false
  any-none off n = by (member n) refl
    where
      by : (b : Bool) → member n ≡ b → member n ≡ false
      by false is = is
      by true is =
          let one = of-member n is in
          let never : true ≡ false = sym (found_any test (λ d. d.number == n) (incoming_deliveries past) one.delivery one.at one.passes) ∙ off in
          absurd cc

  -- whether a group has any
  pub any-is : (empty : Bool) → (IsTrue empty ↔ ((n : ℕ) → member n ≡ false)) → not empty ≡ list_any test (incoming_deliveries past)
  any-is true says = sym (none-any (says.0 refl))
  any-is false says = by (list_any test (incoming_deliveries past)) refl
    where
      by : (b : Bool) → list_any test (incoming_deliveries past) ≡ b → true ≡ list_any test (incoming_deliveries past)
      by true is = sym is
      by false is = let never : false ≡ true = says.1 (any-none is) in absurd cc

  -- whether a number is that of one that passes
  pub member-at : (n : ℕ) → member n ≡ is_some_and (incoming_at n past) test
  member-at n = by (member n) refl (is_some_and (incoming_at n past) test) refl
    where
      by : (b : Bool) → member n ≡ b → (c : Bool) → is_some_and (incoming_at n past) test ≡ c → member n ≡ is_some_and (incoming_at n past) test
      by true is c other = let one = of-member n is in is ∙ sym (ap (λ o. is_some_and o test) one.at ∙ one.passes)
      by false is false other = is ∙ sym other
      by false is true other =
          let one = some_passes test (incoming_at n past) other in
          let number : one.0.number ≡ n = eqb-true one.0.number n (found-passes (λ (d : Incoming). d.number == n) (incoming_deliveries past) one.0 one.1) in
          let never : true ≡ false = sym (member-of one.0 (ap (λ m. incoming_at m past) number ∙ one.1) one.2) ∙ (ap member number ∙ is) in
          absurd cc

  -- how many a group has
  pub count-is : (ns : List ℕ) → IsDistinct nat_eq ns → ((n : ℕ) → member n ≡ list_any (nat_eq n) ns) → length ns ≡ count_by test (incoming_deliveries past)
  count-is ns each same = length-counted rules past are test ns each (λ n. sym (same n) ∙ member-at n)

  none-found : (ns : List ℕ) → ((n : ℕ) → member n ≡ list_any (nat_eq n) ns) → None ≡ slice_get ns 0 → find test (incoming_deliveries past) ≡ None
  none-found [] same none = find-none test (incoming_deliveries past) (none-any (λ n. same n))
  none-found (n ∷ ns) same none = absurd cc

  -- the first of a group is the one that passes, where no two do
  pub first-is : (ns : List ℕ) → ((n : ℕ) → member n ≡ list_any (nat_eq n) ns) → ((m n : ℕ) (a b : Incoming) → incoming_at m past ≡ Some a → incoming_at n past ≡ Some b → test a ≡ true → test b ≡ true → a ≡ b)
      → (o : Option ℕ) → o ≡ slice_get ns 0 → option_and_then (λ n. option_map (λ x. x.delivery) (kept n)) o ≡ find test (incoming_deliveries past)
  first-is ns same alone None first = sym (none-found ns same first)
  first-is [] same alone (Some n) first = absurd cc
  first-is (m ∷ ns) same alone (Some n) first =
      let number : n ≡ m = cc in
      let here : member n ≡ true = same n ∙ (ap (λ k. nat_eq n k || list_any (nat_eq n) ns) (sym number) ∙ ap (λ b. b || list_any (nat_eq n) ns) (eq-eqb n n refl)) in
      let one = of-member n here in
      let any = found_any test (λ d. d.number == n) (incoming_deliveries past) one.delivery one.at one.passes in
      let all = each_delivery (IsKept past) past (judged-kept rules past are).each in
      let found = find-some test (incoming_deliveries past) any in
      let other : IsKept past found.0 = found_holds (IsKept past) test (incoming_deliveries past) found.0 all found.1 in
      ap (option_map (λ x. x.delivery)) one.entry
      ∙ (ap Some (alone n found.0.number one.delivery found.0 one.at other.at one.passes (found-passes test (incoming_deliveries past) found.0 found.1)) ∙ sym found.1)
