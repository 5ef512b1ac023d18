-- The deliveries that an event may touch are moved one after the other, and then the table has what the law keeps behind it.
use Rattle.std.proofs.Common.{◌≡◌, refl, sym, ap, ◌∙◌, ◌⊎◌, inl, inr, ℕ, Bool, true, false, ◌&&◌, ◌||◌, ◌<◌, not, List, [], ◌∷◌, ◌++◌, length, arith, Option, Some, None, IfSome, cond, nat_eq, option_and_then, if◌then◌else◌, ◌==◌, eqb-true, eq-eqb, ne_eqb}
use Rattle.std.specs.List.{list_any}
use Rattle.std.proofs.lemmas.List.Folds.{list_any-append}
use Rattle.capture_form.specs.Rules.{RuleSet}
use Rattle.trace_events.specs.Words.{is_some_and, or_else}
use Rattle.trace_events.specs.Event.{Event, Incoming}
use Rattle.trace_events.specs.Incoming.{incoming_begun}
use Rattle.trace_events.specs.Address.{has_consumer}
use Rattle.trace_events.proofs.Judged.{AreJudged, judged-number}
use Rattle.trace_events.proofs.Links.{passing}
use Rattle.trace_events.specs.Clauses.{first_broken}
use Rattle.state_tables.specs.Addressed.{IsAddressed}
use Rattle.state_incoming.specs.Held.{Held, held_at, address_behind, held_begun, is_begun_served, held_next, held_on, held_behind, begins_number, moved, stays, unbegun}
use Rattle.state_incoming.specs.HeldTouched.{is_touched}
use Rattle.state_incoming.proofs.HeldKnown.{unheld}
use Rattle.state_incoming.proofs.HeldSparse.{moved-held}
use Rattle.state_incoming.proofs.OverKnown.{kept-none}

-- ---- one after the other

module _ (rules : RuleSet) (e : Event) (to : List ℕ) (has : List ℕ → Bool) where
  abbrev pub on : Option Held → Option Held
  on o = option_and_then (held_on rules e to has) o

  -- its address behind the event has a consumer
  abbrev pub has_one : Option Held → Bool
  has_one o = is_some_and o (λ x. has (address_behind e to x))

  served : (o : Option Held) → option_and_then (held_next rules e to (has_one o)) o ≡ on o
  served None = refl
  served (Some x) = refl

  -- first: before the event, now: with those moved that are not left; all: those to move, rest: those left
  module _ (first now next : ℕ → Option Held) (all rest later : ℕ → Bool) (k : ℕ) (within : (n : ℕ) → rest n ≡ true → all n ≡ true)
      (was : (n : ℕ) → now n ≡ (if all n && not (rest n) then on (first n) else first n)) (popped : (n : ℕ) → later n ≡ cond (nat_eq k n) false (rest n)) (left : rest k ≡ true)
      (moved : (n : ℕ) → next n ≡ (if k == n then option_and_then (held_next rules e to (has_one (now k))) (now n) else now n)) where
    pub still-within : (n : ℕ) → later n ≡ true → all n ≡ true
    still-within n is = by (nat_eq k n) (sym (popped n) ∙ is)
      where
        by : (b : Bool) → cond b false (rest n) ≡ true → all n ≡ true
        by true is = absurd cc
        by false is = within n is

    here : (n : ℕ) → k ≡ n → option_and_then (held_next rules e to (has_one (now k))) (now n) ≡ on (first n)
    here n same =
        ap (λ (m : ℕ). option_and_then (held_next rules e to (has_one (now m))) (now n)) same
        ∙ (served (now n) ∙ ap on (was n ∙ (ap (λ b. if all n && not b then on (first n) else first n) (sym (ap rest same) ∙ left) ∙ unmoved (all n))))
      where
        unmoved : (b : Bool) → (if b && not true then on (first n) else first n) ≡ first n
        unmoved true = refl
        unmoved false = refl

    pub one-more : (n : ℕ) → next n ≡ (if all n && not (later n) then on (first n) else first n)
    one-more n = moved n ∙ by (k == n) refl
      where
        by : (b : Bool) → (k == n) ≡ b → (if b then option_and_then (held_next rules e to (has_one (now k))) (now n) else now n)
            ≡ (if all n && not (later n) then on (first n) else first n)
        by true same =
            let one = eqb-true k n same in
            let gone : later n ≡ false = popped n ∙ ap (λ b. cond b false (rest n)) same in
            here n one ∙ sym (ap (λ b. if all n && not b then on (first n) else first n) gone ∙ ap (λ b. if b && true then on (first n) else first n) (within n (sym (ap rest one) ∙ left)))
        by false other = was n ∙ ap (λ b. if all n && not b then on (first n) else first n) (sym (popped n ∙ ap (λ b. cond b false (rest n)) other))

-- ---- behind the event

or_else-none : (o : Option Held) → or_else o None ≡ o
or_else-none None = refl
or_else-none (Some x) = refl

module _ (rules : RuleSet) (e : Event) (past : List Event) (are : AreJudged rules (e ∷ past)) (lawful : first_broken rules (e ∷ past) ≡ None)
    (to : List ℕ) (addressed : IsAddressed e past to) (has : List ℕ → Bool) (same : (address : List ℕ) → has address ≡ has_consumer address (e ∷ past)) where
  abbrev law : List ℕ → Bool
  law address = has_consumer address (e ∷ past)

  abbrev begun : Option Held
  begun = held_begun rules e to (is_begun_served e to has)

  begun-same : (o : Option Incoming) → is_some_and o (λ d. has (address_behind e to (unbegun d))) ≡ is_some_and o (λ d. law (address_behind e to (unbegun d)))
  begun-same None = refl
  begun-same (Some d) = same (address_behind e to (unbegun d))

  on-same : (o : Option Held) → on rules e to has o ≡ on rules e to law o
  on-same None = refl
  on-same (Some x) = ap (λ b. held_next rules e to b x) (same (address_behind e to x))

  behind-same : (n : ℕ) (o : Option Held) → held_behind rules e to has n o ≡ held_behind rules e to law n o
  behind-same n o =
      ap (λ b. if begins_number e n then held_begun rules e to b else on rules e to has o) (begun-same (incoming_begun e))
      ∙ ap (λ p. if begins_number e n then held_begun rules e to (is_begun_served e to law) else p) (on-same o)

  -- what is gone began before the event
  module _ (old mid new : ℕ → Option Held) (all gone : ℕ → Bool) (were : (n : ℕ) → old n ≡ (if gone n then None else held_at rules n past)) (before : (n : ℕ) → gone n ≡ true → n < length past)
      (found : (n : ℕ) (x : Held) → old n ≡ Some x → all n ≡ false → is_touched e (has (address_behind e to x)) x ≡ false)
      (moved : (n : ℕ) → mid n ≡ (if all n then on rules e to has (old n) else old n))
      (put : (n : ℕ) → new n ≡ (if e.number == n then or_else begun (mid n) else mid n)) where
    -- before the event nothing has its number
    pub mid-none : mid e.number ≡ None
    mid-none =
        moved e.number
        ∙ (ap (λ o. if all e.number then on rules e to has o else o) (were e.number ∙ kept-none (gone e.number) (held_at rules e.number past) (unheld rules e past are)) ∙ both (all e.number))
      where
        both : (b : Bool) → (if b then on rules e to has None else None) ≡ None
        both true = refl
        both false = refl

    begins-is : (n : ℕ) (o : Option Incoming) → incoming_begun e ≡ o → begins_number e n ≡ is_some_and o (λ d. e.number == n)
    begins-is n None is = ap (λ p. is_some_and p (λ (d : Incoming). d.number == n)) is
    begins-is n (Some d) is =
        ap (λ p. is_some_and p (λ (d : Incoming). d.number == n)) is
        ∙ ap (λ m. m == n) (eqb-true d.number e.number (passing (λ (x : Incoming). x.number == e.number) e.incoming d is).1)

    at-number : (n : ℕ) → (e.number == n) ≡ true → new n ≡ held_behind rules e to has n (old n)
    at-number n is =
        let one = eqb-true e.number n is in
        let none : mid n ≡ None = sym (ap mid one) ∙ mid-none in
        let empty : old n ≡ None = were n ∙ kept-none (gone n) (held_at rules n past) (sym (ap (λ m. held_at rules m past) one) ∙ unheld rules e past are) in
        put n ∙ (ap (λ b. if b then or_else begun (mid n) else mid n) is ∙ (ap (or_else begun) none ∙ (or_else-none begun ∙ by (incoming_begun e) refl empty)))
      where
        by : (o : Option Incoming) → incoming_begun e ≡ o → old n ≡ None → begun ≡ held_behind rules e to has n (old n)
        by None none empty =
            ap (λ o. option_and_then (λ d. held_next rules e to (is_begun_served e to has) (unbegun d)) o) none
            ∙ sym (ap (λ b. if b then begun else on rules e to has (old n)) (begins-is n None none) ∙ ap (on rules e to has) empty)
        by (Some d) some empty = sym (ap (λ b. if b then begun else on rules e to has (old n)) (begins-is n (Some d) some ∙ is))

    elsewhere : (n : ℕ) → (e.number == n) ≡ false → begins_number e n ≡ false
    elsewhere n off = by (incoming_begun e) refl
      where
        by : (o : Option Incoming) → incoming_begun e ≡ o → begins_number e n ≡ false
        by None none = begins-is n None none
        by (Some d) some = begins-is n (Some d) some ∙ off

    apart : (n : ℕ) → all n ≡ false → (o : Option Held) → old n ≡ o → IfSome o (λ (x : Held). is_touched e (law (address_behind e to x)) x ≡ false)
    apart n off None is = tt
    apart n off (Some x) is = sym (ap (λ b. is_touched e b x) (same (address_behind e to x))) ∙ found n x is off

    other : (n : ℕ) → (e.number == n) ≡ false → new n ≡ mid n
    other n off = put n ∙ ap (λ b. if b then or_else begun (mid n) else mid n) off

    abbrev Moves : ℕ → Type 0
    Moves n = (new n ≡ held_behind rules e to law n (old n)) ⊎ (((begins_number e n ≡ false) × IfSome (old n) (λ (x : Held). is_touched e (law (address_behind e to x)) x ≡ false)) × (new n ≡ old n))

    moves : (n : ℕ) → Moves n
    moves n = at (e.number == n) refl
      where
        off-at : (e.number == n) ≡ false → (b : Bool) → all n ≡ b → Moves n
        off-at off true is =
            inl (other n off ∙ (moved n ∙ (ap (λ b. if b then on rules e to has (old n) else old n) is
            ∙ (sym (ap (λ b. if b then begun else on rules e to has (old n)) (elsewhere n off)) ∙ behind-same n (old n)))))
        off-at off false is = inr ((elsewhere n off, apart n is (old n) refl), other n off ∙ (moved n ∙ ap (λ b. if b then on rules e to has (old n) else old n) is))

        at : (b : Bool) → (e.number == n) ≡ b → Moves n
        at true is = inl (at-number n is ∙ behind-same n (old n))
        at false off = off-at off (all n) refl

    -- what is gone stays so
    gone-stays : (n : ℕ) → gone n ≡ true → new n ≡ None
    gone-stays n went =
        let lt = before n went in
        let number = judged-number rules e past are in
        let off : (e.number == n) ≡ false = ne_eqb e.number n (λ same. omega (arith, same, lt, number)) in
        let empty : old n ≡ None = were n ∙ ap (λ b. if b then None else held_at rules n past) went in
        other n off ∙ (moved n ∙ (ap (λ o. if all n then on rules e to has o else o) empty ∙ both (all n)))
      where
        both : (b : Bool) → (if b then on rules e to has None else None) ≡ None
        both true = refl
        both false = refl

    pub taken : (n : ℕ) → new n ≡ (if gone n then None else held_at rules n (e ∷ past))
    taken n = by (gone n) refl
      where
        by : (b : Bool) → gone n ≡ b → new n ≡ (if b then None else held_at rules n (e ∷ past))
        by true went = gone-stays n went
        by false there = moved-held rules e past are lawful to addressed n (old n) (new n) (were n ∙ ap (λ b. if b then None else held_at rules n past) there) (moves n)

-- ---- before the first and behind the last

module _ (rules : RuleSet) (e : Event) (to : List ℕ) (has : List ℕ → Bool) (o : Option Held) where
  pub nothing-moved : (b : Bool) → o ≡ (if b && not b then on rules e to has o else o)
  nothing-moved true = refl
  nothing-moved false = refl

  pub all-moved : (b left : Bool) (now : Option Held) → left ≡ false → now ≡ (if b && not left then on rules e to has o else o) → now ≡ (if b then on rules e to has o else o)
  all-moved true left now none was = was ∙ ap (λ d. if not d then on rules e to has o else o) none
  all-moved false left now none was = was

-- a number that was popped was there, and behind the last none is
pub popped-in : (keys left : List ℕ) (k : ℕ) → keys ≡ left ++ k ∷ [] → list_any (nat_eq k) keys ≡ true
popped-in keys left k is = ap (list_any (nat_eq k)) is ∙ (list_any-append (nat_eq k) left (k ∷ []) ∙ (ap (λ b. list_any (nat_eq k) left || (b || false)) (eq-eqb k k refl) ∙ last (list_any (nat_eq k) left)))
  where
    last : (b : Bool) → b || true ≡ true
    last true = refl
    last false = refl

pub none-left : (keys : List ℕ) (n : ℕ) → (0 < length keys → false ≡ true) → list_any (nat_eq n) keys ≡ false
none-left [] n empty = refl
none-left (k ∷ keys) n empty = let never : false ≡ true = empty (omega arith) in absurd cc

-- what an event begins has its number
pub begun-number : (rules : RuleSet) (e : Event) (to : List ℕ) (has : Bool) (x : Held) → held_begun rules e to has ≡ Some x → x.delivery.number ≡ e.number
begun-number rules e to has x is = by (incoming_begun e) refl is
  where
    same_some : (a b : Held) → Some a ≡ Some b → a ≡ b
    same_some a b is = cc

    kept : (d : Incoming) (b : Bool) → (if b then Some (moved rules e to has (unbegun d)) else None) ≡ Some x → d ≡ x.delivery
    kept d true is = ap (λ (y : Held). y.delivery) (same_some (moved rules e to has (unbegun d)) x is)
    kept d false is = absurd cc

    by : (o : Option Incoming) → incoming_begun e ≡ o → option_and_then (λ d. held_next rules e to has (unbegun d)) o ≡ Some x → x.delivery.number ≡ e.number
    by None none is = absurd cc
    by (Some d) begun is =
        let one = kept d (stays e (moved rules e to has (unbegun d))) is in
        sym (ap (λ (y : Incoming). y.number) one) ∙ eqb-true d.number e.number (passing (λ (y : Incoming). y.number == e.number) e.incoming d begun).1
