-- The deliveries that an event may touch are moved one after the other, and then the table has what the law says behind it.
use Rattle.std.proofs.Common.{◌≡◌, refl, sym, ap, ◌∙◌, ◌⊎◌, inl, inr, ℕ, Bool, true, false, ◌&&◌, ◌<◌, not, List, [], ◌∷◌, ◌++◌, length, arith, Option, Some, None, IfSome, cond, nat_eq, option_map, if◌then◌else◌, ◌==◌, eqb-true, eq-eqb, ◌||◌}
use Rattle.std.specs.List.{list_any}
use Rattle.std.proofs.lemmas.List.Folds.{list_any-append}
use Rattle.capture_form.specs.Rules.{RuleSet}
use Rattle.trace_events.specs.Words.{is_some_and, or_else}
use Rattle.trace_events.specs.Event.{Event, Outgoing}
use Rattle.trace_events.specs.Outgoing.{outgoing_begun}
use Rattle.trace_events.proofs.Judged.{AreJudged}
use Rattle.trace_events.proofs.Links.{passing}
use Rattle.state_tables.specs.LetGo.{names_let_go}
use Rattle.state_outgoing.specs.LetGo.{where_kept, kept_at}
use Rattle.state_outgoing.specs.Sent.{Sent, sent_begun, sent_next, sent_behind, begins_number, unsent}
use Rattle.state_outgoing.specs.SentTouched.{touches}
use Rattle.state_outgoing.proofs.SentFollowed.{unbegun}
use Rattle.state_outgoing.proofs.SentSparse.{moved-sent}

-- ---- one after the other

module _ (e : Event) where
  abbrev pub on : Option Sent → Option Sent
  on o = option_map (sent_next e) o

  -- first: before the event, now: with those moved that are not left; all: those to move, rest: those left
  module _ (first now next : ℕ → Option Sent) (all rest later : ℕ → Bool) (k : ℕ) (within : (n : ℕ) → rest n ≡ true → all n ≡ true)
      (was : (n : ℕ) → now n ≡ (if all n && not (rest n) then on (first n) else first n)) (popped : (n : ℕ) → later n ≡ cond (nat_eq k n) false (rest n)) (left : rest k ≡ true)
      (moved : (n : ℕ) → next n ≡ (if k == n then on (now n) else now n)) where
    pub still-within : (n : ℕ) → later n ≡ true → all n ≡ true
    still-within n is = by (nat_eq k n) (sym (popped n) ∙ is)
      where
        by : (b : Bool) → cond b false (rest n) ≡ true → all n ≡ true
        by true is = absurd cc
        by false is = within n is

    pub here : (n : ℕ) → k ≡ n → on (now n) ≡ on (first n)
    here n same = ap on (was n ∙ (ap (λ b. if all n && not b then on (first n) else first n) (sym (ap rest same) ∙ left) ∙ unmoved (all n)))
      where
        unmoved : (b : Bool) → (if b && not true then on (first n) else first n) ≡ first n
        unmoved true = refl
        unmoved false = refl

    pub one-more : (n : ℕ) → next n ≡ (if all n && not (later n) then on (first n) else first n)
    one-more n = moved n ∙ by (k == n) refl
      where
        by : (b : Bool) → (k == n) ≡ b → (if b then on (now n) else now n) ≡ (if all n && not (later n) then on (first n) else first n)
        by true same =
            let one = eqb-true k n same in
            let gone : later n ≡ false = popped n ∙ ap (λ b. cond b false (rest n)) same in
            here n one ∙ sym (ap (λ b. if all n && not b then on (first n) else first n) gone ∙ ap (λ b. if b && true then on (first n) else first n) (within n (sym (ap rest one) ∙ left)))
        by false other = was n ∙ ap (λ b. if all n && not b then on (first n) else first n) (sym (popped n ∙ ap (λ b. cond b false (rest n)) other))

  -- before the first and behind the last
  module _ (o : Option Sent) where
    pub nothing-moved : (b : Bool) → o ≡ (if b && not b then on o else o)
    nothing-moved true = refl
    nothing-moved false = refl

    pub all-moved : (b left : Bool) (now : Option Sent) → left ≡ false → now ≡ (if b && not left then on o else o) → now ≡ (if b then on o else o)
    all-moved true left now none was = was ∙ ap (λ d. if not d then on o else o) none
    all-moved false left now none was = was

-- a number that was popped was there, and behind the last none is
pub popped-in : (keys left : List ℕ) (k : ℕ) → keys ≡ left ++ k ∷ [] → list_any (nat_eq k) keys ≡ true
popped-in keys left k is = ap (list_any (nat_eq k)) is ∙ (list_any-append (nat_eq k) left (k ∷ []) ∙ (ap (λ b. list_any (nat_eq k) left || (b || false)) (eq-eqb k k refl) ∙ last (list_any (nat_eq k) left)))
  where
    last : (b : Bool) → b || true ≡ true
    last true = refl
    last false = refl

pub none-left : (keys : List ℕ) (n : ℕ) → (0 < length keys → false ≡ true) → list_any (nat_eq n) keys ≡ false
none-left [] n empty = refl
none-left (k ∷ keys) n empty = let never : false ≡ true = empty (omega arith) in absurd cc

-- what is said by those that are gone and by those that are left is said by all
or_false : (a : Bool) → a || false ≡ a
or_false true = refl
or_false false = refl

shuffled : (before said rest : Bool) → (before || said) || rest ≡ before || (rest || (said || false))
shuffled true said rest = refl
shuffled false true true = refl
shuffled false true false = refl
shuffled false false true = refl
shuffled false false false = refl

pub said-one : (f : ℕ → Bool) (keys left : List ℕ) (k : ℕ) → keys ≡ left ++ k ∷ [] → (before now said all : Bool) → before || list_any f keys ≡ all → now ≡ before || said → said ≡ f k
    → now || list_any f left ≡ all
said-one f keys left k is before now said all was more of =
    ap (λ b. b || list_any f left) more
    ∙ (shuffled before said (list_any f left)
    ∙ (ap (λ b. before || (list_any f left || (b || false))) of ∙ (sym (ap (λ b. before || b) (ap (list_any f) is ∙ list_any-append f left (k ∷ []))) ∙ was)))

pub said-all : (f : ℕ → Bool) (keys : List ℕ) → (0 < length keys → false ≡ true) → (now all : Bool) → now || list_any f keys ≡ all → now ≡ all
said-all f [] empty now all was = sym (or_false now) ∙ was
said-all f (k ∷ keys) empty now all was = let never : false ≡ true = empty (omega arith) in absurd cc

-- ---- behind the event

or_else-none : (o : Option Sent) → or_else o None ≡ o
or_else-none None = refl
or_else-none (Some x) = refl

-- what an event begins has its number
pub begun-own : (e : Event) (x : Sent) → sent_begun e ≡ Some x → x.delivery.number ≡ e.number
begun-own e x is = by (outgoing_begun e) refl is
  where
    same_some : (a b : Sent) → Some a ≡ Some b → a ≡ b
    same_some a b is = cc

    by : (o : Option Outgoing) → outgoing_begun e ≡ o → option_map (λ j. sent_next e (unsent j)) o ≡ Some x → x.delivery.number ≡ e.number
    by None none is = absurd cc
    by (Some j) begun is =
        let one = ap (λ (y : Sent). y.delivery) (same_some (sent_next e (unsent j)) x is) in
        sym (ap (λ (k : Outgoing). k.number) one) ∙ eqb-true j.number e.number (passing (λ (k : Outgoing). k.number == e.number) e.outgoing j begun).1

module _ (rules : RuleSet) (e : Event) (past : List Event) (are : AreJudged rules (e ∷ past)) (gone : List (ℕ × Unit {0}))
    (none_begins : is_some_and (outgoing_begun e) (λ j. names_let_go gone j.note) ≡ false) (old mid new : ℕ → Option Sent) (all : ℕ → Bool)
    (were : (n : ℕ) → old n ≡ kept_at gone n past) (found : (n : ℕ) (x : Sent) → old n ≡ Some x → all n ≡ false → touches e x ≡ false)
    (moved : (n : ℕ) → mid n ≡ (if all n then on e (old n) else old n)) (put : (n : ℕ) → new n ≡ (if e.number == n then or_else (sent_begun e) (mid n) else mid n)) where
  -- before the event nothing has its number
  pub mid-none : mid e.number ≡ None
  mid-none = moved e.number ∙ (ap (λ o. if all e.number then on e o else o) (were e.number ∙ ap (where_kept gone) (unbegun rules e past are)) ∙ both (all e.number))
    where
      both : (b : Bool) → (if b then on e None else None) ≡ None
      both true = refl
      both false = refl

  begins-is : (n : ℕ) (o : Option Outgoing) → outgoing_begun e ≡ o → begins_number e n ≡ is_some_and o (λ j. e.number == n)
  begins-is n None is = ap (λ p. is_some_and p (λ (j : Outgoing). j.number == n)) is
  begins-is n (Some j) is =
      ap (λ p. is_some_and p (λ (k : Outgoing). k.number == n)) is
      ∙ ap (λ m. m == n) (eqb-true j.number e.number (passing (λ (k : Outgoing). k.number == e.number) e.outgoing j is).1)

  at-number : (n : ℕ) → (e.number == n) ≡ true → new n ≡ sent_behind e n (old n)
  at-number n is =
      let one = eqb-true e.number n is in
      let none : mid n ≡ None = sym (ap mid one) ∙ mid-none in
      let empty : old n ≡ None = were n ∙ (sym (ap (λ m. kept_at gone m past) one) ∙ ap (where_kept gone) (unbegun rules e past are)) in
      put n ∙ (ap (λ b. if b then or_else (sent_begun e) (mid n) else mid n) is ∙ (ap (or_else (sent_begun e)) none ∙ (or_else-none (sent_begun e) ∙ by (outgoing_begun e) refl empty)))
    where
      by : (o : Option Outgoing) → outgoing_begun e ≡ o → old n ≡ None → sent_begun e ≡ sent_behind e n (old n)
      by None none empty =
          ap (λ o. option_map (λ j. sent_next e (unsent j)) o) none
          ∙ sym (ap (λ b. if b then sent_begun e else on e (old n)) (begins-is n None none) ∙ ap (on e) empty)
      by (Some j) some empty = sym (ap (λ b. if b then sent_begun e else on e (old n)) (begins-is n (Some j) some ∙ is))

  elsewhere : (n : ℕ) → (e.number == n) ≡ false → begins_number e n ≡ false
  elsewhere n off = by (outgoing_begun e) refl
    where
      by : (o : Option Outgoing) → outgoing_begun e ≡ o → begins_number e n ≡ false
      by None none = begins-is n None none
      by (Some j) some = begins-is n (Some j) some ∙ off

  apart : (n : ℕ) → all n ≡ false → (o : Option Sent) → old n ≡ o → IfSome o (λ (x : Sent). touches e x ≡ false)
  apart n off None is = tt
  apart n off (Some x) is = found n x is off

  other : (n : ℕ) → (e.number == n) ≡ false → new n ≡ mid n
  other n off = put n ∙ ap (λ b. if b then or_else (sent_begun e) (mid n) else mid n) off

  abbrev Moves : ℕ → Type 0
  Moves n = (new n ≡ sent_behind e n (old n)) ⊎ (((begins_number e n ≡ false) × IfSome (old n) (λ (x : Sent). touches e x ≡ false)) × (new n ≡ old n))

  moves : (n : ℕ) → Moves n
  moves n = at (e.number == n) refl
    where
      off-at : (e.number == n) ≡ false → (b : Bool) → all n ≡ b → Moves n
      off-at off true is =
          inl (other n off ∙ (moved n ∙ (ap (λ b. if b then on e (old n) else old n) is ∙ sym (ap (λ b. if b then sent_begun e else on e (old n)) (elsewhere n off)))))
      off-at off false is = inr ((elsewhere n off, apart n is (old n) refl), other n off ∙ (moved n ∙ ap (λ b. if b then on e (old n) else old n) is))

      at : (b : Bool) → (e.number == n) ≡ b → Moves n
      at true is = inl (at-number n is)
      at false off = off-at off (all n) refl

  pub taken : (n : ℕ) → new n ≡ kept_at gone n (e ∷ past)
  taken = moved-sent rules e past are gone none_begins old new were moves
