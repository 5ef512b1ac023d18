-- Numbers that are taken out of a set, the last of it first, and put behind those of a list, each once.
use Rattle.std.proofs.Common.{◌≡◌, refl, sym, ap, ◌∙◌, ℕ, Bool, true, false, ◌||◌, ◌<◌, List, [], ◌∷◌, ◌++◌, length, cond, nat_eq, arith, eq-eqb}
use Rattle.std.specs.List.{AllByRecursion, IsDistinct}
use Rattle.std.proofs.lemmas.List.Folds.{list_any-append}
use Rattle.number_groups.specs.Numbers.{is_among}
use Rattle.trace_events.proofs.LinkNumbers.{same-sym}

-- of the whole these are left, and those in the list, each once; a number that is left is not there
pub record AreMoved (whole left list : List ℕ) : Type 0 where
  pub all : (n : ℕ) → is_among list n || is_among left n ≡ is_among whole n
  pub distinct : IsDistinct nat_eq list
  pub apart : (n : ℕ) → is_among left n ≡ true → is_among list n ≡ false

distinct-none : IsDistinct nat_eq []
unfolding IsDistinct
distinct-none = tt

pub none-moved : (whole : List ℕ) → AreMoved whole whole []
none-moved whole = record { all = λ n. refl; distinct = distinct-none; apart = λ n is. refl }

or_false : (b : Bool) → b ≡ b || false
or_false true = refl
or_false false = refl

or_true : (b : Bool) → b || true ≡ true
or_true true = refl
or_true false = refl

-- where none is left all are in the list
pub all-moved : (whole left list : List ℕ) → AreMoved whole left list → (0 < length left → false ≡ true) → (n : ℕ) → is_among list n ≡ is_among whole n
all-moved whole [] list moved empty n = or_false (is_among list n) ∙ moved.all n
all-moved whole (m ∷ left) list moved empty n = let never : false ≡ true = empty (omega arith) in absurd cc

-- ---- one more is put behind them

all-behind : (m : ℕ) (ns : List ℕ) (k : ℕ) → AllByRecursion (λ n. nat_eq m n ≡ false) ns → nat_eq m k ≡ false → AllByRecursion (λ n. nat_eq m n ≡ false) (ns ++ k ∷ [])
all-behind m [] k others other = (other, tt)
all-behind m (n ∷ ns) k others other = (others.0, all-behind m ns k others.1 other)

neither : (a b : Bool) → a || b ≡ false → (a ≡ false) × (b ≡ false)
neither true b is = absurd cc
neither false b is = (refl, is)

distinct-behind : (ns : List ℕ) (k : ℕ) → is_among ns k ≡ false → IsDistinct nat_eq ns → IsDistinct nat_eq (ns ++ k ∷ [])
unfolding IsDistinct
distinct-behind [] k none each = (tt, tt)
distinct-behind (n ∷ ns) k none each =
    let apart = neither (nat_eq k n) (is_among ns k) none in
    (all-behind n ns k each.0 (same-sym n k ∙ apart.0), distinct-behind ns k apart.1 each.1)

shuffled : (list own left : Bool) → (list || (own || false)) || left ≡ list || (left || (own || false))
shuffled true own left = refl
shuffled false true true = refl
shuffled false true false = refl
shuffled false false true = refl
shuffled false false false = refl

-- same: it is the one that is taken out; was: it was there before
still-apart : (same was list : Bool) → cond same false was ≡ true → (was ≡ true → list ≡ false) → list || (same || false) ≡ false
still-apart true was list is apart = absurd cc
still-apart false was list is apart = sym (or_false list) ∙ apart is

last-among : (later : List ℕ) (k : ℕ) → is_among (later ++ k ∷ []) k ≡ true
last-among later k =
    list_any-append (nat_eq k) later (k ∷ []) ∙ (ap (λ b. is_among later k || (b || false)) (eq-eqb k k refl) ∙ or_true (is_among later k))

pub moved-next : (whole left later list : List ℕ) (k : ℕ) → AreMoved whole left list → left ≡ later ++ k ∷ [] → ((n : ℕ) → is_among later n ≡ cond (nat_eq k n) false (is_among left n))
    → AreMoved whole later (list ++ k ∷ [])
moved-next whole left later list k moved was rest = record {
  all = λ n.
      ap (λ b. b || is_among later n) (list_any-append (nat_eq n) list (k ∷ []))
      ∙ (shuffled (is_among list n) (nat_eq n k) (is_among later n)
      ∙ (sym (ap (λ b. is_among list n || b) (ap (λ ns. is_among ns n) was ∙ list_any-append (nat_eq n) later (k ∷ []))) ∙ moved.all n));
  distinct = distinct-behind list k (moved.apart k (ap (λ ns. is_among ns k) was ∙ last-among later k)) moved.distinct;
  apart = λ n is.
      list_any-append (nat_eq n) list (k ∷ [])
      ∙ (ap (λ b. is_among list n || (b || false)) (same-sym n k)
      ∙ still-apart (nat_eq k n) (is_among left n) (is_among list n) (sym (rest n) ∙ is) (moved.apart n));
}
