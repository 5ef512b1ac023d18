-- One group changes, and the others stay.
use Rattle.std.proofs.Common.{◌≡◌, refl, sym, ap, ◌∙◌, ℕ, Bool, true, false, cond, not, ◌&&◌, ◌||◌, ◌==◌, List, [], ◌∷◌, length, Option, Some, None, is_some, nat_eq, subst, IsTrue, ◌↔◌, arith}
use Rattle.std.proofs.lemmas.Bool.Decides.{nat_tests}
use Rattle.std.specs.List.{IsDistinct}
use Rattle.number_groups.specs.Numbers.{is_among, listed, members}
use Rattle.number_groups.specs.declared.group.Group.{Group}
use Rattle.number_groups.specs.declared.group.Group.TheVariants.{One}

cond_or : (b other : Bool) → cond b true other ≡ (b || other)
cond_or true other = refl
cond_or false other = refl

cond_without : (b other : Bool) → cond b false other ≡ (other && not b)
cond_without true true = refl
cond_without true false = refl
cond_without false true = refl
cond_without false false = refl

and_true : (b : Bool) → b ≡ (b && true)
and_true true = refl
and_true false = refl

-- a second change of the same group
pub twice : {A : Type 0} (b : Bool) (w v x : A) → cond b w (cond b v x) ≡ cond b w x
twice true w v x = refl
twice false w v x = refl

pub nothing : (xs : List ℕ) → length xs ≡ 0 → xs ≡ []
nothing [] e = refl
nothing (x ∷ xs) e = absurd (omega arith)

nat_same : (n : ℕ) → nat_eq n n ≡ true
nat_same n = grind arith

-- without members there is none
pub none_among : (xs : List ℕ) → ((n : ℕ) → is_among xs n ≡ false) → xs ≡ []
none_among [] none = refl
none_among (x ∷ xs) none = let never : true ≡ false = sym (ap (λ b. b || is_among xs x) (nat_same x)) ∙ none x in absurd cc

module _ {K : Type 0} (eq : K → K → Bool) (old new : K → Option Group) (k : K) (w : Option Group) (moved : (at : K) → new at ≡ cond (eq k at) w (old at)) where
  pub same : ((at : K) → eq k at ≡ true → old at ≡ old k) → listed w ≡ listed (old k) → (at : K) → listed (new at) ≡ listed (old at)
  same alike is at = ap listed (moved at) ∙ by (eq k at) (alike at)
    where
      by : (b : Bool) → (b ≡ true → old at ≡ old k) → listed (cond b w (old at)) ≡ listed (old at)
      by true here = is ∙ ap listed (sym (here refl))
      by false here = refl

  pub joined : (number : ℕ) → ((at : K) → eq k at ≡ true → old at ≡ old k) → ((n : ℕ) → is_among (listed w) n ≡ cond (nat_eq number n) true (is_among (listed (old k)) n))
      → (at : K) (n : ℕ) → is_among (listed (new at)) n ≡ (eq k at && (number == n) || is_among (listed (old at)) n)
  joined number alike is at n = ap (λ o. is_among (listed o) n) (moved at) ∙ by (eq k at) (alike at)
    where
      by : (b : Bool) → (b ≡ true → old at ≡ old k) → is_among (listed (cond b w (old at))) n ≡ (b && (number == n) || is_among (listed (old at)) n)
      by true here = is n ∙ (cond_or (nat_eq number n) (is_among (listed (old k)) n) ∙ ap (λ o. (number == n) || is_among (listed o) n) (sym (here refl)))
      by false here = refl

  pub left : (number : ℕ) → ((at : K) → eq k at ≡ true → old at ≡ old k) → ((n : ℕ) → is_among (listed w) n ≡ cond (nat_eq number n) false (is_among (listed (old k)) n))
      → (at : K) (n : ℕ) → is_among (listed (new at)) n ≡ (is_among (listed (old at)) n && not (eq k at && (number == n)))
  left number alike is at n = ap (λ o. is_among (listed o) n) (moved at) ∙ by (eq k at) (alike at)
    where
      by : (b : Bool) → (b ≡ true → old at ≡ old k) → is_among (listed (cond b w (old at))) n ≡ (is_among (listed (old at)) n && not (b && (number == n)))
      by true here = is n ∙ (cond_without (nat_eq number n) (is_among (listed (old k)) n) ∙ ap (λ o. is_among (listed o) n && not (number == n)) (sym (here refl)))
      by false here = and_true (is_among (listed (old at)) n)

-- a group that is not there repeats nothing
pub none_distinct : {o : Option Group} → None ≡ o → IsDistinct nat_eq (listed o)
unfolding IsDistinct
none_distinct is = subst (λ p. IsDistinct nat_eq (listed p)) is tt

-- a number alone repeats nothing
pub one_distinct : {group : Group} {n : ℕ} → group ≡ One n → IsDistinct nat_eq (members group)
unfolding IsDistinct
one_distinct is = subst (λ g. IsDistinct nat_eq (members g)) (sym is) (tt, tt)

-- a group has no numbers just where its count is 0
pub empty-none : (xs : List ℕ) (count : ℕ) → count ≡ length xs → IsTrue (nat_eq count 0) ↔ ((n : ℕ) → is_among xs n ≡ false)
empty-none xs count is = (none, zero)
  where
    none : IsTrue (nat_eq count 0) → (n : ℕ) → is_among xs n ≡ false
    none zero n = let len : length xs ≡ 0 = grind (arith, nat_tests) in ap (λ ys. is_among ys n) (nothing xs len)

    zero : ((n : ℕ) → is_among xs n ≡ false) → IsTrue (nat_eq count 0)
    zero none = let is_nil : count ≡ 0 = is ∙ ap length (none_among xs none) in grind (arith, nat_tests)

pub absent : (o : Option Group) → is_some o ≡ false → listed o ≡ []
absent None is = refl
absent (Some x) is = absurd cc

-- of a number alone
pub alone_among : (number n : ℕ) → is_among (members (One number)) n ≡ cond (nat_eq number n) true (is_among [] n)
alone_among number n = grind (arith, nat_tests)
