-- Standings in order: in whichever order they were put, and which of them is the first that passes a test.
use Rattle.std.proofs.Common.{◌≡◌, ◌∙◌, refl, sym, ap, ℕ, Bool, true, false, List, [], ◌∷◌, ◌++◌, arith, if◌then◌else◌, ◌==◌}
use Rattle.std.specs.Prelude.{nat_lt, nat_le}
use Rattle.std.proofs.lemmas.Bool.Decides.{nat_tests}
use Rattle.address_table.specs.declared.address_links.LinkRank.{LinkRank}
use Rattle.address_table.specs.AddressLinks.{comes_before, put, in_order}

-- ---- one of two comes before the other

same_standing : (x y : LinkRank) → x.undecided ≡ y.undecided → x.place ≡ y.place → x.link ≡ y.link → x ≡ y
same_standing x y u p l = λ i. record { undecided = u i; place = p i; link = l i }

-- the test, by numbers alone
abbrev pub before : ℕ → ℕ → ℕ → ℕ → ℕ → ℕ → Bool
before u p l v q m = if u == v then (if p == q then nat_le l m else nat_lt p q) else nat_lt u v

total_by : (u p l v q m : ℕ) → before u p l v q m ≡ false → before v q m u p l ≡ true
total_by u p l v q m e = grind (arith, nat_tests)

same_undecided : (u p l v q m : ℕ) → before u p l v q m ≡ true → before v q m u p l ≡ true → u ≡ v
same_undecided u p l v q m e f = grind (arith, nat_tests)

same_place : (u p l v q m : ℕ) → before u p l v q m ≡ true → before v q m u p l ≡ true → p ≡ q
same_place u p l v q m e f = grind (arith, nat_tests)

same_link : (u p l v q m : ℕ) → before u p l v q m ≡ true → before v q m u p l ≡ true → l ≡ m
same_link u p l v q m e f = grind (arith, nat_tests)

trans_by : (u p l v q m w r n : ℕ) → before u p l v q m ≡ true → before v q m w r n ≡ true → before u p l w r n ≡ true
trans_by u p l v q m w r n e f = grind (arith, nat_tests)

pub total : (x y : LinkRank) → comes_before x y ≡ false → comes_before y x ≡ true
total x y e = total_by x.undecided x.place x.link y.undecided y.place y.link e

pub anti : (x y : LinkRank) → comes_before x y ≡ true → comes_before y x ≡ true → x ≡ y
anti x y e f = same_standing x y
    (same_undecided x.undecided x.place x.link y.undecided y.place y.link e f)
    (same_place x.undecided x.place x.link y.undecided y.place y.link e f)
    (same_link x.undecided x.place x.link y.undecided y.place y.link e f)

pub trans : (x y z : LinkRank) → comes_before x y ≡ true → comes_before y z ≡ true → comes_before x z ≡ true
trans x y z e f = trans_by x.undecided x.place x.link y.undecided y.place y.link z.undecided z.place z.link e f

-- ---- two are put one after the other

both_first : (x y : LinkRank) (rest : List LinkRank) (a b : Bool) → comes_before x y ≡ a → comes_before y x ≡ b
    → (if a then x ∷ y ∷ rest else y ∷ x ∷ rest) ≡ (if b then y ∷ x ∷ rest else x ∷ y ∷ rest)
both_first x y rest true true e f = let same = anti x y e f in λ i. same i ∷ sym same i ∷ rest
both_first x y rest true false e f = refl
both_first x y rest false true e f = refl
both_first x y rest false false e f = let never : true ≡ false = sym (total x y e) ∙ f in absurd cc

-- x stands at once, y goes on behind z, so that it goes on behind x too
behind_first : (x y z : LinkRank) (rest : List LinkRank) (b : Bool) → comes_before x z ≡ true → comes_before y z ≡ false → comes_before y x ≡ b
    → x ∷ z ∷ put y rest ≡ (if b then y ∷ x ∷ z ∷ rest else x ∷ z ∷ put y rest)
behind_first x y z rest true e f g = let never : true ≡ false = sym (trans y x z g e) ∙ f in absurd cc
behind_first x y z rest false e f g = refl

pub put-put : (x y : LinkRank) (rest : List LinkRank) → put x (put y rest) ≡ put y (put x rest)
put-put x y [] = both_first x y [] (comes_before x y) (comes_before y x) refl refl
put-put x y (z ∷ rest) = by (comes_before x z) (comes_before y z) refl refl (put-put x y rest)
  where
    by : (a b : Bool) → comes_before x z ≡ a → comes_before y z ≡ b → put x (put y rest) ≡ put y (put x rest)
        → put x (if b then y ∷ z ∷ rest else z ∷ put y rest) ≡ put y (if a then x ∷ z ∷ rest else z ∷ put x rest)
    by true true e f later =
        ap (λ c. if comes_before x y then x ∷ y ∷ z ∷ rest else y ∷ (if c then x ∷ z ∷ rest else z ∷ put x rest)) e
        ∙ (both_first x y (z ∷ rest) (comes_before x y) (comes_before y x) refl refl
        ∙ sym (ap (λ c. if comes_before y x then y ∷ x ∷ z ∷ rest else x ∷ (if c then y ∷ z ∷ rest else z ∷ put y rest)) f))
    by true false e f later =
        ap (λ c. if c then x ∷ z ∷ put y rest else z ∷ put x (put y rest)) e
        ∙ (behind_first x y z rest (comes_before y x) e f refl
        ∙ sym (ap (λ c. if comes_before y x then y ∷ x ∷ z ∷ rest else x ∷ (if c then y ∷ z ∷ rest else z ∷ put y rest)) f))
    by false true e f later =
        ap (λ c. if comes_before x y then x ∷ y ∷ z ∷ rest else y ∷ (if c then x ∷ z ∷ rest else z ∷ put x rest)) e
        ∙ (sym (behind_first y x z rest (comes_before x y) f e refl)
        ∙ sym (ap (λ c. if c then y ∷ z ∷ put x rest else z ∷ put y (put x rest)) f))
    by false false e f later =
        ap (λ c. if c then x ∷ z ∷ put y rest else z ∷ put x (put y rest)) e
        ∙ (ap (λ more. z ∷ more) later
        ∙ sym (ap (λ c. if c then y ∷ z ∷ put x rest else z ∷ put y (put x rest)) f))

-- one that comes last is put among the others
pub in_order-last : (xs : List LinkRank) (y : LinkRank) → in_order (xs ++ y ∷ []) ≡ put y (in_order xs)
in_order-last [] y = refl
in_order-last (x ∷ xs) y = ap (put x) (in_order-last xs y) ∙ put-put x y (in_order xs)
