-- What is among the links of a session, and of a connection.
use Rattle.std.proofs.Common.{◌≡◌, refl, sym, ap, subst, ◌∙◌, ◌⊎◌, ℕ, List, [], ◌∷◌, ◌++◌, Option, Some, None, nat_eq, inl, inr, eqb-true, ◌+◌, ◌<◌, add-one, append_assoc, get_or, length, take, arith}
use Rattle.std.proofs.Math.Seq.{take-suc}
use Rattle.std.proofs.lemmas.List.{append-nil}
use Rattle.std.specs.List.{Contains, IsDistinct, cons_option, filter_map, flat_map}
use Rattle.std.specs.Map.{keys_of, lookup, values_of}
use Rattle.std.proofs.lemmas.Cmp.{nat_eq_equiv}
use Rattle.std.proofs.lemmas.List.Elements.{Contains-append_cases, Contains-append_left, Contains-append_right, Contains-push, Contains-push_cases}
use Rattle.std.proofs.lemmas.Map.Made.{Contains-from_values_of, Contains-values_of}
use Rattle.std.proofs.lemmas.Map.Views.{Contains-from_lookup, lookup-from_Contains}

some_same : {A : Type 0} (a b : A) → Some a ≡ Some b → a ≡ b
some_same a b is = cc

pub none_in : {X : Type 0} (y : X) {P : Type 0} → Contains [] y → P
none_in y (k, below, is) = absurd (omega arith)

pub only : {X : Type 0} (x y : X) → Contains (x ∷ []) y → x ≡ y
only x y in_it = elim (Contains-push_cases [] x y in_it) [ inl none ↦ none_in y none | inr is ↦ is ]

-- ---- what each item gives

module _ {X Y : Type 0} (f : X → Option Y) where
  head_gives : (o : Option Y) (rest : List Y) (y : Y) → o ≡ Some y → Contains (cons_option o rest) y
  head_gives None rest y is = absurd cc
  head_gives (Some z) rest y is = Contains-append_left (z ∷ []) rest y (subst (λ w. Contains (w ∷ []) y) (sym (some_same z y is)) (Contains-push [] y))

  rest_gives : (o : Option Y) (rest : List Y) (y : Y) → Contains rest y → Contains (cons_option o rest) y
  rest_gives None rest y in_it = in_it
  rest_gives (Some z) rest y in_it = Contains-append_right (z ∷ []) rest y in_it

  either : (o : Option Y) (rest : List Y) (y : Y) → Contains (cons_option o rest) y → (o ≡ Some y) ⊎ Contains rest y
  either None rest y in_it = inr in_it
  either (Some z) rest y in_it = elim (Contains-append_cases (z ∷ []) rest y in_it) [ inl first ↦ inl (ap Some (only z y first)) | inr later ↦ inr later ]

  pub filter_map-gives : (xs : List X) (x : X) (y : Y) → Contains xs x → f x ≡ Some y → Contains (filter_map f xs) y
  filter_map-gives [] x y in_it is = none_in x in_it
  filter_map-gives (z ∷ xs) x y in_it is = elim (Contains-append_cases (z ∷ []) xs x in_it) [
    | inl first ↦ head_gives (f z) (filter_map f xs) y (ap f (only z x first) ∙ is)
    | inr later ↦ rest_gives (f z) (filter_map f xs) y (filter_map-gives xs x y later is)
  ]

  pub filter_map-from : (xs : List X) (y : Y) → Contains (filter_map f xs) y → (x : X) × (Contains xs x × (f x ≡ Some y))
  filter_map-from [] y in_it = none_in y in_it
  filter_map-from (z ∷ xs) y in_it = elim (either (f z) (filter_map f xs) y in_it) [
    | inl is ↦ (z, (Contains-append_left (z ∷ []) xs z (Contains-push [] z), is))
    | inr later ↦ let found = filter_map-from xs y later in (found.0, (Contains-append_right (z ∷ []) xs found.0 found.1.0, found.1.1))
  ]

module _ {X Y : Type 0} (f : X → List Y) where
  pub flat_map-gives : (xs : List X) (x : X) (y : Y) → Contains xs x → Contains (f x) y → Contains (flat_map f xs) y
  flat_map-gives [] x y in_it is = none_in x in_it
  flat_map-gives (z ∷ xs) x y in_it is = elim (Contains-append_cases (z ∷ []) xs x in_it) [
    | inl first ↦ Contains-append_left (f z) (flat_map f xs) y (subst (λ w. Contains (f w) y) (sym (only z x first)) is)
    | inr later ↦ Contains-append_right (f z) (flat_map f xs) y (flat_map-gives xs x y later is)
  ]

  pub flat_map-from : (xs : List X) (y : Y) → Contains (flat_map f xs) y → (x : X) × (Contains xs x × Contains (f x) y)
  flat_map-from [] y in_it = none_in y in_it
  flat_map-from (z ∷ xs) y in_it = elim (Contains-append_cases (f z) (flat_map f xs) y in_it) [
    | inl is ↦ (z, (Contains-append_left (z ∷ []) xs z (Contains-push [] z), is))
    | inr later ↦ let found = flat_map-from xs y later in (found.0, (Contains-append_right (z ∷ []) xs found.0 found.1.0, found.1.1))
  ]

-- ---- the values of a table under numbers

module _ {X : Type 0} (es : List (ℕ × X)) where
  pub value-found : (k : ℕ) (x : X) → lookup (nat_eq k) es ≡ Some x → Contains (values_of es) x
  value-found k x is = Contains-values_of es k x (Contains-from_lookup eqb-true k x es is)

  pub found-value : IsDistinct nat_eq (keys_of es) → (x : X) → Contains (values_of es) x → (k : ℕ) × (lookup (nat_eq k) es ≡ Some x)
  found-value distinct x in_it =
      let entry = Contains-from_values_of es x in_it in (entry.0, lookup-from_Contains nat_eq_equiv entry.0 x es distinct entry.1)

-- ---- one more item

module _ {X Y : Type 0} (f : X → Option Y) where
  filter_map-append : (xs ys : List X) → filter_map f (xs ++ ys) ≡ filter_map f xs ++ filter_map f ys
  filter_map-append [] ys = refl
  filter_map-append (x ∷ xs) ys = by (f x) (filter_map-append xs ys)
    where
      by : (o : Option Y) → filter_map f (xs ++ ys) ≡ filter_map f xs ++ filter_map f ys → cons_option o (filter_map f (xs ++ ys)) ≡ cons_option o (filter_map f xs) ++ filter_map f ys
      by None same = same
      by (Some y) same = ap (λ zs. y ∷ zs) same

  one-more : (xs : List X) (i : ℕ) (x : X) → i < length xs → x ≡ get_or xs i x → filter_map f (take (i + 1) xs) ≡ filter_map f (take i xs) ++ cons_option (f x) []
  one-more xs i x below is =
      ap (λ n. filter_map f (take n xs)) (add-one i)
      ∙ (ap (filter_map f) (take-suc xs i x below) ∙ (filter_map-append (take i xs) (get_or xs i x ∷ []) ∙ ap (λ z. filter_map f (take i xs) ++ cons_option (f z) []) (sym is)))

  pub pushed : (xs : List X) (i : ℕ) (x : X) → i < length xs → x ≡ get_or xs i x → (old so_far : List Y) → so_far ≡ old ++ filter_map f (take i xs)
      → (y : Y) → Some y ≡ f x → so_far ++ y ∷ [] ≡ old ++ filter_map f (take (i + 1) xs)
  pushed xs i x below is old so_far before y gives =
      ap (λ zs. zs ++ y ∷ []) before
      ∙ (append_assoc old (filter_map f (take i xs)) (y ∷ [])
      ∙ ap (λ zs. old ++ zs) (ap (λ o. filter_map f (take i xs) ++ cons_option o []) gives ∙ sym (one-more xs i x below is)))

  pub passed : (xs : List X) (i : ℕ) (x : X) → i < length xs → x ≡ get_or xs i x → (old so_far : List Y) → so_far ≡ old ++ filter_map f (take i xs)
      → None ≡ f x → so_far ≡ old ++ filter_map f (take (i + 1) xs)
  passed xs i x below is old so_far before gives =
      before ∙ ap (λ zs. old ++ zs) (sym (append-nil (filter_map f (take i xs))) ∙ (ap (λ o. filter_map f (take i xs) ++ cons_option o []) gives ∙ sym (one-more xs i x below is)))
