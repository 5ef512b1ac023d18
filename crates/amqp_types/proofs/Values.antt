-- What is read is in the grammar, and what is in the grammar is read, whatever is behind it.
use Rattle.std.proofs.Common.{◌≡◌, ℕ, zero, suc, ◌≤◌, ◌<◌, List, [], ◌∷◌, ◌++◌, length, Option, Some, None, Ok, refl, ap, subst, ◌∙◌, inl, inr, arith}
use Rattle.std.proofs.lemmas.List.{length-append}
use Rattle.amqp_types.specs.declared.code.Kind.TheVariants as kinds
use Rattle.amqp_types.specs.declared.code.Code.{Code}
use Rattle.amqp_types.specs.declared.code.Code.TheVariants as codes
use Rattle.amqp_types.specs.Codes.{code_of}
use Rattle.amqp_types.specs.Part.{Part, Nested, Seen, Constructor}
use Rattle.amqp_types.specs.Reading.{element_by, seen_by, data_by, data_at, constructor_at, value_at, seen_at, element_at, item_at}
use Rattle.amqp_types.specs.Grammar.{IsCoded, IsElementBy, IsConstructor, IsData, IsValue, IsElement, IsItem, IsFront}
use Rattle.amqp_types.proofs.Steps.{ok_is, Takes}
use Rattle.amqp_types.proofs.Pieces.{Finds, ReadsAgain, FindsData, ReadsDataAgain, fixed_found, fixed_again, text_data_found, text_data_again, nested_found, nested_again, described_found, described_again, seen_found_by, seen_again_by}
use Rattle.amqp_types.proofs.Arrays.{FindsConstructor, ReadsConstructorAgain, constructor_by_found, alone_again, behind_again, element_by_found, element_by_again, array_found, array_again}

no_value : (octets : List ℕ) (part : Part) → IsCoded (IsData 0 zero) octets part → ⊥
unfolding IsData
no_value [] part is = is
no_value (b ∷ octets) part is = is.2

seen_again_at : (levels : ℕ) → ReadsDataAgain (data_at levels zero) (IsData levels zero) → ReadsAgain (seen_by (data_at levels zero) levels) (IsCoded (IsData levels zero))
seen_again_at zero again at octets rest part is = absurd (no_value octets part is)
seen_again_at (suc levels) again at octets rest part is = seen_again_by (data_at (suc levels) zero) (IsData (suc levels) zero) again levels at octets rest part is

-- a constructor has at least one octet
pub constructor_long : (levels : ℕ) (octets : List ℕ) (c : Constructor) → IsConstructor levels octets c → 0 < length octets
unfolding IsConstructor
constructor_long zero octets c is = absurd is
constructor_long (suc levels) octets c (inl is) = rw is.parts (omega arith)
constructor_long (suc levels) octets c (inr is) = rw is.parts (omega arith)

mutual
  unfolding data_at data_by constructor_at IsData IsConstructor

  pub data_found : (levels tags : ℕ) → FindsData (data_at levels tags) (IsData levels tags)
  data_found zero tags code at bytes x e = absurd cc
  data_found (suc levels) zero (codes.Fixed scalar) at bytes x e = fixed_found scalar at bytes x e
  data_found (suc levels) zero (codes.Sized text width) at bytes x e = text_data_found text width at bytes x e
  data_found (suc levels) zero codes.EmptyList at bytes x e =
      let P : Part × List ℕ → Type 0 = λ z. Takes (λ octets part. (octets ≡ []) × (part ≡ Nested kinds.List 0 [])) bytes z in
      subst P (ok_is (Nested kinds.List 0 [], bytes) x e) (record { front = []; parts = refl; is = (refl, refl) })
  data_found (suc levels) zero (codes.Nested kind width) at bytes x e =
      nested_found (seen_by (data_at levels zero) levels) (IsCoded (IsData levels zero)) (seen_found_by (data_at levels zero) (IsData levels zero) (data_found levels zero) levels) kind width at bytes x e
  data_found (suc levels) zero (codes.Array width) at bytes x e =
      array_found (constructor_at levels) (IsConstructor levels) (constructor_found levels) (element_by (data_at levels)) (IsElementBy (IsData levels)) (element_by_found (data_at levels) (IsData levels) (data_found levels)) width at bytes x e
  data_found (suc levels) zero codes.Described at bytes x e =
      described_found (seen_by (data_at levels zero) levels) (IsCoded (IsData levels zero)) (seen_found_by (data_at levels zero) (IsData levels zero) (data_found levels zero) levels) at bytes x e
  data_found (suc levels) (suc tags) code at bytes x e = data_found levels tags code at bytes x e

  -- what is read as a constructor is one
  pub constructor_found : (levels : ℕ) → FindsConstructor (constructor_at levels) (IsConstructor levels)
  constructor_found levels at [] x e = absurd cc
  constructor_found zero at (b ∷ bytes) x e = absurd cc
  constructor_found (suc levels) at (b ∷ bytes) x e =
      constructor_by_found (seen_by (data_at levels zero) levels) (IsCoded (IsData levels zero)) (seen_found_by (data_at levels zero) (IsData levels zero) (data_found levels zero) levels) (constructor_at levels) (IsConstructor levels) (constructor_found levels) at b bytes (code_of b) x refl e

mutual
  unfolding data_at data_by constructor_at IsData IsConstructor

  pub data_again : (levels tags : ℕ) → ReadsDataAgain (data_at levels tags) (IsData levels tags)
  data_again zero tags code at octets rest part is = absurd is
  data_again (suc levels) zero (codes.Fixed scalar) at octets rest part is = fixed_again scalar at octets rest part is
  data_again (suc levels) zero (codes.Sized text width) at octets rest part is = text_data_again text width at octets rest part is
  data_again (suc levels) zero codes.EmptyList at octets rest part is = rw (is.0, is.1) refl
  data_again (suc levels) zero (codes.Nested kind width) at octets rest part is =
      nested_again (seen_by (data_at levels zero) levels) (IsCoded (IsData levels zero)) (seen_again_at levels (data_again levels zero)) kind width at octets rest part is
  data_again (suc levels) zero (codes.Array width) at octets rest part is =
      array_again (constructor_at levels) (IsConstructor levels) (constructor_again levels) (constructor_long levels) (element_by (data_at levels)) (IsElementBy (IsData levels)) (element_by_again (data_at levels) (IsData levels) (data_again levels)) width at octets rest part is
  data_again (suc levels) zero codes.Described at octets rest part is =
      described_again (seen_by (data_at levels zero) levels) (IsCoded (IsData levels zero)) (seen_again_at levels (data_again levels zero)) at octets rest part is
  data_again (suc levels) (suc tags) code at octets rest part is = data_again levels tags code at octets rest part is

  -- a constructor is read, whatever is behind it
  pub constructor_again : (levels : ℕ) → ReadsConstructorAgain (constructor_at levels) (IsConstructor levels)
  constructor_again zero at octets rest c is = absurd is
  constructor_again (suc levels) at octets rest c (inl is) =
      ap (λ (t : List ℕ). constructor_at (suc levels) at (t ++ rest)) is.parts
      ∙ alone_again (seen_by (data_at levels zero) levels) (constructor_at levels) at octets rest c is
  constructor_again (suc levels) at octets rest c (inr is) =
      ap (λ (t : List ℕ). constructor_at (suc levels) at (t ++ rest)) is.parts
      ∙ behind_again (seen_by (data_at levels zero) levels) (IsCoded (IsData levels zero)) (seen_again_at levels (data_again levels zero)) (constructor_at levels) (IsConstructor levels) (constructor_again levels) at octets rest c is

-- what is read is a value at the front
pub seen_found : (levels at : ℕ) (bytes : List ℕ) (x : Seen × List ℕ) → seen_at levels at bytes ≡ Ok x → IsFront levels bytes x.0 x.1
unfolding seen_at value_at seen_by IsValue
seen_found levels at bytes x e =
    let found = seen_found_by (data_at levels zero) (IsData levels zero) (data_found levels zero) levels at bytes x e in
    record { parts = found.0; is = found.1 }

-- a value at the front is read, wherever it lies and whatever is behind it
pub seen_again : (levels at : ℕ) (octets rest : List ℕ) (part : Part) → IsValue levels octets part → seen_at levels at (octets ++ rest) ≡ Ok (record { octets = octets; part = part }, rest)
unfolding seen_at value_at seen_by IsValue
seen_again levels at octets rest part is = seen_again_at levels (data_again levels zero) at octets rest part is

-- the reader of items reads only what is one
pub item_found : (levels : ℕ) (form : Option Constructor) → Finds (item_at levels form) (IsItem levels form)
unfolding item_at element_at IsElement
item_found levels None at bytes x e = let front = seen_found levels at bytes x e in (front.parts, front.is)
item_found levels (Some c) at bytes x e = element_by_found (data_at levels) (IsData levels) (data_found levels) c at bytes x e

-- the reader of items reads each that is one
pub item_again : (levels : ℕ) (form : Option Constructor) → ReadsAgain (item_at levels form) (IsItem levels form)
unfolding item_at element_at IsElement
item_again levels None at octets rest part is = seen_again levels at octets rest part is
item_again levels (Some c) at octets rest part is = element_by_again (data_at levels) (IsData levels) (data_again levels) c at octets rest part is

-- a constructor has fewer descriptors than levels are left
pub constructor_shallow : (levels : ℕ) (octets : List ℕ) (c : Constructor) → IsConstructor levels octets c → c.tags < levels
unfolding IsConstructor
constructor_shallow zero octets c is = absurd is
constructor_shallow (suc levels) octets c (inl is) = rw is.is (omega arith)
constructor_shallow (suc levels) octets c (inr is) = rw is.is (omega (arith, constructor_shallow levels is.inner.octets is.inner is.inner_is))

-- what is behind a code is no longer than what is there
pub data_shorter : (levels : ℕ) (code : Code) (at : ℕ) (bytes : List ℕ) (x : Part × List ℕ) → data_at levels zero code at bytes ≡ Ok x → length x.1 ≤ length bytes
data_shorter levels code at bytes x e =
    let takes = data_found levels zero code at bytes x e in
    omega (arith, ap length takes.parts, length-append takes.front x.1)
