-- What is behind a code, by its kind, where some levels are left.
use Rattle.std.proofs.Common.{◌≡◌, ℕ, zero, suc, ◌-◌, ◌<◌, true, List, [], ◌∷◌, length, drop, slice_index, Some, None, Ok, Err, ap, ◌∙◌, refl, arith}
use Rattle.amqp_types.specs.declared.code.Kind.{Kind}
use Rattle.amqp_types.specs.declared.code.SizeWidth.{SizeWidth}
use Rattle.amqp_types.specs.declared.code.Code.{Code}
use Rattle.amqp_types.specs.declared.code.Code.TheVariants as codes
use Rattle.amqp_types.specs.Codes.{code_of, is_described}
use Rattle.amqp_types.specs.Part.{Part, Constructor, tagged}
use Rattle.amqp_types.specs.declared.fault.ValueFault.{ValueFault}
use Rattle.amqp_types.specs.Reading.{nested_at, array_at, described_at, data_at, data_by, tagged_at, constructor_by, constructor_at, in_front, element_by, element_at, item_at, seen_by, seen_at, value_at}

below : (levels : ℕ) → 0 < levels → levels ≡ suc (levels - 1)
below levels some = omega arith

pub data_nested : (levels : ℕ) (kind : Kind) (width : SizeWidth) (at : ℕ) (bytes : List ℕ) → 0 < levels
    → data_at levels zero (codes.Nested kind width) at bytes ≡ nested_at (item_at (levels - 1) None) kind width at bytes
unfolding data_at data_by seen_by seen_at value_at item_at
data_nested levels kind width at bytes some = ap (λ (n : ℕ). data_at n zero (codes.Nested kind width) at bytes) (below levels some)

pub data_array : (levels : ℕ) (width : SizeWidth) (at : ℕ) (bytes : List ℕ) → 0 < levels
    → data_at levels zero (codes.Array width) at bytes ≡ array_at (constructor_at (levels - 1)) (λ c. item_at (levels - 1) (Some c)) width at bytes
unfolding data_at data_by element_at item_at
data_array levels width at bytes some = ap (λ (n : ℕ). data_at n zero (codes.Array width) at bytes) (below levels some)

pub data_described : (levels at : ℕ) (bytes : List ℕ) → 0 < levels → data_at levels zero codes.Described at bytes ≡ described_at (seen_at (levels - 1)) at bytes
unfolding data_at data_by seen_by seen_at value_at
data_described levels at bytes some = ap (λ (n : ℕ). data_at n zero codes.Described at bytes) (below levels some)

-- what is behind some descriptors and a code is read as what is behind the code, where as many levels fewer are left
pub data_behind : (levels tags : ℕ) (code : Code) (at : ℕ) (bytes : List ℕ) → tags < levels → data_at levels tags code at bytes ≡ data_at (levels - tags) zero code at bytes
unfolding data_at
data_behind levels zero code at bytes lt =
    let all : levels ≡ levels - zero = omega arith in
    ap (λ (n : ℕ). data_at n zero code at bytes) all
data_behind zero (suc tags) code at bytes lt = absurd (omega arith)
data_behind (suc levels) (suc tags) code at bytes lt =
    let same : levels - tags ≡ suc levels - suc tags = omega arith in
    data_behind levels tags code at bytes (omega arith) ∙ ap (λ (n : ℕ). data_at n zero code at bytes) same

-- the code behind which a descriptor follows
pub described_is : (code : Code) → is_described code ≡ true → code ≡ codes.Described
described_is (codes.Fixed scalar) e = absurd cc
described_is (codes.Sized text width) e = absurd cc
described_is codes.EmptyList e = absurd cc
described_is (codes.Nested kind width) e = absurd cc
described_is (codes.Array width) e = absurd cc
described_is codes.Described e = refl

-- a constructor whose first octet says that a descriptor follows
pub constructor_tagged : (levels at : ℕ) (bytes : List ℕ) → 0 < levels → 0 < length bytes → code_of (slice_index bytes 0) ≡ Some codes.Described
    → constructor_at levels at bytes ≡ tagged_at (seen_at (levels - 1)) (constructor_at (levels - 1)) at (slice_index bytes 0) (drop 1 bytes)
unfolding constructor_at constructor_by seen_by seen_at value_at
constructor_tagged levels at [] some long known = absurd (omega (arith, long))
constructor_tagged levels at (first ∷ bytes) some long known =
    ap (λ (n : ℕ). constructor_at n at (first ∷ bytes)) (below levels some) ∙ rw known refl

-- an element whose data is at fault
pub element_fault : (levels : ℕ) (c : Constructor) (at : ℕ) (bytes : List ℕ) (d : ValueFault) → c.tags < levels → data_at (levels - c.tags) 0 c.code at bytes ≡ Err d
    → element_at levels c at bytes ≡ Err d
unfolding element_at element_by
element_fault levels c at bytes d lt e = rw (data_behind levels c.tags c.code at bytes lt, e) refl

-- an element whose data is read
pub element_is : (levels : ℕ) (c : Constructor) (at : ℕ) (bytes : List ℕ) (x : Part × List ℕ) → c.tags < levels → data_at (levels - c.tags) 0 c.code at bytes ≡ Ok x
    → element_at levels c at bytes ≡ Ok (record { octets = in_front bytes x.1; part = tagged c.tag (in_front bytes x.1) x.0 }, x.1)
unfolding element_at element_by
element_is levels c at bytes x lt e = rw (data_behind levels c.tags c.code at bytes lt, e) refl
