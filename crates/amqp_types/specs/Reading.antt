-- Reading a value from left to right, up to the first fault.
use Rattle.std.specs.Prelude.{ℕ, zero, suc, ◌+◌, ◌-◌, ◌%◌, Bool, true, false, ◌&&◌, List, [], ◌∷◌, length, take, drop, Option, Some, None, Result, Ok, Err, nat_lt, ◌==◌, if◌then◌else◌}
use Rattle.std.specs.List.{list_all}
use Rattle.std.specs.Str.{is_utf8}
use Rattle.std.specs.Int.{w8, w16, w32, w64, cast_signed}
use Rattle.byteorder.specs.Endian.{big_number}
use Rattle.amqp_types.specs.declared.fault.ValueFaultKind.{ValueFaultKind}
use Rattle.amqp_types.specs.declared.fault.ValueFaultKind.TheVariants.{Short, UnknownCode, BadSize, BadText, TooDeep, BadBoolean, OddMap}
use Rattle.amqp_types.specs.declared.fault.ValueFault.{ValueFault}
use Rattle.amqp_types.specs.declared.code.Scalar.{Scalar}
use Rattle.amqp_types.specs.declared.code.Scalar.TheVariants as scalars
use Rattle.amqp_types.specs.declared.code.Text.{Text}
use Rattle.amqp_types.specs.declared.code.Text.TheVariants as texts
use Rattle.amqp_types.specs.declared.code.Kind.{Kind}
use Rattle.amqp_types.specs.declared.code.Kind.TheVariants as kinds
use Rattle.amqp_types.specs.declared.code.SizeWidth.{SizeWidth}
use Rattle.amqp_types.specs.declared.code.Code.{Code}
use Rattle.amqp_types.specs.declared.code.Code.TheVariants as codes
use Rattle.amqp_types.specs.Faults.{fault_within, fault_in_array}
use Rattle.amqp_types.specs.Codes.{code_of, width_of, size_len, is_described}
use Rattle.amqp_types.specs.Part as parts
use Rattle.amqp_types.specs.Part.{Part, Null, Boolean, Ubyte, Ushort, Uint, Ulong, Kept, Sized, Nested, Array, Described, Seen, Tag, Constructor, tagged, code_alone, code_behind}

-- what was read, and the octets behind it
abbrev pub Read : Type 0 → Type 0
Read A = Result (A × List ℕ) ValueFault

-- a fault of the value at this offset
abbrev pub fault : {A : Type 0} → ValueFaultKind → ℕ → Result A ValueFault
fault kind at = Err (record { kind = kind; at = at })

infixl 10 ◌>>=◌
-- one reading after the other, up to the first fault
abbrev pub ◌>>=◌ : {A B : Type 0} → Result A ValueFault → (A → Result B ValueFault) → Result B ValueFault
(Ok x) >>= f = f x
(Err e) >>= f = Err e

-- n octets of the value at this offset
unfoldable pub octets_at : ℕ → ℕ → List ℕ → Read (List ℕ)
octets_at n at bytes = if nat_lt (length bytes) n then fault Short at else Ok (take n bytes, drop n bytes)

-- a size, and that many octets (part 1, 1.2.2)
unfoldable pub sized_at : SizeWidth → ℕ → List ℕ → Read (List ℕ)
sized_at width at bytes = do
  size ← octets_at (size_len width) at bytes
  octets_at (big_number (size_len width) size.0) at size.1

-- what the octet of a boolean says (part 1, 1.6.2)
abbrev pub boolean_of : ℕ → Result Part ValueFaultKind
boolean_of n = if n == 0 then Ok (Boolean false) else if n == 1 then Ok (Boolean true) else Err BadBoolean

-- what the data of a type of fixed width says (part 1, 1.6.1 to 1.6.18)
unfoldable pub scalar_of : Scalar → List ℕ → Result Part ValueFaultKind
scalar_of scalars.Null octets = Ok Null
scalar_of scalars.True octets = Ok (Boolean true)
scalar_of scalars.False octets = Ok (Boolean false)
scalar_of scalars.Boolean octets = boolean_of (big_number 1 octets)
scalar_of scalars.Ubyte octets = Ok (Ubyte (big_number 1 octets))
scalar_of scalars.Ushort octets = Ok (Ushort (big_number 2 octets))
scalar_of scalars.UintZero octets = Ok (Uint 0)
scalar_of scalars.UintOctet octets = Ok (Uint (big_number 1 octets))
scalar_of scalars.Uint octets = Ok (Uint (big_number 4 octets))
scalar_of scalars.UlongZero octets = Ok (Ulong 0)
scalar_of scalars.UlongOctet octets = Ok (Ulong (big_number 1 octets))
scalar_of scalars.Ulong octets = Ok (Ulong (big_number 8 octets))
scalar_of scalars.Byte octets = Ok (parts.Byte (cast_signed w8 (big_number 1 octets)))
scalar_of scalars.Short octets = Ok (parts.Short (cast_signed w16 (big_number 2 octets)))
scalar_of scalars.IntOctet octets = Ok (parts.Int (cast_signed w8 (big_number 1 octets)))
scalar_of scalars.Int octets = Ok (parts.Int (cast_signed w32 (big_number 4 octets)))
scalar_of scalars.LongOctet octets = Ok (parts.Long (cast_signed w8 (big_number 1 octets)))
scalar_of scalars.Long octets = Ok (parts.Long (cast_signed w64 (big_number 8 octets)))
scalar_of (scalars.Opaque opaque) octets = Ok (Kept opaque octets)

-- whether octets may stand in a binary, a string or a symbol (part 1, 1.6.19 to 1.6.21)
unfoldable pub is_text : Text → List ℕ → Bool
is_text texts.Binary octets = true
is_text texts.Str octets = is_utf8 octets
is_text texts.Symbol octets = list_all (λ b. nat_lt b 128) octets

-- a fault of its kind is a fault of the value at this offset
abbrev pub placed : {A : Type 0} → ℕ → Result A ValueFaultKind → Result A ValueFault
placed at (Ok x) = Ok x
placed at (Err kind) = fault kind at

-- the data of a type of fixed width (part 1, 1.2.1)
unfoldable pub fixed_at : Scalar → ℕ → List ℕ → Read Part
fixed_at scalar at bytes = do
  octets ← octets_at (width_of scalar) at bytes
  part ← placed at (scalar_of scalar octets.0)
  Ok (part, octets.1)

-- the data of a binary, a string or a symbol (part 1, 1.2.2)
unfoldable pub text_at : Text → SizeWidth → ℕ → List ℕ → Read Part
text_at text width at bytes = do
  octets ← sized_at width at bytes
  if is_text text octets.0 then Ok (Sized text octets.0, octets.1) else fault BadText at

-- how many items there are, and the octets in which they lie (part 1, 1.2.3)
unfoldable pub counted_at : SizeWidth → ℕ → List ℕ → Read (ℕ × List ℕ)
counted_at width at bytes = do
  whole ← sized_at width at bytes
  if nat_lt (length whole.0) (size_len width) then fault BadSize at else
      if nat_lt (length whole.0) (big_number (size_len width) whole.0) then fault BadSize at else
      Ok ((big_number (size_len width) whole.0, drop (size_len width) whole.0), whole.1)

-- n items, one after the other, each at its offset
unfoldable pub items_at : (ℕ → List ℕ → Read Seen) → ℕ → ℕ → List ℕ → Result (List ℕ) ValueFault
items_at item zero at bytes = Ok bytes
items_at item (suc n) at bytes = do
  first ← item at bytes
  items_at item n (at + length first.0.octets) first.1

-- nothing may be left of the octets of the items
abbrev pub all_used : ℕ → Result (List ℕ) ValueFault → Result (List ℕ) ValueFault
all_used at (Ok []) = Ok []
all_used at (Ok (b ∷ bytes)) = fault BadSize at
all_used at (Err e) = Err (fault_within at e)

-- whether a map has a key without a value (part 1, 1.6.23)
abbrev pub is_odd : Kind → ℕ → Bool
is_odd kinds.List n = false
is_odd kinds.Map n = n % 2 == 1

-- the data of a list or a map, whose items are read by item (part 1, 1.2.3)
unfoldable pub nested_at : (ℕ → List ℕ → Read Seen) → Kind → SizeWidth → ℕ → List ℕ → Read Part
nested_at item kind width at bytes = do
  counted ← counted_at width at bytes
  if is_odd kind counted.0.0 then fault OddMap at else (do
    end ← all_used at (items_at item counted.0.0 (at + 1 + size_len width + size_len width) counted.0.1)
    Ok (Nested kind counted.0.0 counted.0.1, counted.1))

-- an element, which its array's constructor may describe
abbrev pub with_tag : Option Tag → Read Seen → Read Seen
with_tag tag (Ok x) = Ok (record { octets = x.0.octets; part = tagged tag x.0.octets x.0.part }, x.1)
with_tag tag (Err e) = Err e

-- what is in an array, as the array's own (own format)
abbrev pub in_array : {A : Type 0} → ℕ → Result A ValueFault → Result A ValueFault
in_array at (Ok x) = Ok x
in_array at (Err e) = Err (fault_in_array at e)

-- n elements and nothing behind them: their constructor, and then their data (part 1, 1.2.4)
unfoldable pub elements_at : (ℕ → List ℕ → Read Constructor) → (Constructor → ℕ → List ℕ → Read Seen) → ℕ → ℕ → List ℕ → Result Part ValueFault
elements_at constructor element n at bytes = if n == 0 && length bytes == 0 then Ok (Array None 0 []) else (do
  first ← constructor at bytes
  end ← all_used at (items_at (element first.0) n at first.1)
  Ok (Array (Some first.0) n first.1))

-- the data of an array (part 1, 1.2.4)
unfoldable pub array_at : (ℕ → List ℕ → Read Constructor) → (Constructor → ℕ → List ℕ → Read Seen) → SizeWidth → ℕ → List ℕ → Read Part
array_at constructor element width at bytes = do
  counted ← counted_at width at bytes
  array ← in_array at (elements_at constructor element counted.0.0 at counted.0.1)
  Ok (array, counted.1)

-- a descriptor and the value that it describes, each read by value (part 1, 1.1.2 and 1.2)
unfoldable pub described_at : (ℕ → List ℕ → Read Seen) → ℕ → List ℕ → Read Part
described_at value at bytes = do
  descriptor ← value (at + 1) bytes
  described ← value (at + 1 + length descriptor.0.octets) descriptor.1
  Ok (Described descriptor.0.octets described.0.octets, described.1)

-- what is behind a code, if it is one: inner reads it
unfoldable pub coded_at : (Code → ℕ → List ℕ → Read Part) → ℕ → List ℕ → Option Code → Read Part
coded_at inner at bytes None = fault UnknownCode at
coded_at inner at bytes (Some code) = inner code at bytes

-- a value where so many levels are left: inner reads what is behind its code
unfoldable pub value_by : (Code → ℕ → List ℕ → Read Part) → ℕ → ℕ → List ℕ → Read Part
value_by inner levels at [] = fault Short at
value_by inner zero at (b ∷ bytes) = fault TooDeep at
value_by inner (suc levels) at (b ∷ bytes) = coded_at inner at bytes (code_of b)

-- the octets of bytes in front of rest
abbrev pub in_front : List ℕ → List ℕ → List ℕ
in_front bytes rest = take (length bytes - length rest) bytes

-- what was read, with its own octets
abbrev pub with_octets : List ℕ → Read Part → Read Seen
with_octets bytes (Ok x) = Ok (record { octets = in_front bytes x.1; part = x.0 }, x.1)
with_octets bytes (Err e) = Err e

-- a value with its own octets, where so many levels are left
unfoldable pub seen_by : (Code → ℕ → List ℕ → Read Part) → ℕ → ℕ → List ℕ → Read Seen
seen_by inner levels at bytes = with_octets bytes (value_by inner levels at bytes)

-- what is behind a code, where value reads the values nested in it, and constructor and element
-- what is nested in an array
unfoldable pub data_by : (ℕ → List ℕ → Read Seen) → (ℕ → List ℕ → Read Constructor) → (Constructor → ℕ → List ℕ → Read Seen) → Code → ℕ → List ℕ → Read Part
data_by value constructor element (codes.Fixed scalar) at bytes = fixed_at scalar at bytes
data_by value constructor element (codes.Sized text width) at bytes = text_at text width at bytes
data_by value constructor element codes.EmptyList at bytes = Ok (Nested kinds.List 0 [], bytes)
data_by value constructor element (codes.Nested kind width) at bytes = nested_at value kind width at bytes
data_by value constructor element (codes.Array width) at bytes = array_at constructor element width at bytes
data_by value constructor element codes.Described at bytes = described_at value at bytes

-- an element of a constructor, where behind reads what is behind so many descriptors and a code
unfoldable pub element_by : (ℕ → Code → ℕ → List ℕ → Read Part) → Constructor → ℕ → List ℕ → Read Seen
element_by behind c at bytes = with_tag c.tag (with_octets bytes (behind c.tags c.code at bytes))

-- a descriptor and the constructor behind it, behind the octet that says so: value reads a descriptor, and inner a constructor (part 1, 1.2)
unfoldable pub tagged_at : (ℕ → List ℕ → Read Seen) → (ℕ → List ℕ → Read Constructor) → ℕ → ℕ → List ℕ → Read Constructor
tagged_at value inner at first bytes = do
  descriptor ← value at bytes
  behind ← inner at descriptor.1
  Ok (code_behind first descriptor.0.octets behind.0, behind.1)

-- a constructor by what its first octet says
unfoldable pub constructor_by : (ℕ → List ℕ → Read Seen) → (ℕ → List ℕ → Read Constructor) → ℕ → ℕ → List ℕ → Option Code → Read Constructor
constructor_by value inner at first bytes None = fault UnknownCode at
constructor_by value inner at first bytes (Some code) =
    if is_described code then tagged_at value inner at first bytes else Ok (code_alone first code, bytes)

unfoldable mutual
  -- what is behind so many descriptors and a code, where so many levels are left, that of the first descriptor included
  pub data_at : ℕ → ℕ → Code → ℕ → List ℕ → Read Part
  data_at zero tags code at bytes = fault TooDeep at
  data_at (suc levels) zero code at bytes =
      data_by (seen_by (data_at levels zero) levels) (constructor_at levels) (element_by (data_at levels)) code at bytes
  data_at (suc levels) (suc tags) code at bytes = data_at levels tags code at bytes

  -- the constructor of elements, where so many levels are left, that of the elements included (part 1, 1.2)
  pub constructor_at : ℕ → ℕ → List ℕ → Read Constructor
  constructor_at levels at [] = fault Short at
  constructor_at zero at (b ∷ bytes) = fault TooDeep at
  constructor_at (suc levels) at (b ∷ bytes) =
      constructor_by (seen_by (data_at levels zero) levels) (constructor_at levels) at b bytes (code_of b)

-- the value at the front of the octets, which lie at this offset, where so many levels are left
unfoldable pub value_at : ℕ → ℕ → List ℕ → Read Part
value_at levels at bytes = value_by (data_at levels zero) levels at bytes

-- the same, with the value's own octets
unfoldable pub seen_at : ℕ → ℕ → List ℕ → Read Seen
seen_at levels at bytes = with_octets bytes (value_at levels at bytes)

-- an element of an array, where so many levels are left: its octets are its data alone
unfoldable pub element_at : ℕ → Constructor → ℕ → List ℕ → Read Seen
element_at levels c at bytes = element_by (data_at levels) c at bytes

-- an element where there is a constructor, else a value of its own
unfoldable pub item_at : ℕ → Option Constructor → ℕ → List ℕ → Read Seen
item_at levels None at bytes = seen_at levels at bytes
item_at levels (Some c) at bytes = element_at levels c at bytes
