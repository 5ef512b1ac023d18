-- The grammar: which octets are a value, and what the value says, by cases on the format code.
use Rattle.std.specs.Prelude.{◌≡◌, ℕ, zero, suc, ◌≤◌, ◌%◌, true, false, List, [], ◌∷◌, ◌++◌, length, Option, Some, None, All, IsUtf8, IsAscii, ◌⊎◌}
use Rattle.std.specs.List.{flat_map}
use Rattle.std.specs.Int.{w8, w16, w32, w64, cast_signed}
use Rattle.byteorder.specs.Endian.{big_number}
use Rattle.amqp_types.specs.declared.code.Scalar.{Scalar}
use Rattle.amqp_types.specs.declared.code.Scalar.TheVariants as scalars
use Rattle.amqp_types.specs.declared.code.Text.{Text}
use Rattle.amqp_types.specs.declared.code.Text.TheVariants as texts
use Rattle.amqp_types.specs.declared.code.Kind.{Kind}
use Rattle.amqp_types.specs.declared.code.Kind.TheVariants as kinds
use Rattle.amqp_types.specs.declared.code.SizeWidth.{SizeWidth}
use Rattle.amqp_types.specs.declared.code.Code.{Code}
use Rattle.amqp_types.specs.declared.code.Code.TheVariants as codes
use Rattle.amqp_types.specs.Codes.{code_of, opaque_width, size_len, is_described}
use Rattle.flow_counts.specs.declared.profile.TheConstants.{MAX_DEPTH}
use Rattle.amqp_types.specs.Part as parts
use Rattle.amqp_types.specs.Part.{Part, Null, Boolean, Ubyte, Ushort, Uint, Ulong, Kept, Sized, Nested, Array, Described, Tagged, Seen, Constructor, tagged, code_alone, code_behind}

-- so many octets are this number, the highest first (part 1, 1.6)
pub record IsNumber (width : ℕ) (octets : List ℕ) (n : ℕ) : Type 0 where
  pub len : length octets ≡ width
  pub says : big_number width octets ≡ n

-- the data of a type of fixed width, and what it says (part 1, 1.6.1 to 1.6.18)
abbrev pub IsScalar : Scalar → List ℕ → Part → Type 0
IsScalar scalars.Null octets part = (octets ≡ []) × (part ≡ Null)
IsScalar scalars.True octets part = (octets ≡ []) × (part ≡ Boolean true)
IsScalar scalars.False octets part = (octets ≡ []) × (part ≡ Boolean false)
IsScalar scalars.Boolean octets part =
    ((octets ≡ 0 ∷ []) × (part ≡ Boolean false)) ⊎ ((octets ≡ 1 ∷ []) × (part ≡ Boolean true))
IsScalar scalars.Ubyte octets part = (n : ℕ) × IsNumber 1 octets n × (part ≡ Ubyte n)
IsScalar scalars.Ushort octets part = (n : ℕ) × IsNumber 2 octets n × (part ≡ Ushort n)
IsScalar scalars.UintZero octets part = (octets ≡ []) × (part ≡ Uint 0)
IsScalar scalars.UintOctet octets part = (n : ℕ) × IsNumber 1 octets n × (part ≡ Uint n)
IsScalar scalars.Uint octets part = (n : ℕ) × IsNumber 4 octets n × (part ≡ Uint n)
IsScalar scalars.UlongZero octets part = (octets ≡ []) × (part ≡ Ulong 0)
IsScalar scalars.UlongOctet octets part = (n : ℕ) × IsNumber 1 octets n × (part ≡ Ulong n)
IsScalar scalars.Ulong octets part = (n : ℕ) × IsNumber 8 octets n × (part ≡ Ulong n)
IsScalar scalars.Byte octets part = (n : ℕ) × IsNumber 1 octets n × (part ≡ parts.Byte (cast_signed w8 n))
IsScalar scalars.Short octets part = (n : ℕ) × IsNumber 2 octets n × (part ≡ parts.Short (cast_signed w16 n))
IsScalar scalars.IntOctet octets part = (n : ℕ) × IsNumber 1 octets n × (part ≡ parts.Int (cast_signed w8 n))
IsScalar scalars.Int octets part = (n : ℕ) × IsNumber 4 octets n × (part ≡ parts.Int (cast_signed w32 n))
IsScalar scalars.LongOctet octets part = (n : ℕ) × IsNumber 1 octets n × (part ≡ parts.Long (cast_signed w8 n))
IsScalar scalars.Long octets part = (n : ℕ) × IsNumber 8 octets n × (part ≡ parts.Long (cast_signed w64 n))
IsScalar (scalars.Opaque opaque) octets part = (length octets ≡ opaque_width opaque) × (part ≡ Kept opaque octets)

-- what may stand in a binary, a string or a symbol (part 1, 1.6.19 to 1.6.21)
abbrev pub IsText : Text → List ℕ → Type 0
IsText texts.Binary octets = Unit {0}
IsText texts.Str octets = IsUtf8 octets
IsText texts.Symbol octets = IsAscii octets

-- a size, and that many octets (part 1, 1.2.2)
pub record IsSized (width : SizeWidth) (octets content : List ℕ) : Type 0 where
  pub size : List ℕ
  pub says : IsNumber (size_len width) size (length content)
  pub parts : octets ≡ size ++ content

-- a size, a count no greater, and the octets of so many items: the size is that of all behind it (part 1, 1.2.3)
pub record IsCounted (width : SizeWidth) (octets : List ℕ) (n : ℕ) (body : List ℕ) : Type 0 where
  pub count : List ℕ
  pub says : IsNumber (size_len width) count n
  pub sized : IsSized width octets (count ++ body)
  pub few : n ≤ length (count ++ body)

-- n items, one after the other (part 1, 1.2.3)
abbrev pub AreItems : (List ℕ → Part → Type 0) → ℕ → List ℕ → Type 0
AreItems IsItem zero octets = octets ≡ []
AreItems IsItem (suc n) octets =
    (first : List ℕ) × (rest : List ℕ) × (part : Part) × (octets ≡ first ++ rest) × IsItem first part × AreItems IsItem n rest

-- the items of a map are keys and values in turn (part 1, 1.6.23)
abbrev pub ArePaired : Kind → ℕ → Type 0
ArePaired kinds.List n = Unit {0}
ArePaired kinds.Map n = n % 2 ≡ 0

-- the data of a list or a map (part 1, 1.2.3, 1.6.22 and 1.6.23)
pub record IsNested (IsItem : List ℕ → Part → Type 0) (kind : Kind) (width : SizeWidth) (octets : List ℕ) (part : Part) : Type 0 where
  pub n : ℕ
  pub body : List ℕ
  pub counted : IsCounted width octets n body
  pub paired : ArePaired kind n
  pub items : AreItems IsItem n body
  pub is : part ≡ Nested kind n body

-- elements: their constructor, and then the data of each (part 1, 1.2.4)
pub record AreElements (IsConstructor : List ℕ → Constructor → Type 0) (IsElement : Constructor → List ℕ → Part → Type 0) (n : ℕ) (octets : List ℕ) (part : Part) : Type 0 where
  pub constructor : Constructor
  pub elements : List ℕ
  pub parts : octets ≡ constructor.octets ++ elements
  pub constructor_is : IsConstructor constructor.octets constructor
  pub each : AreItems (IsElement constructor) n elements
  pub is : part ≡ Array (Some constructor) n elements

-- the data of an array: an empty one may end behind its count (part 1, 1.2.4 and 1.6.24)
pub record IsArray (IsConstructor : List ℕ → Constructor → Type 0) (IsElement : Constructor → List ℕ → Part → Type 0) (width : SizeWidth) (octets : List ℕ) (part : Part) : Type 0 where
  pub n : ℕ
  pub body : List ℕ
  pub counted : IsCounted width octets n body
  pub elements : ((n ≡ 0) × (body ≡ []) × (part ≡ Array None 0 [])) ⊎ AreElements IsConstructor IsElement n body part

-- a descriptor, and the value that it describes (part 1, 1.1.2 and 1.2)
pub record IsDescribed (IsInner : List ℕ → Part → Type 0) (octets : List ℕ) (part : Part) : Type 0 where
  pub descriptor : List ℕ
  pub described : List ℕ
  pub parts : octets ≡ descriptor ++ described
  pub descriptor_says : Part
  pub descriptor_is : IsInner descriptor descriptor_says
  pub described_says : Part
  pub described_is : IsInner described described_says
  pub is : part ≡ Described descriptor described

-- a code, and what belongs behind it (part 1, 1.2)
abbrev pub IsCoded : (Code → List ℕ → Part → Type 0) → List ℕ → Part → Type 0
IsCoded IsBehind [] part = ⊥
IsCoded IsBehind (b ∷ octets) part = (code : Code) × (code_of b ≡ Some code) × IsBehind code octets part

-- a constructor that is a format code, which no descriptor follows (part 1, 1.2)
pub record IsCode (octets : List ℕ) (c : Constructor) : Type 0 where
  pub first : ℕ
  pub code : Code
  pub known : code_of first ≡ Some code
  pub primitive : is_described code ≡ false
  pub parts : octets ≡ first ∷ []
  pub is : c ≡ code_alone first code

-- a constructor that is a descriptor and another constructor (part 1, 1.2)
pub record IsTagged (IsInner : List ℕ → Part → Type 0) (IsConstructor : List ℕ → Constructor → Type 0) (octets : List ℕ) (c : Constructor) : Type 0 where
  pub first : ℕ
  pub descriptor : List ℕ
  pub descriptor_says : Part
  pub inner : Constructor
  pub known : code_of first ≡ Some codes.Described
  pub descriptor_is : IsInner descriptor descriptor_says
  pub inner_is : IsConstructor inner.octets inner
  pub parts : octets ≡ first ∷ (descriptor ++ inner.octets)
  pub is : c ≡ code_behind first descriptor inner

-- the data of an element, whose constructor may describe it: data is what belongs behind so many descriptors and a code (part 1, 1.2.4)
pub record IsElementBy (IsBehind : ℕ → Code → List ℕ → Part → Type 0) (c : Constructor) (octets : List ℕ) (part : Part) : Type 0 where
  pub says : Part
  pub behind : IsBehind c.tags c.code octets says
  pub is : part ≡ tagged c.tag octets says

-- what belongs behind a code, by what is nested in it (part 1, 1.2)
abbrev pub IsDataBy : (List ℕ → Part → Type 0) → (List ℕ → Constructor → Type 0) → (Constructor → List ℕ → Part → Type 0) → Code → List ℕ → Part → Type 0
IsDataBy IsInner IsConstructor IsElement (codes.Fixed scalar) octets part = IsScalar scalar octets part
IsDataBy IsInner IsConstructor IsElement (codes.Sized text width) octets part =
    (content : List ℕ) × IsSized width octets content × IsText text content × (part ≡ Sized text content)
IsDataBy IsInner IsConstructor IsElement codes.EmptyList octets part = (octets ≡ []) × (part ≡ Nested kinds.List 0 [])
IsDataBy IsInner IsConstructor IsElement (codes.Nested kind width) octets part = IsNested IsInner kind width octets part
IsDataBy IsInner IsConstructor IsElement (codes.Array width) octets part = IsArray IsConstructor IsElement width octets part
IsDataBy IsInner IsConstructor IsElement codes.Described octets part = IsDescribed IsInner octets part

unfoldable mutual
  -- what belongs behind so many descriptors and a code, where so many levels are left, that of the first descriptor included (part 1, 1.2)
  pub IsData : ℕ → ℕ → Code → List ℕ → Part → Type 0
  IsData zero tags code octets part = ⊥
  IsData (suc levels) zero code octets part =
      IsDataBy (IsCoded (IsData levels zero)) (IsConstructor levels) (IsElementBy (IsData levels)) code octets part
  IsData (suc levels) (suc tags) code octets part = IsData levels tags code octets part

  -- a constructor, where so many levels are left, that of its element included (part 1, 1.2)
  pub IsConstructor : ℕ → List ℕ → Constructor → Type 0
  IsConstructor zero octets c = ⊥
  IsConstructor (suc levels) octets c =
      IsCode octets c ⊎ IsTagged (IsCoded (IsData levels zero)) (IsConstructor levels) octets c

-- a whole value, nested no deeper than so many levels (part 1, 1.2)
unfoldable pub IsValue : ℕ → List ℕ → Part → Type 0
IsValue levels octets part = IsCoded (IsData levels zero) octets part

-- an element of an array, nested no deeper than so many levels: its octets are its data alone (part 1, 1.2.4)
unfoldable pub IsElement : ℕ → Constructor → List ℕ → Part → Type 0
IsElement levels c octets part = IsElementBy (IsData levels) c octets part

-- an element where there is a constructor, else a value of its own
abbrev pub IsItem : ℕ → Option Constructor → List ℕ → Part → Type 0
IsItem levels None octets part = IsValue levels octets part
IsItem levels (Some c) octets part = IsElement levels c octets part

-- a value at the front of the input, nested no deeper than so many levels, and what is behind it
pub record IsFront (levels : ℕ) (bytes : List ℕ) (value : Seen) (rest : List ℕ) : Type 0 where
  pub parts : bytes ≡ value.octets ++ rest
  pub is : IsValue levels value.octets value.part

-- the value that some octets are, where there are any
abbrev pub IsValueOf : Option (List ℕ) → Option Seen → Type 0
IsValueOf None None = Unit {0}
IsValueOf None (Some value) = ⊥
IsValueOf (Some octets) None = ⊥
IsValueOf (Some octets) (Some value) = (value.octets ≡ octets) × IsValue MAX_DEPTH octets value.part

-- the value that a descriptor describes: a value of its own, or the data of one whose constructor lies apart
abbrev pub IsDescribedOf : Part → Option Seen → Type 0
IsDescribedOf (Described descriptor described) value = IsValueOf (Some described) value
IsDescribedOf (Tagged descriptor constructor octets) None = ⊥
IsDescribedOf (Tagged descriptor constructor octets) (Some value) =
    (value.octets ≡ octets) × ((c : Constructor) × IsConstructor MAX_DEPTH constructor c × IsElement MAX_DEPTH c octets value.part)
IsDescribedOf other value = value ≡ None

-- values that lie one after the other: so many, and the octets are theirs
pub record AreOf (Is : List ℕ → Part → Type 0) (n : ℕ) (octets : List ℕ) (values : List Seen) : Type 0 where
  pub count : length values ≡ n
  pub joined : flat_map (λ value. value.octets) values ≡ octets
  pub each : All (λ value. Is value.octets value.part) values

-- the same of values that have their own constructors
abbrev pub AreValuesOf : ℕ → List ℕ → List Seen → Type 0
AreValuesOf n octets values = AreOf (IsValue MAX_DEPTH) n octets values

-- the values in a list, a map or an array: as many as its count says, and its octets are theirs; another value holds none (part 1, 1.2.3 and 1.2.4)
abbrev pub AreItemsOf : Part → List Seen → Type 0
AreItemsOf (Nested kind n octets) values = AreValuesOf n octets values
AreItemsOf (Array form n octets) values = AreOf (IsItem MAX_DEPTH form) n octets values
AreItemsOf other values = values ≡ []
