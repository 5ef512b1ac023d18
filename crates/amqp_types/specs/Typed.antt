-- What a value says at a type that is asked for.
use Rattle.std.specs.Prelude.{ℕ, ℤ, Bool, true, false, List, Option, Some, None}
use Rattle.amqp_types.specs.declared.code.Text.TheVariants as texts
use Rattle.amqp_types.specs.declared.code.Kind.TheVariants as kinds
use Rattle.amqp_types.specs.declared.code.Opaque.{Opaque}
use Rattle.amqp_types.specs.Part as parts
use Rattle.amqp_types.specs.Part.{Part, Null, Boolean, Ubyte, Ushort, Uint, Ulong, Kept, Sized, Nested, Array, Seen}
use Rattle.amqp_types.specs.Items.{seen_in, items_in}

-- whether a value is null (part 1, 1.6.1)
abbrev pub says_null : Part → Bool
says_null Null = true
says_null other = false

-- a boolean (part 1, 1.6.2)
abbrev pub boolean_in : Part → Option Bool
boolean_in (Boolean b) = Some b
boolean_in other = None

-- an ubyte (part 1, 1.6.3)
abbrev pub ubyte_in : Part → Option ℕ
ubyte_in (Ubyte n) = Some n
ubyte_in other = None

-- an ushort (part 1, 1.6.4)
abbrev pub ushort_in : Part → Option ℕ
ushort_in (Ushort n) = Some n
ushort_in other = None

-- an uint (part 1, 1.6.5)
abbrev pub uint_in : Part → Option ℕ
uint_in (Uint n) = Some n
uint_in other = None

-- an ulong (part 1, 1.6.6)
abbrev pub ulong_in : Part → Option ℕ
ulong_in (Ulong n) = Some n
ulong_in other = None

-- a byte (part 1, 1.6.7)
abbrev pub byte_in : Part → Option ℤ
byte_in (parts.Byte n) = Some n
byte_in other = None

-- a short (part 1, 1.6.8)
abbrev pub short_in : Part → Option ℤ
short_in (parts.Short n) = Some n
short_in other = None

-- an int (part 1, 1.6.9)
abbrev pub int_in : Part → Option ℤ
int_in (parts.Int n) = Some n
int_in other = None

-- a long (part 1, 1.6.10)
abbrev pub long_in : Part → Option ℤ
long_in (parts.Long n) = Some n
long_in other = None

-- a value whose data is kept as it is, and that data (part 1, 1.6.11 to 1.6.18)
abbrev pub opaque_in : Part → Option (Opaque × List ℕ)
opaque_in (Kept opaque octets) = Some (opaque, octets)
opaque_in other = None

-- a binary (part 1, 1.6.19)
abbrev pub binary_in : Part → Option (List ℕ)
binary_in (Sized texts.Binary octets) = Some octets
binary_in other = None

-- a string, in UTF-8 (part 1, 1.6.20)
abbrev pub str_in : Part → Option (List ℕ)
str_in (Sized texts.Str octets) = Some octets
str_in other = None

-- a symbol, in ASCII (part 1, 1.6.21)
abbrev pub symbol_in : Part → Option (List ℕ)
symbol_in (Sized texts.Symbol octets) = Some octets
symbol_in other = None

-- the items of a list (part 1, 1.6.22)
abbrev pub list_in : Part → Option (List Seen)
list_in (Nested kinds.List n octets) = Some (seen_in n octets)
list_in other = None

-- the keys and values of a map, in turn (part 1, 1.6.23)
abbrev pub map_in : Part → Option (List Seen)
map_in (Nested kinds.Map n octets) = Some (seen_in n octets)
map_in other = None

-- the elements of an array (part 1, 1.6.24)
abbrev pub array_in : Part → Option (List Seen)
array_in (Array form n octets) = Some (items_in form n octets)
array_in other = None
