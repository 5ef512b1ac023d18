-- The table of format codes (part 1, 1.6).
use Rattle.std.specs.Prelude.{ℕ, Bool, true, false, Option, Some, None, option_map, ◌==◌, if◌then◌else◌}
use Rattle.amqp_types.specs.declared.code.Scalar.{Scalar}
use Rattle.amqp_types.specs.declared.code.Scalar.TheVariants as scalars
use Rattle.amqp_types.specs.declared.code.Opaque.{Opaque}
use Rattle.amqp_types.specs.declared.code.Opaque.TheVariants as opaques
use Rattle.amqp_types.specs.declared.code.Text.TheVariants as texts
use Rattle.amqp_types.specs.declared.code.Kind.TheVariants as kinds
use Rattle.amqp_types.specs.declared.code.SizeWidth.{SizeWidth}
use Rattle.amqp_types.specs.declared.code.SizeWidth.TheVariants.{One, Four}
use Rattle.amqp_types.specs.declared.code.Code.{Code}
use Rattle.amqp_types.specs.declared.code.Code.TheVariants.{Fixed, Sized, EmptyList, Nested, Array, Described}

-- the type of fixed width that the first octet of a value names (part 1, 1.6.1 to 1.6.18)
unfoldable pub scalar_of_code : ℕ → Option Scalar
scalar_of_code b =
    if b == 0x40 then Some scalars.Null else
    if b == 0x41 then Some scalars.True else
    if b == 0x42 then Some scalars.False else
    if b == 0x43 then Some scalars.UintZero else
    if b == 0x44 then Some scalars.UlongZero else
    if b == 0x50 then Some scalars.Ubyte else
    if b == 0x51 then Some scalars.Byte else
    if b == 0x52 then Some scalars.UintOctet else
    if b == 0x53 then Some scalars.UlongOctet else
    if b == 0x54 then Some scalars.IntOctet else
    if b == 0x55 then Some scalars.LongOctet else
    if b == 0x56 then Some scalars.Boolean else
    if b == 0x60 then Some scalars.Ushort else
    if b == 0x61 then Some scalars.Short else
    if b == 0x70 then Some scalars.Uint else
    if b == 0x71 then Some scalars.Int else
    if b == 0x72 then Some (scalars.Opaque opaques.Float) else
    if b == 0x73 then Some (scalars.Opaque opaques.Char) else
    if b == 0x74 then Some (scalars.Opaque opaques.Decimal32) else
    if b == 0x80 then Some scalars.Ulong else
    if b == 0x81 then Some scalars.Long else
    if b == 0x82 then Some (scalars.Opaque opaques.Double) else
    if b == 0x83 then Some (scalars.Opaque opaques.Timestamp) else
    if b == 0x84 then Some (scalars.Opaque opaques.Decimal64) else
    if b == 0x94 then Some (scalars.Opaque opaques.Decimal128) else
    if b == 0x98 then Some (scalars.Opaque opaques.Uuid) else None

-- whether any octets may be the data: a boolean's is 0 or 1 (part 1, 1.6.2)
abbrev pub takes_any : Scalar → Bool
takes_any scalars.Boolean = false
takes_any other = true

-- what the first octet of a value says (part 1, 1.2 and 1.6)
unfoldable pub code_of : ℕ → Option Code
code_of b =
    if b == 0x00 then Some Described else
    if b == 0x45 then Some EmptyList else
    if b == 0xA0 then Some (Sized texts.Binary One) else
    if b == 0xA1 then Some (Sized texts.Str One) else
    if b == 0xA3 then Some (Sized texts.Symbol One) else
    if b == 0xB0 then Some (Sized texts.Binary Four) else
    if b == 0xB1 then Some (Sized texts.Str Four) else
    if b == 0xB3 then Some (Sized texts.Symbol Four) else
    if b == 0xC0 then Some (Nested kinds.List One) else
    if b == 0xC1 then Some (Nested kinds.Map One) else
    if b == 0xD0 then Some (Nested kinds.List Four) else
    if b == 0xD1 then Some (Nested kinds.Map Four) else
    if b == 0xE0 then Some (Array One) else
    if b == 0xF0 then Some (Array Four) else
    option_map (λ scalar. Fixed scalar) (scalar_of_code b)

-- how many octets a type has whose data is kept as it is (part 1, 1.6.11 to 1.6.18)
abbrev pub opaque_width : Opaque → ℕ
opaque_width opaques.Float = 4
opaque_width opaques.Double = 8
opaque_width opaques.Decimal32 = 4
opaque_width opaques.Decimal64 = 8
opaque_width opaques.Decimal128 = 16
opaque_width opaques.Char = 4
opaque_width opaques.Timestamp = 8
opaque_width opaques.Uuid = 16

-- how many octets of data a type of fixed width has (part 1, 1.2.1)
abbrev pub width_of : Scalar → ℕ
width_of scalars.Null = 0
width_of scalars.True = 0
width_of scalars.False = 0
width_of scalars.Boolean = 1
width_of scalars.Ubyte = 1
width_of scalars.Ushort = 2
width_of scalars.UintZero = 0
width_of scalars.UintOctet = 1
width_of scalars.Uint = 4
width_of scalars.UlongZero = 0
width_of scalars.UlongOctet = 1
width_of scalars.Ulong = 8
width_of scalars.Byte = 1
width_of scalars.Short = 2
width_of scalars.IntOctet = 1
width_of scalars.Int = 4
width_of scalars.LongOctet = 1
width_of scalars.Long = 8
width_of (scalars.Opaque opaque) = opaque_width opaque

-- how many octets a size or a count has (part 1, 1.2.2 and 1.2.3)
abbrev pub size_len : SizeWidth → ℕ
size_len One = 1
size_len Four = 4

-- whether a code says that a descriptor follows (part 1, 1.2)
abbrev pub is_described : Code → Bool
is_described (Fixed scalar) = false
is_described (Sized text width) = false
is_described EmptyList = false
is_described (Nested kind width) = false
is_described (Array width) = false
is_described Described = true
