-- How the octets of a value lie behind its first one.
use Rattle.std.specs.Prelude.{ℕ, Option, option_map}
use Rattle.amqp_types.specs.declared.code.Scalar.{Scalar}
use Rattle.amqp_types.specs.declared.code.Scalar.TheVariants as scalars
use Rattle.amqp_types.specs.declared.code.Code.{Code}
use Rattle.amqp_types.specs.declared.code.Code.TheVariants as codes
use Rattle.amqp_types.specs.Codes.{code_of, width_of}
use Rattle.amqp_cuts.specs.declared.layout.Layout.{Layout}
use Rattle.amqp_cuts.specs.declared.layout.Layout.TheVariants.{Fixed, Boolean, UlongOctet, Ulong, Sized, Nested, Array, Described}

-- of a type of fixed width (part 1, 1.2.1)
abbrev pub layout_of_scalar : Scalar → Layout
layout_of_scalar scalars.Boolean = Boolean
layout_of_scalar scalars.UlongOctet = UlongOctet
layout_of_scalar scalars.Ulong = Ulong
layout_of_scalar other = Fixed (width_of other)

-- by what the first octet says (part 1, 1.2 and 1.6)
abbrev pub layout_of_code : Code → Layout
layout_of_code (codes.Fixed scalar) = layout_of_scalar scalar
layout_of_code (codes.Sized text width) = Sized text width
layout_of_code codes.EmptyList = Fixed 0
layout_of_code (codes.Nested kind width) = Nested kind width
layout_of_code (codes.Array width) = Array width
layout_of_code codes.Described = Described

-- by the first octet
abbrev pub layout_of : ℕ → Option Layout
layout_of b = option_map layout_of_code (code_of b)
