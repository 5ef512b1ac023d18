-- Written forms with known octets.
use Rattle.std.specs.Prelude.{◌≡◌, true, false, [], ◌∷◌, refl}
use Rattle.amqp_types.specs.declared.code.Text.TheVariants as texts
use Rattle.amqp_types.specs.Writing.{boolean_octets, ushort_octets, uint_octets, ulong_octets, text_octets, list_octets}

-- each boolean is its code alone
booleans : (boolean_octets true ≡ 0x41 ∷ []) × (boolean_octets false ≡ 0x42 ∷ [])
unfolding boolean_octets
booleans = (refl, refl)

-- the greatest number that the router calls its windows by
window : uint_octets 2147483647 ≡ 0x70 ∷ 0x7F ∷ 0xFF ∷ 0xFF ∷ 0xFF ∷ []
unfolding uint_octets
window = refl

-- one octet up to 255, and then four
uints : (uint_octets 0 ≡ 0x43 ∷ []) × (uint_octets 255 ≡ 0x52 ∷ 0xFF ∷ []) × (uint_octets 256 ≡ 0x70 ∷ 0 ∷ 0 ∷ 1 ∷ 0 ∷ [])
unfolding uint_octets
uints = (refl, refl, refl)

-- one octet up to 255, and then eight
ulongs : (ulong_octets 0 ≡ 0x44 ∷ []) × (ulong_octets 255 ≡ 0x53 ∷ 0xFF ∷ []) × (ulong_octets 16777216 ≡ 0x80 ∷ 0 ∷ 0 ∷ 0 ∷ 0 ∷ 1 ∷ 0 ∷ 0 ∷ 0 ∷ [])
unfolding ulong_octets
ulongs = (refl, refl, refl)

-- an ushort has two octets, however small it is
channel : ushort_octets 255 ≡ 0x60 ∷ 0x00 ∷ 0xFF ∷ []
unfolding ushort_octets
channel = refl

-- a container id
router : text_octets texts.Str (0x61 ∷ 0x6D ∷ 0x71 ∷ 0x70 ∷ []) ≡ 0xA1 ∷ 4 ∷ 0x61 ∷ 0x6D ∷ 0x71 ∷ 0x70 ∷ []
unfolding text_octets
router = refl

-- no items; and the one field of a modified state, a delivery that failed
lists : (list_octets 0 [] ≡ 0x45 ∷ []) × (list_octets 1 (0x41 ∷ []) ≡ 0xC0 ∷ 0x02 ∷ 0x01 ∷ 0x41 ∷ [])
unfolding list_octets
lists = (refl, refl)
