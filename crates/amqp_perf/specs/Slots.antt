-- The fields of a described list as they are written: each in its shortest form and in its place, up to the last that
-- is there.
use Rattle.std.specs.Prelude.{ℕ, ◌+◌, ◌<◌, ◌^◌, Bool, List, [], ◌∷◌, map, length, Option, Some, None, unwrap_or}
use Rattle.std.specs.List.{flat_map}
use Rattle.amqp_types.specs.declared.code.Text.{Text}
use Rattle.amqp_types.specs.Part.{Part, Null, Boolean, Ubyte, Ushort, Uint, Ulong, Sized, Seen}
use Rattle.amqp_types.specs.Items.{seen_of}
use Rattle.amqp_types.specs.Grammar.{IsValue, IsText}
use Rattle.amqp_types.specs.Writing.{null_octets, boolean_octets, ubyte_octets, ushort_octets, uint_octets, ulong_octets, text_octets, described_list_octets}

-- null stands for a field that is absent (part 1, 1.4)
abbrev pub null_value : Seen
null_value = record { octets = null_octets; part = Null }

abbrev pub boolean_value : Bool → Seen
boolean_value truth = record { octets = boolean_octets truth; part = Boolean truth }

abbrev pub ubyte_value : ℕ → Seen
ubyte_value n = record { octets = ubyte_octets n; part = Ubyte n }

abbrev pub ushort_value : ℕ → Seen
ushort_value n = record { octets = ushort_octets n; part = Ushort n }

abbrev pub uint_value : ℕ → Seen
uint_value n = record { octets = uint_octets n; part = Uint n }

abbrev pub ulong_value : ℕ → Seen
ulong_value n = record { octets = ulong_octets n; part = Ulong n }

abbrev pub text_value : Text → List ℕ → Seen
text_value text content = record { octets = text_octets text content; part = Sized text content }

-- a value by its octets
abbrev pub kept_value : List ℕ → Seen
kept_value octets = record { octets = octets; part = (seen_of octets).part }

-- absent fields in front of one that is there stand as null
abbrev pub or_null : Option Seen → Seen
or_null field = unwrap_or field null_value

-- absent fields at the end are left out (part 1, 1.4)
abbrev pub used_before : List (Option Seen) → Option Seen → List (Option Seen)
used_before (f ∷ fs) field = field ∷ f ∷ fs
used_before [] (Some value) = Some value ∷ []
used_before [] None = []

abbrev pub used : List (Option Seen) → List (Option Seen)
used [] = []
used (f ∷ fs) = used_before (used fs) f

-- the values that are written
abbrev pub values_of : List (Option Seen) → List Seen
values_of fields = map or_null (used fields)

abbrev pub octets_of : List Seen → List ℕ
octets_of values = flat_map (λ value. value.octets) values

-- a list of these fields that is described by this code (part 1, 1.2 and 1.4)
abbrev pub fields_octets : ℕ → List (Option Seen) → List ℕ
fields_octets code fields = described_list_octets code (length (values_of fields)) (octets_of (values_of fields))

-- ---- what can be written

-- a size has at most four octets (part 1, 1.2.2)
abbrev pub IsShort : List ℕ → Type 0
IsShort content = length content < 2 ^ 32

-- the fields of a list: the size counts the octets of the count too (part 1, 1.2.3)
abbrev pub AreShort : List (Option Seen) → Type 0
AreShort fields = length (octets_of (values_of fields)) + 4 < 2 ^ 32

-- a text is what its type says, and its size can be said
abbrev pub IsShortPart : Part → Type 0
IsShortPart (Sized text content) = IsShort content × IsText text content
IsShortPart other = Unit {0}

-- a field that can be written where so many levels are left
abbrev pub CanStand : ℕ → Option Seen → Type 0
CanStand levels None = Unit {0}
CanStand levels (Some value) = IsValue levels value.octets value.part × IsShortPart value.part

abbrev pub AllCanStand : ℕ → List (Option Seen) → Type 0
AllCanStand levels [] = Unit {0}
AllCanStand levels (f ∷ fs) = CanStand levels f × AllCanStand levels fs
