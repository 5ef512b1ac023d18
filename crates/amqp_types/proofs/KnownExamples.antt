-- What was read before, by examples: constructors that are kept as their octets, values whose first octet gives their
-- length, and what simple values say.
use Rattle.std.proofs.Common.{◌≡◌, refl, false, [], ◌∷◌, Some, None, Ok, inl, inr}
use Rattle.amqp_types.specs.declared.code.Code.TheVariants.{Fixed}
use Rattle.amqp_types.specs.declared.code.Scalar.TheVariants as scalars
use Rattle.amqp_types.specs.Codes.{code_of, scalar_of_code, takes_any}
use Rattle.amqp_types.specs.declared.code.Kind.TheVariants as kinds
use Rattle.amqp_types.specs.declared.code.SizeWidth.TheVariants.{One}
use Rattle.amqp_types.specs.Part.{Part, Null, Uint, Ulong, Sized, Nested, Described, Seen}
use Rattle.amqp_types.specs.Listed.{IsList, listed, listed_in}
use Rattle.amqp_types.specs.declared.code.Text.TheVariants as texts
use Rattle.amqp_types.specs.declared.simple.Simple.TheVariants as simples
use Rattle.amqp_types.specs.Simple.{simple_in, simple_first, behind_simple, simple_data, simple_value, uint_said, boolean_said, wanted, first_wanted, behind_wanted}
use Rattle.amqp_types.specs.Items.{IsPlain, behind, constructor_in, seen_of, items_in}
use Rattle.amqp_types.specs.Reading.{constructor_at, constructor_by, described_at, nested_at, counted_at, sized_at, text_at, is_text, items_at, item_at, seen_by, seen_at, value_at, value_by, coded_at, data_at, data_by, fixed_at, octets_at, scalar_of}

-- ---- the constructor that octets are

-- an int's
int_constructor : constructor_in (0x71 ∷ []) ≡ Some (record { octets = 0x71 ∷ []; tags = 0; code = Fixed scalars.Int; tag = None })
unfolding constructor_in constructor_at constructor_by code_of scalar_of_code
int_constructor = refl

-- nothing is none, nor is one with an octet behind it, nor a first octet that stands for no type
no_octets : constructor_in [] ≡ None
unfolding constructor_in constructor_at
no_octets = refl

octet_behind : constructor_in (0x71 ∷ 0x00 ∷ []) ≡ None
unfolding constructor_in constructor_at constructor_by code_of scalar_of_code
octet_behind = refl

no_type : constructor_in (0x3F ∷ []) ≡ None
unfolding constructor_in constructor_at constructor_by code_of scalar_of_code
no_type = refl

-- ---- values whose first octet gives their length

-- an int has four octets behind it
int_plain : IsPlain 0x71 4
unfolding IsPlain code_of scalar_of_code
int_plain = inr (scalars.Int, refl, refl, refl)

-- a list without items has none
empty_list_plain : IsPlain 0x45 0
unfolding IsPlain code_of
empty_list_plain = inl (refl, refl)

-- a boolean of one octet takes 0 and 1 alone
boolean_takes_some : takes_any scalars.Boolean ≡ false
boolean_takes_some = refl

-- behind an int of any octets stands what is behind its four
int_passed : behind (seen_at 32 0 (0x71 ∷ 0xFF ∷ 0x00 ∷ 0xFF ∷ 0x00 ∷ 0x40 ∷ [])) ≡ Ok (0x40 ∷ [])
unfolding seen_at value_at value_by coded_at code_of scalar_of_code data_at data_by fixed_at octets_at scalar_of
int_passed = refl

-- ---- values that are null, a boolean or a number without a sign

-- an uint is one, and a symbol is none
uint_simple : simple_in (Uint 7) ≡ Some (simples.Uint 7)
uint_simple = refl

symbol_other : simple_in (Sized texts.Symbol []) ≡ None
symbol_other = refl

abbrev part_alone : Part → Seen
part_alone part = record { octets = []; part = part }

-- of null in front of a symbol the null is given, and then the symbol is left
null_first : simple_first (part_alone Null ∷ part_alone (Sized texts.Symbol []) ∷ []) ≡ Some simples.Null
null_first = refl

null_taken : behind_simple (part_alone Null ∷ part_alone (Sized texts.Symbol []) ∷ []) ≡ part_alone (Sized texts.Symbol []) ∷ []
null_taken = refl

symbol_first : simple_first (part_alone (Sized texts.Symbol []) ∷ []) ≡ None
symbol_first = refl

symbol_left : behind_simple (part_alone (Sized texts.Symbol []) ∷ []) ≡ part_alone (Sized texts.Symbol []) ∷ []
symbol_left = refl

-- what is behind a value that was read is given with it
uint_value : simple_value (seen_at 32 0 (0x52 ∷ 0x07 ∷ 0x40 ∷ [])) ≡ Some (simples.Uint 7, 0x40 ∷ [])
unfolding seen_at value_at value_by coded_at code_of scalar_of_code data_at data_by fixed_at octets_at scalar_of
uint_value = refl

uint_data : simple_data (fixed_at scalars.UintOctet 0 (0x07 ∷ 0x40 ∷ [])) ≡ Some (simples.Uint 7, 0x40 ∷ [])
unfolding fixed_at octets_at scalar_of
uint_data = refl

-- nothing is given of octets that are no value
no_value : simple_value (seen_at 32 0 (0x52 ∷ [])) ≡ None
unfolding seen_at value_at value_by coded_at code_of scalar_of_code data_at data_by fixed_at octets_at scalar_of
no_value = refl

-- ---- what is wanted of values

-- null says no number and no boolean, and a value of the other type says nothing
numbers_said : (uint_said simples.Null ≡ Some None) × (uint_said (simples.Uint 7) ≡ Some (Some 7)) × (uint_said (simples.Boolean false) ≡ None)
numbers_said = (refl, refl, refl)

booleans_said : (boolean_said simples.Null ≡ Some None) × (boolean_said (simples.Boolean false) ≡ Some (Some false)) × (boolean_said (simples.Uint 7) ≡ None)
booleans_said = (refl, refl, refl)

-- an uint is given and the symbol behind it left; of a null in front of it no boolean; of the symbol nothing
uint_wanted : first_wanted uint_said (part_alone (Uint 7) ∷ part_alone (Sized texts.Symbol []) ∷ []) ≡ Some (Some 7)
uint_wanted = refl

uint_behind : behind_wanted uint_said (part_alone (Uint 7) ∷ part_alone (Sized texts.Symbol []) ∷ []) ≡ part_alone (Sized texts.Symbol []) ∷ []
uint_behind = refl

null_wanted : first_wanted boolean_said (part_alone Null ∷ []) ≡ Some None
null_wanted = refl

symbol_wanted : first_wanted uint_said (part_alone (Sized texts.Symbol []) ∷ []) ≡ None
symbol_wanted = refl

uint_is_no_boolean : behind_wanted boolean_said (part_alone (Uint 7) ∷ []) ≡ part_alone (Uint 7) ∷ []
uint_is_no_boolean = refl

nothing_wanted : (first_wanted uint_said [] ≡ None) × (behind_wanted uint_said [] ≡ [])
nothing_wanted = (refl, refl)

-- what is behind the value is given with it
wanted_with : (wanted uint_said (Some (simples.Uint 7, 0x40 ∷ [])) ≡ Some (Some 7, 0x40 ∷ [])) × (wanted uint_said (Some (simples.Boolean false, 0x40 ∷ [])) ≡ None) × (wanted uint_said None ≡ None)
wanted_with = (refl, refl, refl)

-- ---- described lists

-- the ulong 0x24 and a list without items
accepted : seen_at 32 0 (0x00 ∷ 0x53 ∷ 0x24 ∷ 0x45 ∷ 0x40 ∷ []) ≡ Ok (record { octets = 0x00 ∷ 0x53 ∷ 0x24 ∷ 0x45 ∷ []; part = Described (0x53 ∷ 0x24 ∷ []) (0x45 ∷ []) }, 0x40 ∷ [])
unfolding seen_at value_at value_by coded_at code_of scalar_of_code data_at data_by described_at seen_by fixed_at octets_at scalar_of
accepted = refl

accepted_listed : listed (Ok (part_alone (Described (0x53 ∷ 0x24 ∷ []) (0x45 ∷ [])), 0x40 ∷ [])) ≡ Ok (Some (record { octets = 0x53 ∷ 0x24 ∷ []; part = Ulong 0x24 }, []), 0x40 ∷ [])
unfolding seen_of items_in seen_at value_at value_by coded_at code_of scalar_of_code data_at data_by fixed_at octets_at scalar_of
accepted_listed = refl

-- a described symbol is no list, nor is a list without a descriptor; a fault stays
not_listed : (listed_in (Described (0x53 ∷ 0x24 ∷ []) (0xA3 ∷ 0x00 ∷ [])) ≡ None) × (listed_in (Nested kinds.List 0 []) ≡ None)
unfolding seen_of seen_at value_at value_by coded_at code_of scalar_of_code data_at data_by fixed_at text_at sized_at octets_at is_text scalar_of
not_listed = (refl, refl)

-- a list of one null with an octet behind it
one_null : IsList 0xC0 (0x02 ∷ 0x01 ∷ 0x40 ∷ 0x43 ∷ []) 1 (0x40 ∷ []) (0x43 ∷ [])
unfolding IsList code_of nested_at counted_at sized_at octets_at items_at item_at seen_at value_at value_by coded_at scalar_of_code data_at data_by fixed_at scalar_of
one_null = (One, refl, refl)
