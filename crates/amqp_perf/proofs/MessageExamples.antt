-- The address of a message, by examples: each demand that is met, and each that alone is not.
use Rattle.std.proofs.Common.{◌≡◌, refl, ℕ, List, [], ◌∷◌, ◌++◌, Some, None, codes}
use Rattle.std.proofs.Math.ListN.{replicate}
use Rattle.std.specs.Str.{is_utf8, chars}
use lib.Utf8.{encode}
use Rattle.amqp_types.specs.declared.code.Kind.TheVariants as kinds
use Rattle.amqp_types.specs.declared.code.Text.TheVariants as texts
use Rattle.amqp_types.specs.Part.{Part, Null, Uint, Ulong, Sized, Nested, Described, Seen}
use Rattle.amqp_types.specs.Codes.{code_of, scalar_of_code}
use Rattle.amqp_types.specs.Items.{seen_of, items_in}
use Rattle.amqp_types.specs.Reading.{seen_at, value_at, value_by, coded_at, data_at, data_by, fixed_at, octets_at, scalar_of, described_at, nested_at, counted_at, sized_at, text_at, is_text, items_at, item_at, seen_by}
use Rattle.amqp_perf.specs.declared.message.Section.TheVariants.{Header, DeliveryAnnotations, MessageAnnotations, Properties}
use Rattle.amqp_perf.specs.Message.{section_of_code, section_of_name, section_named, section_says, section_in, address_of, address_in_properties, address_within, to_of, IsFor}
use Rattle.amqp_perf.proofs.Messages.{found_in, for_it}

-- ---- the section that a descriptor names

-- by its number, and no number in front of them or behind them
header_number : section_named (Ulong 0x70) ≡ Some Header
unfolding section_of_code
header_number = refl

delivery_annotations_number : section_named (Ulong 0x71) ≡ Some DeliveryAnnotations
unfolding section_of_code
delivery_annotations_number = refl

message_annotations_number : section_named (Ulong 0x72) ≡ Some MessageAnnotations
unfolding section_of_code
message_annotations_number = refl

properties_number : section_named (Ulong 0x73) ≡ Some Properties
unfolding section_of_code
properties_number = refl

number_in_front : section_named (Ulong 0x6F) ≡ None
unfolding section_of_code
number_in_front = refl

application_properties_number : section_named (Ulong 0x74) ≡ None
unfolding section_of_code
application_properties_number = refl

-- by its name, and by no other
header_name : section_named (Sized texts.Symbol (codes "amqp:header:list")) ≡ Some Header
unfolding section_of_name
header_name = refl

delivery_annotations_name : section_named (Sized texts.Symbol (codes "amqp:delivery-annotations:map")) ≡ Some DeliveryAnnotations
unfolding section_of_name
delivery_annotations_name = refl

message_annotations_name : section_named (Sized texts.Symbol (codes "amqp:message-annotations:map")) ≡ Some MessageAnnotations
unfolding section_of_name
message_annotations_name = refl

properties_name : section_named (Sized texts.Symbol (codes "amqp:properties:list")) ≡ Some Properties
unfolding section_of_name
properties_name = refl

properties_as_a_map : section_named (Sized texts.Symbol (codes "amqp:properties:map")) ≡ None
unfolding section_of_name
properties_as_a_map = refl

-- an uint is no descriptor, nor is a string
uint_descriptor : section_named (Uint 0x73) ≡ None
uint_descriptor = refl

string_descriptor : section_named (Sized texts.Str (codes "amqp:properties:list")) ≡ None
string_descriptor = refl

-- ---- what a section says

-- a header is passed over, a list or a map, and so are annotations
header_list : section_says Header (Nested kinds.List 0 []) ≡ Some None
header_list = refl

header_map : section_says Header (Nested kinds.Map 0 []) ≡ Some None
header_map = refl

delivery_annotations_map : section_says DeliveryAnnotations (Nested kinds.Map 0 []) ≡ Some None
delivery_annotations_map = refl

delivery_annotations_list : section_says DeliveryAnnotations (Nested kinds.List 0 []) ≡ Some None
delivery_annotations_list = refl

message_annotations_map : section_says MessageAnnotations (Nested kinds.Map 0 []) ≡ Some None
message_annotations_map = refl

message_annotations_list : section_says MessageAnnotations (Nested kinds.List 0 []) ≡ Some None
message_annotations_list = refl

-- properties are a list, and no map
properties_list : section_says Properties (Nested kinds.List 0 []) ≡ Some (Some [])
unfolding items_in
properties_list = refl

properties_map : section_says Properties (Nested kinds.Map 0 []) ≡ None
properties_map = refl

-- a list that nothing describes is no section
described : section_in (Described (0x53 ∷ 0x70 ∷ []) (0x45 ∷ [])) ≡ Some None
unfolding section_of_code seen_of seen_at value_at value_by coded_at code_of scalar_of_code data_at data_by fixed_at octets_at scalar_of
described = refl

not_described : section_in (Nested kinds.List 0 []) ≡ None
not_described = refl

-- ---- an address

-- of 1 octet and of 160, and not of none nor of 161
one_octet : address_of (0x71 ∷ []) ≡ Some (0x71 ∷ [])
one_octet = refl

no_octets : address_of [] ≡ None
no_octets = refl

most_octets : address_of (replicate 160 0x61) ≡ Some (replicate 160 0x61)
most_octets = refl

an_octet_more : address_of (replicate 161 0x61) ≡ None
an_octet_more = refl

-- a value, apart from its octets
abbrev said : Part → Seen
said part = record { octets = []; part = part }

abbrev q : Seen
q = said (Sized texts.Str (codes "q"))

-- the third of the properties, and no other
third : address_in_properties (said Null ∷ said Null ∷ q ∷ said Null ∷ []) ≡ Some (codes "q")
third = refl

second : address_in_properties (said Null ∷ q ∷ []) ≡ None
second = refl

fourth : address_in_properties (said Null ∷ said Null ∷ said Null ∷ q ∷ []) ≡ None
fourth = refl

-- a symbol is none
symbol : address_in_properties (said Null ∷ said Null ∷ said (Sized texts.Symbol (codes "q")) ∷ []) ≡ None
symbol = refl

-- nor is a string of none
empty : address_in_properties (said Null ∷ said Null ∷ said (Sized texts.Str []) ∷ []) ≡ None
empty = refl

-- ---- whole messages

-- properties of null, null and q
abbrev to_q : List ℕ
to_q = 0x00 ∷ 0x53 ∷ 0x73 ∷ 0xC0 ∷ 0x06 ∷ 0x03 ∷ 0x40 ∷ 0x40 ∷ 0xA1 ∷ 0x01 ∷ 0x71 ∷ []

-- the properties are read, whatever is behind them
properties_alone : to_of to_q ≡ Some (codes "q")
unfolding to_of address_within section_of_code seen_of items_in seen_at value_at value_by coded_at code_of scalar_of_code data_at data_by fixed_at octets_at scalar_of described_at nested_at counted_at sized_at text_at is_text items_at item_at seen_by is_utf8 chars encode
properties_alone = refl

fault_behind : to_of (to_q ++ 0xFF ∷ 0x00 ∷ 0x3F ∷ []) ≡ Some (codes "q")
unfolding to_of address_within section_of_code seen_of items_in seen_at value_at value_by coded_at code_of scalar_of_code data_at data_by fixed_at octets_at scalar_of described_at nested_at counted_at sized_at text_at is_text items_at item_at seen_by is_utf8 chars encode
fault_behind = refl

-- past annotations of the message and a header, in this order
passed_over : to_of (0x00 ∷ 0x53 ∷ 0x72 ∷ 0xC1 ∷ 0x01 ∷ 0x00 ∷ 0x00 ∷ 0x53 ∷ 0x70 ∷ 0x45 ∷ to_q) ≡ Some (codes "q")
unfolding to_of address_within section_of_code seen_of items_in seen_at value_at value_by coded_at code_of scalar_of_code data_at data_by fixed_at octets_at scalar_of described_at nested_at counted_at sized_at text_at is_text items_at item_at seen_by is_utf8 chars encode
passed_over = refl

-- not past application-properties, nor past a value at fault, nor past properties without an address
not_passed_over : to_of (0x00 ∷ 0x53 ∷ 0x74 ∷ 0xC1 ∷ 0x01 ∷ 0x00 ∷ to_q) ≡ None
unfolding to_of address_within section_of_code seen_of items_in seen_at value_at value_by coded_at code_of scalar_of_code data_at data_by fixed_at octets_at scalar_of described_at nested_at counted_at sized_at text_at is_text items_at item_at seen_by is_utf8 chars encode
not_passed_over = refl

fault_in_front : to_of (0x00 ∷ 0x53 ∷ 0x70 ∷ 0xC0 ∷ 0x02 ∷ 0x03 ∷ 0x40 ∷ to_q) ≡ None
unfolding to_of address_within section_of_code seen_of items_in seen_at value_at value_by coded_at code_of scalar_of_code data_at data_by fixed_at octets_at scalar_of described_at nested_at counted_at sized_at text_at is_text items_at item_at seen_by is_utf8 chars encode
fault_in_front = refl

properties_in_front : to_of (0x00 ∷ 0x53 ∷ 0x73 ∷ 0x45 ∷ to_q) ≡ None
unfolding to_of address_within section_of_code seen_of items_in seen_at value_at value_by coded_at code_of scalar_of_code data_at data_by fixed_at octets_at scalar_of described_at nested_at counted_at sized_at text_at is_text items_at item_at seen_by is_utf8 chars encode
properties_in_front = refl

-- a header alone has none, nor have no octets
header_alone : to_of (0x00 ∷ 0x53 ∷ 0x70 ∷ 0x45 ∷ []) ≡ None
unfolding to_of address_within section_of_code seen_of items_in seen_at value_at value_by coded_at code_of scalar_of_code data_at data_by fixed_at octets_at scalar_of described_at nested_at counted_at sized_at text_at is_text items_at item_at seen_by is_utf8 chars encode
header_alone = refl

nothing : to_of [] ≡ None
unfolding to_of address_within
nothing = refl

-- ---- what a message is for

-- for q, and for no other address
for_q : IsFor to_q (codes "q")
unfolding to_of
for_q = found_in 11 to_q (codes "q") properties_alone

for_q_alone : (to : List ℕ) → IsFor to_q to → to ≡ codes "q"
for_q_alone to is = cc (properties_alone, for_it to_q to is)

-- past sections
for_q_past : IsFor (0x00 ∷ 0x53 ∷ 0x72 ∷ 0xC1 ∷ 0x01 ∷ 0x00 ∷ 0x00 ∷ 0x53 ∷ 0x70 ∷ 0x45 ∷ to_q) (codes "q")
unfolding to_of
for_q_past = found_in 21 (0x00 ∷ 0x53 ∷ 0x72 ∷ 0xC1 ∷ 0x01 ∷ 0x00 ∷ 0x00 ∷ 0x53 ∷ 0x70 ∷ 0x45 ∷ to_q) (codes "q") passed_over

-- for none
for_none : (to : List ℕ) → IsFor (0x00 ∷ 0x53 ∷ 0x70 ∷ 0x45 ∷ []) to → ⊥
for_none to is = absurd (cc (header_alone, for_it (0x00 ∷ 0x53 ∷ 0x70 ∷ 0x45 ∷ []) to is))
