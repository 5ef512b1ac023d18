-- Passing over values, and where an address lies, by examples: each that passes, and one like it that does not.
use Rattle.std.proofs.Common.{◌≡◌, refl, ℕ, List, [], ◌∷◌, Some, None}
use Rattle.std.proofs.Math.ListN.{replicate}
use Rattle.std.specs.Str.{is_utf8, chars}
use lib.Utf8.{encode}
use Rattle.amqp_types.specs.Codes.{code_of, scalar_of_code}
use Rattle.amqp_types.specs.Reading.{is_text}
use Rattle.amqp_perf.specs.Message.{section_of_code}
use Rattle.amqp_cuts.specs.Offsets.{octet_in, past, sized_in, counted_in}
use Rattle.amqp_cuts.specs.Passing.{past_boolean, past_text, past_items, all_past, past_nested, past_elements, past_array, past_laid, past_value_by, past_data_by, tagged_in, constructor_by, past_data, constructor_in, past_value}
use Rattle.amqp_cuts.specs.Sections.{named_by, named_in, described_in, section_at, list_by, list_at, string_by, string_at, address_at, third_at, to_in, to_within}

-- ---- values that are passed over

-- an uint, up to the end and not beyond it
uint_there : past_value (0x52 ∷ 0x07 ∷ []) 1 0 2 ≡ Some 2
unfolding past_value past_value_by octet_in past_laid code_of scalar_of_code past_data past_data_by past
uint_there = refl

uint_short : past_value (0x52 ∷ 0x07 ∷ []) 1 0 1 ≡ None
unfolding past_value past_value_by octet_in past_laid code_of scalar_of_code past_data past_data_by past
uint_short = refl

-- where a level is left
uint_too_deep : past_value (0x52 ∷ 0x07 ∷ []) 0 0 2 ≡ None
unfolding past_value past_value_by
uint_too_deep = refl

-- no code
no_code : past_value (0x3F ∷ 0x00 ∷ []) 1 0 2 ≡ None
unfolding past_value past_value_by octet_in past_laid code_of scalar_of_code
no_code = refl

-- a boolean that is 1, and one that is 2
boolean_there : past_value (0x56 ∷ 0x01 ∷ []) 1 0 2 ≡ Some 2
unfolding past_value past_value_by octet_in past_laid code_of scalar_of_code past_data past_data_by past_boolean
boolean_there = refl

boolean_other : past_value (0x56 ∷ 0x02 ∷ []) 1 0 2 ≡ None
unfolding past_value past_value_by octet_in past_laid code_of scalar_of_code past_data past_data_by past_boolean
boolean_other = refl

-- a string of one character in two octets, and one that ends within the character
character_whole : past_value (0xA1 ∷ 0x02 ∷ 0xC3 ∷ 0xA9 ∷ 0x40 ∷ []) 1 0 5 ≡ Some 4
unfolding past_value past_value_by octet_in past_laid code_of past_data past_data_by past_text sized_in past is_text is_utf8 chars encode
character_whole = refl

character_cut : past_value (0xA1 ∷ 0x01 ∷ 0xC3 ∷ 0xA9 ∷ 0x40 ∷ []) 1 0 5 ≡ None
unfolding past_value past_value_by octet_in past_laid code_of past_data past_data_by past_text sized_in past is_text is_utf8 chars encode
character_cut = refl

-- a list of two nulls, one with an octet left, and a map of one key alone
list_whole : past_value (0xC0 ∷ 0x03 ∷ 0x02 ∷ 0x40 ∷ 0x40 ∷ []) 2 0 5 ≡ Some 5
unfolding past_value past_value_by octet_in past_laid code_of scalar_of_code past_data past_data_by past_nested counted_in sized_in past past_items all_past
list_whole = refl

list_with_more : past_value (0xC0 ∷ 0x03 ∷ 0x01 ∷ 0x40 ∷ 0x40 ∷ []) 2 0 5 ≡ None
unfolding past_value past_value_by octet_in past_laid code_of scalar_of_code past_data past_data_by past_nested counted_in sized_in past past_items all_past
list_with_more = refl

map_odd : past_value (0xC1 ∷ 0x02 ∷ 0x01 ∷ 0x40 ∷ []) 2 0 4 ≡ None
unfolding past_value past_value_by octet_in past_laid code_of scalar_of_code past_data past_data_by past_nested counted_in sized_in past
map_odd = refl

-- an array of two ubytes, one of three in the same octets, and one without elements and constructor
array_whole : past_value (0xE0 ∷ 0x04 ∷ 0x02 ∷ 0x50 ∷ 0x07 ∷ 0x08 ∷ []) 2 0 6 ≡ Some 6
unfolding past_value past_value_by octet_in past_laid code_of scalar_of_code past_data past_data_by past_array counted_in sized_in past past_elements constructor_in constructor_by past_items all_past
array_whole = refl

array_short : past_value (0xE0 ∷ 0x04 ∷ 0x03 ∷ 0x50 ∷ 0x07 ∷ 0x08 ∷ []) 2 0 6 ≡ None
unfolding past_value past_value_by octet_in past_laid code_of scalar_of_code past_data past_data_by past_array counted_in sized_in past past_elements constructor_in constructor_by past_items all_past
array_short = refl

array_empty : past_value (0xE0 ∷ 0x01 ∷ 0x00 ∷ []) 2 0 3 ≡ Some 3
unfolding past_value past_value_by octet_in past_laid code_of past_data past_data_by past_array counted_in sized_in past past_elements
array_empty = refl

-- an array whose constructor is described
array_described : past_value (0xE0 ∷ 0x06 ∷ 0x01 ∷ 0x00 ∷ 0x53 ∷ 0x07 ∷ 0x50 ∷ 0x08 ∷ []) 3 0 8 ≡ Some 8
unfolding past_value past_value_by octet_in past_laid code_of scalar_of_code past_data past_data_by past_array counted_in sized_in past past_elements constructor_in constructor_by tagged_in past_items all_past
array_described = refl

-- ---- where an address lies

-- properties of null, null and q
abbrev to_q : List ℕ
to_q = 0x00 ∷ 0x53 ∷ 0x73 ∷ 0xC0 ∷ 0x06 ∷ 0x03 ∷ 0x40 ∷ 0x40 ∷ 0xA1 ∷ 0x01 ∷ 0x71 ∷ []

properties_alone : to_within to_q 11 0 ≡ Some (10, 11)
unfolding to_within section_at described_in past_value past_value_by octet_in past_laid code_of scalar_of_code past_data past_data_by past past_nested counted_in sized_in past_items all_past past_text is_text is_utf8 chars encode named_in named_by section_of_code to_in list_at list_by third_at address_at string_at string_by
properties_alone = refl

-- past annotations of the message
past_annotations : to_within (0x00 ∷ 0x53 ∷ 0x72 ∷ 0xC1 ∷ 0x01 ∷ 0x00 ∷ to_q) 17 0 ≡ Some (16, 17)
unfolding to_within section_at described_in past_value past_value_by octet_in past_laid code_of scalar_of_code past_data past_data_by past past_nested counted_in sized_in past_items all_past past_text is_text is_utf8 chars encode named_in named_by section_of_code to_in list_at list_by third_at address_at string_at string_by
past_annotations = refl

-- not past application-properties
not_past : to_within (0x00 ∷ 0x53 ∷ 0x74 ∷ 0xC1 ∷ 0x01 ∷ 0x00 ∷ to_q) 17 0 ≡ None
unfolding to_within section_at described_in past_value past_value_by octet_in past_laid code_of scalar_of_code past_data past_data_by past past_nested counted_in sized_in past_items all_past past_text is_text is_utf8 chars encode named_in named_by section_of_code
not_past = refl

-- the third of the properties alone
second_alone : to_in (0xC0 ∷ 0x05 ∷ 0x02 ∷ 0x40 ∷ 0xA1 ∷ 0x01 ∷ 0x71 ∷ []) 0 7 ≡ None
unfolding to_in list_at list_by octet_in code_of counted_in sized_in past third_at
second_alone = refl

-- an address of 160 octets, and none of 161, nor of none
most_octets : address_at (0xA1 ∷ 160 ∷ replicate 160 0x61) 0 162 ≡ Some (2, 162)
unfolding address_at string_at string_by octet_in code_of sized_in past is_text is_utf8 chars encode
most_octets = refl

an_octet_more : address_at (0xA1 ∷ 161 ∷ replicate 161 0x61) 0 163 ≡ None
unfolding address_at string_at string_by octet_in code_of sized_in past is_text is_utf8 chars encode
an_octet_more = refl

no_octets : address_at (0xA1 ∷ 0x00 ∷ []) 0 2 ≡ None
unfolding address_at string_at string_by octet_in code_of sized_in past is_text is_utf8 chars encode
no_octets = refl

-- a symbol is none
symbol : address_at (0xA3 ∷ 0x01 ∷ 0x71 ∷ []) 0 3 ≡ None
unfolding address_at string_at string_by octet_in code_of
symbol = refl
