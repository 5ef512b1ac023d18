-- Reading and writing with every definition open: a proof by computation on known octets opens one of these names.
use Rattle.std.specs.Prelude.{ℕ, List, Result}
use Rattle.std.specs.Str.{is_utf8, chars}
use lib.Utf8.{encode}
use Rattle.amqp_types.specs.Codes.{code_of, scalar_of_code}
use Rattle.amqp_types.specs.Items.{items_in, seen_of, is_value}
use Rattle.amqp_types.specs.Reading.{value_at, seen_at, data_at, constructor_at, value_by, seen_by, data_by, element_by, tagged_at, constructor_by, coded_at, described_at, array_at, elements_at, nested_at, items_at, counted_at, text_at, fixed_at, is_text, scalar_of, sized_at, octets_at, item_at, element_at}
use Rattle.amqp_types.specs.Writing.{null_octets, boolean_octets, ubyte_octets, ushort_octets, uint_octets, ulong_octets, text_octets, list_octets}
use Rattle.amqp_perf.specs.declared.fault.PerfFault.{PerfFault}
use Rattle.amqp_perf.specs.Descriptors.{descriptor_of_code, descriptor_of_name}
use Rattle.amqp_perf.specs.Fields.{first_fault}
use Rattle.amqp_perf.specs.Meaning.{Meaning}
use Rattle.amqp_perf.specs.Reading.{performative_at}
use Rattle.amqp_perf.specs.Writing.{performative_octets}

-- the performative at the front of octets
unfoldable pub read : List ℕ → Result (Meaning × List ℕ) PerfFault
unfolding performative_at first_fault descriptor_of_code descriptor_of_name value_at seen_at data_at constructor_at value_by seen_by data_by element_by tagged_at constructor_by coded_at described_at array_at elements_at nested_at items_at counted_at text_at fixed_at is_text scalar_of sized_at octets_at code_of scalar_of_code items_in item_at element_at seen_of is_value is_utf8 chars encode
read octets = performative_at octets

-- the octets of a performative
unfoldable pub written : Meaning → List ℕ
unfolding null_octets boolean_octets ubyte_octets ushort_octets uint_octets ulong_octets text_octets list_octets
written meaning = performative_octets meaning
