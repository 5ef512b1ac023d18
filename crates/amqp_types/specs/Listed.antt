-- A described list: its descriptor and its items.
use Rattle.std.specs.Prelude.{◌≡◌, ℕ, List, Option, Some, None, Result, Ok, Err, ◌-◌, ◌⊎◌, option_and_then, option_map}
use Rattle.std.specs.Option.{option_zip}
use Rattle.amqp_types.specs.declared.fault.ValueFault.{ValueFault}
use Rattle.amqp_types.specs.declared.code.Kind.TheVariants as kinds
use Rattle.amqp_types.specs.declared.code.SizeWidth.{SizeWidth}
use Rattle.amqp_types.specs.declared.code.Code.TheVariants as codes
use Rattle.amqp_types.specs.Codes.{code_of}
use Rattle.amqp_types.specs.Part.{Part, Nested, Seen}
use Rattle.amqp_types.specs.Reading.{Read, nested_at, item_at}
use Rattle.amqp_types.specs.Items.{descriptor_of, described_of}
use Rattle.amqp_types.specs.Typed.{list_in, ulong_in}
use Rattle.flow_counts.specs.declared.profile.TheConstants.{MAX_DEPTH}

-- the descriptor and the items of a described list (part 1, 1.4)
abbrev pub listed_in : Part → Option (Seen × List Seen)
listed_in part = option_zip (descriptor_of part) (option_and_then (λ described. list_in described.part) (described_of part))

-- those of a value that was read, and what is behind it
abbrev pub listed : Read Seen → Result (Option (Seen × List Seen) × List ℕ) ValueFault
listed (Ok x) = Ok (listed_in x.0.part, x.1)
listed (Err e) = Err e

-- a first octet and those behind it are a list behind a descriptor of two octets, with so many items in these octets, and this is behind it
unfoldable pub IsList : ℕ → List ℕ → ℕ → List ℕ → List ℕ → Type 0
IsList first bytes count body rest = (width : SizeWidth) × (code_of first ≡ Some (codes.Nested kinds.List width))
    × (nested_at (item_at (MAX_DEPTH - 2) None) kinds.List width 3 bytes ≡ Ok (Nested kinds.List count body, rest))

-- the number that a described list has for its descriptor, as an ulong (part 1, 1.5)
abbrev pub number_listed : Part → Option (Option ℕ)
number_listed part = option_map (λ list. ulong_in list.0.part) (listed_in part)

-- a value is a list that this number describes
abbrev pub IsNumbered : Part → ℕ → Type 0
IsNumbered part n = number_listed part ≡ Some (Some n)

-- the first octet of a list (part 1, 1.6.22)
unfoldable pub BeginsList : ℕ → Type 0
BeginsList first = (code_of first ≡ Some codes.EmptyList) ⊎ ((width : SizeWidth) × (code_of first ≡ Some (codes.Nested kinds.List width)))
