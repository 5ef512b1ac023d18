-- The address that a message is for, by the offsets at which it lies (part 3, 3.2).
use Rattle.std.specs.Prelude.{ℕ, zero, suc, ◌+◌, ◌-◌, List, length, drop, Option, Some, None, option_map, is_some, nat_lt, nat_le, ◌&&◌, if◌then◌else◌}
use Rattle.byteorder.specs.Endian.{big_number}
use Rattle.flow_counts.specs.declared.profile.TheConstants.{MAX_ADDRESS, MAX_DEPTH}
use Rattle.amqp_types.specs.declared.code.Kind.TheVariants as kinds
use Rattle.amqp_types.specs.declared.code.Text.TheVariants as texts
use Rattle.amqp_types.specs.Reading.{is_text}
use Rattle.amqp_types.specs.Part.{Null}
use Rattle.amqp_perf.specs.Message.{section_of_code, section_of_name, section_says}
use Rattle.amqp_cuts.specs.declared.layout.Layout.{Layout}
use Rattle.amqp_cuts.specs.declared.layout.Layout.TheVariants as layouts
use Rattle.amqp_cuts.specs.declared.section.Named.{Named}
use Rattle.amqp_cuts.specs.declared.section.Named.TheVariants.{PassedOver, Properties}
use Rattle.amqp_cuts.specs.Layout.{layout_of}
use Rattle.amqp_cuts.specs.Offsets.{◌>>=◌, window, octet_in, past, sized_in, counted_in}
use Rattle.amqp_cuts.specs.Passing.{past_value}

-- the section that a descriptor names which is a number: one that is passed over says so of any value
abbrev pub named_by_code : ℕ → Option Named
named_by_code code = option_map (λ section. if is_some (section_says section Null) then PassedOver else Properties) (section_of_code code)

-- the section that a descriptor names which is a symbol
abbrev pub named_by_name : List ℕ → Option Named
named_by_name name = option_map (λ section. if is_some (section_says section Null) then PassedOver else Properties) (section_of_name name)

-- the section that a descriptor names of this layout, behind its first octet (part 3, 3.2.1 to 3.2.4)
unfoldable pub named_by : Layout → List ℕ → ℕ → ℕ → Option Named
named_by layouts.UlongOctet octets at to = do
  code ← octet_in octets at to
  named_by_code code
named_by layouts.Ulong octets at to = do
  next ← past 8 at to
  named_by_code (big_number 8 (drop at octets))
named_by (layouts.Sized texts.Symbol width) octets at to = do
  name ← sized_in width octets at to
  named_by_name (window octets name.0 name.1)
named_by other octets at to = None

-- the section that a descriptor names
unfoldable pub named_in : List ℕ → ℕ → ℕ → Option Named
named_in octets at to = do
  first ← octet_in octets at to
  layout ← layout_of first
  named_by layout octets (at + 1) to

-- a descriptor and a value, of which the descriptor names a section; what it is, where the value begins, and where it ends
unfoldable pub described_in : Option Layout → List ℕ → ℕ → ℕ → Option (Named × ℕ × ℕ)
described_in (Some layouts.Described) octets at to = do
  value ← past_value octets (MAX_DEPTH - 1) at to
  end ← past_value octets (MAX_DEPTH - 1) value to
  name ← named_in octets at value
  Some (name, value, end)
described_in other octets at to = None

-- the section at the front
unfoldable pub section_at : List ℕ → ℕ → ℕ → Option (Named × ℕ × ℕ)
section_at octets at to = do
  first ← octet_in octets at to
  described_in (layout_of first) octets (at + 1) to

-- the items of a list of this layout, behind its first octet
unfoldable pub list_by : Layout → List ℕ → ℕ → ℕ → Option (ℕ × ℕ × ℕ)
list_by (layouts.Nested kinds.List width) octets at to = counted_in width octets at to
list_by other octets at to = None

-- how many items a list has, where they begin, and where they end; one without items has none
unfoldable pub list_at : List ℕ → ℕ → ℕ → Option (ℕ × ℕ × ℕ)
list_at octets at to = do
  first ← octet_in octets at to
  layout ← layout_of first
  list_by layout octets (at + 1) to

-- the octets of a string of this layout, behind its first octet
unfoldable pub string_by : Layout → List ℕ → ℕ → ℕ → Option (ℕ × ℕ)
string_by (layouts.Sized texts.Str width) octets at to = do
  text ← sized_in width octets at to
  if is_text texts.Str (window octets text.0 text.1) then Some text else None
string_by other octets at to = None

-- where the octets of a string begin and end
unfoldable pub string_at : List ℕ → ℕ → ℕ → Option (ℕ × ℕ)
string_at octets at to = do
  first ← octet_in octets at to
  layout ← layout_of first
  string_by layout octets (at + 1) to

-- where an address begins and ends that a string is
unfoldable pub address_at : List ℕ → ℕ → ℕ → Option (ℕ × ℕ)
address_at octets at to = do
  text ← string_at octets at to
  if nat_le 1 (text.1 - text.0) && nat_le (text.1 - text.0) MAX_ADDRESS then Some text else None

-- the third of so many items, where it is an address
unfoldable pub third_at : ℕ → List ℕ → ℕ → ℕ → Option (ℕ × ℕ)
third_at count octets at to =
    if nat_lt count 3 then None else (do
      second ← past_value octets MAX_DEPTH at to
      third ← past_value octets MAX_DEPTH second to
      address_at octets third to)

-- the third of the properties, to, where it is an address (part 3, 3.2.4)
unfoldable pub to_in : List ℕ → ℕ → ℕ → Option (ℕ × ℕ)
to_in octets at to = do
  items ← list_at octets at to
  third_at items.0 octets items.1 items.2

-- the address in the properties, or behind a section that is passed over
abbrev pub to_past : Option (Named × ℕ × ℕ) → List ℕ → (ℕ → Option (ℕ × ℕ)) → Option (ℕ × ℕ)
to_past None octets others = None
to_past (Some (Properties, value, end)) octets others = to_in octets value end
to_past (Some (PassedOver, value, end)) octets others = others end

-- the address of a message whose properties are among so many values
unfoldable pub to_within : List ℕ → ℕ → ℕ → Option (ℕ × ℕ)
to_within octets zero at = None
to_within octets (suc n) at = to_past (section_at octets at (length octets)) octets (to_within octets n)
