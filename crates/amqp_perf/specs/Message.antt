-- The address that a message is for, in its properties (part 3, section 3.2).
use Rattle.std.specs.Prelude.{◌≡◌, ℕ, zero, suc, ◌&&◌, List, length, Option, Some, None, option_and_then, option_map, nat_le, codes, Ok, Err, ◌==◌, if◌then◌else◌}
use Rattle.std.specs.Str.{bytes_eq}
use Rattle.flow_counts.specs.declared.profile.TheConstants.{MAX_ADDRESS, MAX_DEPTH}
use Rattle.amqp_types.specs.Part.{Part, Seen}
use Rattle.amqp_types.specs.Reading.{Read, seen_at}
use Rattle.amqp_types.specs.Grammar.{IsFront}
use Rattle.amqp_types.specs.Items.{descriptor_of, described_of}
use Rattle.amqp_types.specs.Typed.{ulong_in, symbol_in, str_in, list_in}
use Rattle.amqp_perf.specs.declared.message.Section.{Section}
use Rattle.amqp_perf.specs.declared.message.Section.TheVariants.{Header, DeliveryAnnotations, MessageAnnotations, Properties}
use Rattle.amqp_perf.specs.FieldPlaces.{field_at}

-- the section that a descriptor names which is a number (part 3, 3.2.1 to 3.2.4)
unfoldable pub section_of_code : ℕ → Option Section
section_of_code n =
    if n == 0x70 then Some Header else
    if n == 0x71 then Some DeliveryAnnotations else
    if n == 0x72 then Some MessageAnnotations else
    if n == 0x73 then Some Properties else None

-- the section that a descriptor names which is a symbol (part 3, 3.2.1 to 3.2.4)
unfoldable pub section_of_name : List ℕ → Option Section
section_of_name name =
    if bytes_eq name (codes "amqp:header:list") then Some Header else
    if bytes_eq name (codes "amqp:delivery-annotations:map") then Some DeliveryAnnotations else
    if bytes_eq name (codes "amqp:message-annotations:map") then Some MessageAnnotations else
    if bytes_eq name (codes "amqp:properties:list") then Some Properties else None

-- by its code, or else by its name
abbrev pub section_by : Option ℕ → Option (List ℕ) → Option Section
section_by (Some code) name = section_of_code code
section_by None name = option_and_then section_of_name name

-- the section that a value names which is a descriptor: an ulong or a symbol (part 1, 1.5)
abbrev pub section_named : Part → Option Section
section_named part = section_by (ulong_in part) (symbol_in part)

-- what a section of this name says: the items of the properties, which are a list, and of any other none: it is passed over
-- by its descriptor alone, whatever it describes (part 3, 3.2.1 to 3.2.4)
abbrev pub section_says : Section → Part → Option (Option (List Seen))
section_says Header part = Some None
section_says DeliveryAnnotations part = Some None
section_says MessageAnnotations part = Some None
section_says Properties part = option_map Some (list_in part)

-- what a value says that its descriptor makes such a section
abbrev pub section_in : Part → Option (Option (List Seen))
section_in part = option_and_then
    (λ section. option_and_then (λ described. section_says section described.part) (described_of part))
    (option_and_then (λ descriptor. section_named descriptor.part) (descriptor_of part))

-- the same of a value that was read, with what is behind it
abbrev pub section_read : Read Seen → Option (Option (List Seen) × List ℕ)
section_read (Ok x) = option_map (λ says. (says, x.1)) (section_in x.0.part)
section_read (Err e) = None

-- a text that is an address by its length
abbrev pub address_of : List ℕ → Option (List ℕ)
address_of text = if nat_le 1 (length text) && nat_le (length text) MAX_ADDRESS then Some text else None

-- the third of the properties, to, where it is a string that is an address (part 3, 3.2.4)
abbrev pub address_in_properties : List Seen → Option (List ℕ)
address_in_properties fields = option_and_then address_of (str_in (field_at 2 fields).part)

-- the address in the properties, or past a section that is passed over
abbrev pub address_past : Option (Option (List Seen) × List ℕ) → (List ℕ → Option (List ℕ)) → Option (List ℕ)
address_past None others = None
address_past (Some (Some properties, rest)) others = address_in_properties properties
address_past (Some (None, rest)) others = others rest

-- the address of a message whose properties are among its first values, so many of them
unfoldable pub address_within : ℕ → List ℕ → Option (List ℕ)
address_within zero octets = None
address_within (suc n) octets = address_past (section_read (seen_at MAX_DEPTH 0 octets)) (address_within n)

-- the address of a message: it has no more values than octets (part 3, 3.2)
unfoldable pub to_of : List ℕ → Option (List ℕ)
to_of payload = address_within (length payload) payload

-- behind so many sections that are passed over stand properties with this address, whatever is behind them (part 3, 3.2)
abbrev pub IsForPast : ℕ → List ℕ → List ℕ → Type 0
IsForPast zero payload to =
    (properties : Seen) × (rest : List ℕ) × (fields : List Seen) × IsFront MAX_DEPTH payload properties rest
    × (section_in properties.part ≡ Some (Some fields)) × (address_in_properties fields ≡ Some to)
IsForPast (suc n) payload to =
    (section : Seen) × (rest : List ℕ) × IsFront MAX_DEPTH payload section rest × (section_in section.part ≡ Some None) × IsForPast n rest to

-- a message is for an address, however many sections stand in front of its properties
abbrev pub IsFor : List ℕ → List ℕ → Type 0
IsFor payload to = (n : ℕ) × IsForPast n payload to
