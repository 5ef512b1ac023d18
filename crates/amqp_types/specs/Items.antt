-- The values that are nested in a value that was read.
use Rattle.std.specs.Prelude.{◌≡◌, ◌<◌, ◌≤◌, ◌+◌, ◌-◌, ℕ, zero, suc, Bool, true, false, List, [], ◌∷◌, length, Option, Some, None, Result, Ok, Err, ◌==◌, ◌⊎◌}
use Rattle.amqp_types.specs.declared.code.Code.{Code}
use Rattle.amqp_types.specs.declared.code.Code.TheVariants.{Fixed, EmptyList}
use Rattle.amqp_types.specs.declared.code.Scalar.{Scalar}
use Rattle.amqp_types.specs.Codes.{code_of, takes_any, width_of}
use Rattle.amqp_types.specs.declared.fault.ValueFault.{ValueFault}
use Rattle.amqp_types.specs.declared.fault.ValueFaultKind.TheVariants.{BadSize}
use Rattle.amqp_types.specs.Part.{Part, Null, Nested, Array, Described, Tagged, Seen, Constructor}
use Rattle.amqp_types.specs.Reading.{Read, fault, seen_at, element_at, item_at, items_at, constructor_at}
use Rattle.flow_counts.specs.declared.profile.TheConstants.{MAX_DEPTH}

-- the octets behind what was read
abbrev pub behind : {A : Type 0} → Read A → Result (List ℕ) ValueFault
behind (Ok x) = Ok x.1
behind (Err e) = Err e

-- a value with this first octet has so many octets behind it, whatever they are
unfoldable pub IsPlain : ℕ → ℕ → Type 0
IsPlain first width =
    ((code_of first ≡ Some EmptyList) × (width ≡ 0))
    ⊎ ((scalar : Scalar) × (code_of first ≡ Some (Fixed scalar)) × (takes_any scalar ≡ true) × (width_of scalar ≡ width))

-- these octets are behind a value, wherever it lies
unfoldable pub IsPassed : List ℕ → List ℕ → Type 0
IsPassed bytes rest = (levels at : ℕ) → 0 < levels → behind (seen_at levels at bytes) ≡ Ok rest

-- so many values begin as the octets do, wherever they lie, and these are left of them, with their octets
unfoldable pub ArePassed : ℕ → List ℕ → ℕ → List ℕ → Type 0
ArePassed count bytes left rest =
    (length rest ≤ length bytes) × ((levels at : ℕ) → 0 < levels
    → items_at (item_at levels None) count at bytes ≡ items_at (item_at levels None) left (at + (length bytes - length rest)) rest)

-- whether something was read
abbrev pub is_read : {A : Type 0} → Read A → Bool
is_read (Ok x) = true
is_read (Err e) = false

-- the value that was read, and those that others gives of the rest
abbrev pub seen_then : Read Seen → (List ℕ → List Seen) → List Seen
seen_then (Ok x) others = x.0 ∷ others x.1
seen_then (Err e) others = []

-- the values in octets that are n of them, one after the other: elements where there is a constructor
unfoldable pub items_in : Option Constructor → ℕ → List ℕ → List Seen
items_in form zero octets = []
items_in form (suc n) octets = seen_then (item_at MAX_DEPTH form 0 octets) (items_in form n)

-- the values in octets that are n values, one after the other
abbrev pub seen_in : ℕ → List ℕ → List Seen
seen_in n octets = items_in None n octets

-- whether all octets were read
abbrev pub is_used_up : Read Seen → Bool
is_used_up (Ok x) = length x.1 == 0
is_used_up (Err e) = false

-- whether octets are one whole value
unfoldable pub is_value : List ℕ → Bool
is_value octets = is_used_up (seen_at MAX_DEPTH 0 octets)

-- whether all octets were items
abbrev pub is_filled : Result (List ℕ) ValueFault → Bool
is_filled (Ok rest) = length rest == 0
is_filled (Err e) = false

-- whether octets are n values, one after the other: elements where there is a constructor
unfoldable pub are_items : Option Constructor → ℕ → List ℕ → Bool
are_items form n octets = is_filled (items_at (item_at MAX_DEPTH form) n 0 octets)

-- the value that was read, or null
abbrev pub seen_or_null : List ℕ → Read Seen → Seen
seen_or_null octets (Ok x) = x.0
seen_or_null octets (Err e) = record { octets = octets; part = Null }

-- the value that octets are
unfoldable pub seen_of : List ℕ → Seen
seen_of octets = seen_or_null octets (seen_at MAX_DEPTH 0 octets)

-- the constructor that was read, with nothing behind it
abbrev pub constructor_read : Read Constructor → Option Constructor
constructor_read (Ok (c, [])) = Some c
constructor_read (Ok (c, b ∷ rest)) = None
constructor_read (Err e) = None

-- the constructor that octets are, if they are one
unfoldable pub constructor_in : List ℕ → Option Constructor
constructor_in octets = constructor_read (constructor_at MAX_DEPTH 0 octets)

-- how many descriptors, and which code, octets hold that are a constructor
abbrev pub form_read : Read Constructor → Option (ℕ × Code)
form_read (Ok (c, [])) = Some (c.tags, c.code)
form_read (Ok (c, b ∷ rest)) = None
form_read (Err e) = None

-- the same, of the octets
unfoldable pub form_of : List ℕ → Option (ℕ × Code)
form_of octets = form_read (constructor_at MAX_DEPTH 0 octets)

-- the element of a constructor that was read, with nothing behind it
abbrev pub element_read : Read Constructor → List ℕ → Read Seen
element_read (Ok (c, [])) octets = element_at MAX_DEPTH c 0 octets
element_read (Ok (c, b ∷ rest)) octets = fault BadSize 0
element_read (Err e) octets = Err e

-- whether octets are one whole element of the constructor that other octets are
unfoldable pub is_element : List ℕ → List ℕ → Bool
is_element constructor octets = is_used_up (element_read (constructor_at MAX_DEPTH 0 constructor) octets)

-- the element that octets are, of the constructor that other octets are
unfoldable pub element_of : List ℕ → List ℕ → Seen
element_of constructor octets = seen_or_null octets (element_read (constructor_at MAX_DEPTH 0 constructor) octets)

-- the items of a list, a map or an array; another value has none
abbrev pub items_of : Part → List Seen
items_of (Nested kind n octets) = seen_in n octets
items_of (Array form n octets) = items_in form n octets
items_of other = []

-- the descriptor of a described value
abbrev pub descriptor_of : Part → Option Seen
descriptor_of (Described descriptor described) = Some (seen_of descriptor)
descriptor_of (Tagged descriptor constructor octets) = Some (seen_of descriptor)
descriptor_of other = None

-- the value that a descriptor describes
abbrev pub described_of : Part → Option Seen
described_of (Described descriptor described) = Some (seen_of described)
described_of (Tagged descriptor constructor octets) = Some (element_of constructor octets)
described_of other = None

-- the octets of the descriptor of a described value (part 1, 1.1.2)
abbrev pub descriptor_octets : Part → Option (List ℕ)
descriptor_octets (Described descriptor described) = Some descriptor
descriptor_octets (Tagged descriptor constructor octets) = Some descriptor
descriptor_octets other = None
