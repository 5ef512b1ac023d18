-- Why a part of a delivery is refused.
use Rattle.std.specs.Prelude.{ℕ, ◌≡◌, ◌+◌, Bool, List, [], length, Option, Some, None, Result, Ok, Err, nat_lt, if◌then◌else◌}
use Rattle.std.specs.Option.{option_or}
use Rattle.flow_counts.specs.Parts.{Partial, is_id}
use Rattle.flow_counts.specs.declared.profile.TheConstants.{MAX_MESSAGE_SIZE}
use Rattle.unsettled.specs.declared.fault.PartFault.{PartFault}
use Rattle.unsettled.specs.declared.fault.PartFault.TheVariants.{Memory, TooLarge, IdChanged, NoId, IdInUse}

-- the number of a fault
abbrev pub fault_number : PartFault → ℕ
fault_number Memory = 1
fault_number TooLarge = 2
fault_number IdChanged = 3
fault_number NoId = 4
fault_number IdInUse = 5

-- The fault of a delivery-id, where this delivery is in progress and these ids are in use (part 2 of the standard,
-- section 2.7.5): the first part has one, which is not in use, and a later part has none or that of the first.
abbrev pub admission : Option Partial → (ℕ → Bool) → Option ℕ → Option PartFault
admission None in_use None = Some NoId
admission None in_use (Some id) = if in_use id then Some IdInUse else None
admission (Some partial) in_use None = None
admission (Some partial) in_use (Some id) = if is_id id partial.id then None else Some IdChanged

-- the octets of the parts so far
abbrev pub payload_so_far : Option Partial → List ℕ
payload_so_far None = []
payload_so_far (Some partial) = partial.payload

-- the fault of a payload after these parts
abbrev pub size_fault : Option Partial → List ℕ → Option PartFault
size_fault earlier payload =
    if nat_lt MAX_MESSAGE_SIZE (length (payload_so_far earlier) + length payload) then Some TooLarge else None

-- the first fault of a part
abbrev pub part_fault : Option Partial → (ℕ → Bool) → Option ℕ → List ℕ → Option PartFault
part_fault earlier in_use id payload = option_or (admission earlier in_use id) (size_fault earlier payload)

-- the answer is this fault; without one it is no fault, or that memory was refused
abbrev pub IsAnswer : {A : Type 0} → Option PartFault → Result A PartFault → Type 0
IsAnswer (Some fault) result = result ≡ Err fault
IsAnswer None (Ok value) = Unit {0}
IsAnswer None (Err fault) = fault ≡ Memory
