-- The kinds of fault of octets that are no value.
use Rattle.std.specs.Prelude.{ℕ, Bool, true, false, if◌then◌else◌}
use Rattle.amqp_types.specs.declared.fault.ValueFaultKind.{ValueFaultKind}
use Rattle.amqp_types.specs.declared.fault.ValueFaultKind.TheVariants.{Short, UnknownCode, BadSize, BadText, TooDeep, BadBoolean, OddMap}
use Rattle.amqp_types.specs.declared.fault.ValueFault.{ValueFault}

-- the number of a fault (own format)
abbrev pub number_of : ValueFaultKind → ℕ
number_of Short = 1
number_of UnknownCode = 2
number_of BadSize = 3
number_of BadText = 4
number_of TooDeep = 5
number_of BadBoolean = 6
number_of OddMap = 7

-- whether a value passes the end of the octets that it may lie in (own format)
abbrev pub is_short : ValueFaultKind → Bool
is_short Short = true
is_short UnknownCode = false
is_short BadSize = false
is_short BadText = false
is_short TooDeep = false
is_short BadBoolean = false
is_short OddMap = false

-- a fault of an item, as a fault of the list that it is in: what passes the list's end is the list's (own format)
abbrev pub fault_within : ℕ → ValueFault → ValueFault
fault_within at e = if is_short e.kind then record { kind = BadSize; at = at } else e

-- a fault inside an array, as a fault of the array: it is the array's, wherever in the array it lies (own format)
abbrev pub fault_in_array : ℕ → ValueFault → ValueFault
fault_in_array at e = record { kind = (fault_within at e).kind; at = at }
