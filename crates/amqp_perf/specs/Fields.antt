-- The fields of a performative as the items of its list, with the first fault.
use Rattle.std.specs.Prelude.{ℕ, ◌+◌, Bool, not, ◌&&◌, List, [], ◌∷◌, length, Option, Some, None, nat_lt, if◌then◌else◌}
use Rattle.std.specs.Option.{option_or}
use Rattle.amqp_types.specs.Part.{Seen}
use Rattle.amqp_types.specs.Typed.{says_null}
use Rattle.amqp_perf.specs.declared.fault.PerfFault.{PerfFault}
use Rattle.amqp_perf.specs.declared.fault.PerfFault.TheVariants.{MissingField, WrongType, TooManyFields}
use Rattle.amqp_perf.specs.declared.table.Field.{Field}
use Rattle.amqp_perf.specs.FieldPlaces.{first, others}
use Rattle.amqp_perf.specs.Tables.{accepts}

-- what is wrong with a field, the n-th
abbrev pub field_fault : ℕ → Field → Seen → Option PerfFault
field_fault n field value =
    if says_null value.part then (if field.is_mandatory then Some (MissingField n) else None)
    else (if accepts field.field_type value then None else Some (WrongType n))

-- whether a value may stand in a field: null where it is optional, else a value of its type
abbrev pub fits_field : Field → Seen → Bool
fits_field field value = if says_null value.part then not field.is_mandatory else accepts field.field_type value

-- whether those before, and all these values, fit the fields of a table in order
unfoldable pub all_fit : Bool → List Field → List Seen → Bool
all_fit so_far [] ps = so_far
all_fit so_far (f ∷ fs) ps = all_fit (so_far && fits_field f (first ps)) fs (others ps)

-- the fault of the lowest field at fault, counted from n
unfoldable pub first_fault : ℕ → List Field → List Seen → Option PerfFault
first_fault n [] ps = None
first_fault n (f ∷ fs) ps = option_or (field_fault n f (first ps)) (first_fault (n + 1) fs (others ps))

-- the first fault of a list's items as the fields of a table: that there are too many, or that of the lowest at fault
abbrev pub table_fault : List Field → List Seen → Option PerfFault
table_fault table fields = if nat_lt (length table) (length fields) then Some TooManyFields else first_fault 1 table fields
