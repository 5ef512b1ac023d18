-- The fields of each performative, in the order of the standard (part 2, section 2.7).
use Rattle.std.specs.Prelude.{Bool, true, false, List, [], ◌∷◌, Option, Some, None, is_some}
use Rattle.std.specs.List.{list_all}
use Rattle.amqp_types.specs.Part.{Seen}
use Rattle.amqp_types.specs.Typed.{boolean_in, ubyte_in, ushort_in, uint_in, binary_in, str_in, symbol_in, array_in}
use Rattle.amqp_perf.specs.declared.descriptor.PerformativeKind.{PerformativeKind}
use Rattle.amqp_perf.specs.declared.descriptor.PerformativeKind.TheVariants as kinds
use Rattle.amqp_perf.specs.declared.table.Field.{Field}
use Rattle.amqp_perf.specs.declared.table.FieldType.{FieldType}
use Rattle.amqp_perf.specs.declared.table.FieldType.TheVariants.{Any, Boolean, Ubyte, Ushort, Uint, Binary, Str, Symbol, Symbols, SenderMode, ReceiverMode, State, Source, Target}
use Rattle.amqp_perf.specs.Nested.{sender_mode_in, receiver_mode_in, state_in, source_in, target_in}

-- a field that has to be there
abbrev pub mandatory : FieldType → Field
mandatory type_ = record { is_mandatory = true; field_type = type_ }

-- a field that may be absent
abbrev pub optional : FieldType → Field
optional type_ = record { is_mandatory = false; field_type = type_ }

-- the fields of a performative
abbrev pub table_of : PerformativeKind → List Field
-- container-id, hostname, max-frame-size, channel-max, idle-time-out, outgoing-locales, incoming-locales,
-- offered-capabilities, desired-capabilities, properties (2.7.1)
table_of kinds.Open =
    mandatory Str ∷ optional Any ∷ optional Uint ∷ optional Any ∷ optional Uint ∷ optional Any ∷ optional Any ∷ optional Any ∷ optional Any ∷ optional Any ∷ []
-- remote-channel, next-outgoing-id, incoming-window, outgoing-window, handle-max, offered-capabilities,
-- desired-capabilities, properties (2.7.2)
table_of kinds.Begin =
    optional Ushort ∷ mandatory Uint ∷ mandatory Uint ∷ mandatory Uint ∷ optional Any ∷ optional Any ∷ optional Any ∷ optional Any ∷ []
-- name, handle, role, snd-settle-mode, rcv-settle-mode, source, target, unsettled, incomplete-unsettled,
-- initial-delivery-count, max-message-size, offered-capabilities, desired-capabilities, properties (2.7.3)
table_of kinds.Attach =
    mandatory Str ∷ mandatory Uint ∷ mandatory Boolean ∷ optional SenderMode ∷ optional ReceiverMode ∷ optional Source ∷ optional Target ∷ optional Any ∷ optional Any ∷ optional Uint ∷ optional Any ∷ optional Any ∷ optional Any ∷ optional Any ∷ []
-- next-incoming-id, incoming-window, next-outgoing-id, outgoing-window, handle, delivery-count, link-credit,
-- available, drain, echo, properties (2.7.4)
table_of kinds.Flow =
    optional Uint ∷ mandatory Uint ∷ mandatory Uint ∷ mandatory Uint ∷ optional Uint ∷ optional Uint ∷ optional Uint ∷ optional Any ∷ optional Boolean ∷ optional Boolean ∷ optional Any ∷ []
-- handle, delivery-id, delivery-tag, message-format, settled, more, rcv-settle-mode, state, resume, aborted,
-- batchable (2.7.5)
table_of kinds.Transfer =
    mandatory Uint ∷ optional Uint ∷ optional Binary ∷ optional Uint ∷ optional Boolean ∷ optional Boolean ∷ optional Any ∷ optional Any ∷ optional Boolean ∷ optional Boolean ∷ optional Any ∷ []
-- role, first, last, settled, state, batchable (2.7.6)
table_of kinds.Disposition =
    mandatory Boolean ∷ mandatory Uint ∷ optional Uint ∷ optional Boolean ∷ optional State ∷ optional Any ∷ []
-- handle, closed, error (2.7.7)
table_of kinds.Detach =
    mandatory Uint ∷ optional Boolean ∷ optional Any ∷ []
-- error (2.7.8)
table_of kinds.End =
    optional Any ∷ []
-- error (2.7.9)
table_of kinds.Close =
    optional Any ∷ []

-- all of them are symbols (part 1, 1.6.21)
abbrev pub are_symbols : List Seen → Bool
are_symbols values = list_all (λ value. is_some (symbol_in value.part)) values

-- an array that holds symbols alone (part 1, 1.6.24)
abbrev pub holds_symbols : Option (List Seen) → Bool
holds_symbols None = false
holds_symbols (Some values) = are_symbols values

-- a value that is there has the field's type; what is passed over has any
abbrev pub accepts : FieldType → Seen → Bool
accepts Any value = true
accepts Boolean value = is_some (boolean_in value.part)
accepts Ubyte value = is_some (ubyte_in value.part)
accepts Ushort value = is_some (ushort_in value.part)
accepts Uint value = is_some (uint_in value.part)
accepts Binary value = is_some (binary_in value.part)
accepts Str value = is_some (str_in value.part)
accepts Symbol value = is_some (symbol_in value.part)
accepts Symbols value = holds_symbols (array_in value.part)
accepts SenderMode value = is_some (sender_mode_in value.part)
accepts ReceiverMode value = is_some (receiver_mode_in value.part)
accepts State value = is_some (state_in value)
accepts Source value = is_some (source_in value)
accepts Target value = is_some (target_in value)
