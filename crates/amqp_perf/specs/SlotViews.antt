-- What a field of the code is that is written.
use Rattle.std.specs.Prelude.{ℕ, List, [], ◌∷◌, map, Option, Some, None}
use Rattle.amqp_types.specs.declared.code.Text.TheVariants as texts
use Rattle.amqp_types.specs.Part.{Seen}
use Rattle.amqp_perf.specs.declared.slot.Slot.{Slot}
use Rattle.amqp_perf.specs.declared.slot.Slot.TheVariants.{Absent, Boolean, Ubyte, Ushort, Uint, Ulong, Binary, Str, Symbol, Written}
use Rattle.amqp_perf.specs.Slots.{boolean_value, ubyte_value, ushort_value, uint_value, ulong_value, text_value, kept_value}

abbrev pub slot_view : Slot → Option Seen
slot_view Absent = None
slot_view (Boolean truth) = Some (boolean_value truth)
slot_view (Ubyte n) = Some (ubyte_value n)
slot_view (Ushort n) = Some (ushort_value n)
slot_view (Uint n) = Some (uint_value n)
slot_view (Ulong n) = Some (ulong_value n)
slot_view (Binary octets) = Some (text_value texts.Binary octets.now)
slot_view (Str text) = Some (text_value texts.Str text.now)
slot_view (Symbol symbol) = Some (text_value texts.Symbol symbol.now)
slot_view (Written octets) = Some (kept_value octets.now)

abbrev pub slots_view : List Slot → List (Option Seen)
slots_view slots = map slot_view slots

-- a value that was written elsewhere; no octets are none
abbrev pub nested_view : List ℕ → Option Seen
nested_view [] = None
nested_view (b ∷ octets) = Some (kept_value (b ∷ octets))
