-- What is written is the performative again.
use Rattle.std.proofs.Common.{◌≡◌, refl, sym, ◌∙◌, ℕ, ◌<◌, ◌≤◌, ◌^◌, Bool, false, List, [], ◌∷◌, map, length, Option, Some, None, option_map, unwrap_or, arith}
use Rattle.std.proofs.lemmas.List.Elements.{All-from_recursion}
use Rattle.amqp_types.specs.declared.code.Text.TheVariants as texts
use Rattle.amqp_types.specs.declared.code.Kind.TheVariants as kinds_of_lists
use Rattle.amqp_types.specs.Part.{Ulong, Nested, Seen}
use Rattle.amqp_types.specs.Typed.{boolean_in, ushort_in, uint_in, ulong_in, binary_in, str_in}
use Rattle.amqp_types.specs.Grammar.{IsValue, AreValuesOf}
use Rattle.flow_counts.specs.declared.profile.TheConstants.{MAX_DEPTH}
use Rattle.amqp_types.specs.Writing.{levels_in_described, list_octets, descriptor_octets}
use Rattle.amqp_types.proofs.Deeper.{value_deeper}
use Rattle.amqp_types.proofs.Written.{list_nested}
use Rattle.amqp_perf.specs.declared.begin.Begin.{Begin}
use Rattle.amqp_perf.specs.declared.flow.Flow.{Flow}
use Rattle.amqp_perf.specs.declared.descriptor.PerformativeKind.{PerformativeKind}
use Rattle.amqp_perf.specs.declared.descriptor.PerformativeKind.TheVariants as kinds
use Rattle.amqp_perf.specs.declared.descriptor.Descriptor.TheVariants.{Performative}
use Rattle.amqp_perf.specs.declared.table.FieldType.TheVariants as types
use Rattle.amqp_perf.specs.Descriptors.{descriptor_named, descriptor_of_code}
use Rattle.amqp_perf.specs.Nested.{role_of, sender_mode_in, receiver_mode_in, state_in, source_in, target_in, condition_in}
use Rattle.amqp_perf.specs.Tables.{table_of, optional}
use Rattle.amqp_perf.specs.Meaning.{Meaning, AnOpen, ABegin, AFlow, ATransfer, OpenFields, TransferFields, meaning_of}
use Rattle.amqp_perf.specs.FieldPlaces.{field_at}
use Rattle.amqp_perf.specs.Grammar.{IsPerformative}
use Rattle.amqp_perf.specs.Slots.{boolean_value, ushort_value, uint_value, text_value, or_null, values_of, octets_of, AreShort, AllCanStand}
use Rattle.amqp_perf.specs.Writing.{kind_of, code_of_kind, slots_of, open_slots, begin_slots, flow_slots, transfer_slots, performative_octets}
use Rattle.amqp_perf.proofs.Slots.{same_at, Suits, AllSuit, fit_values, AreAt, stand_values, are_items, values_long, fields_nested, descriptor_is}

-- ---- one field

pub uint_again : (x : Option ℕ) → uint_in (or_null (option_map uint_value x)).part ≡ x
uint_again None = refl
uint_again (Some n) = refl

pub ushort_again : (x : Option ℕ) → ushort_in (or_null (option_map ushort_value x)).part ≡ x
ushort_again None = refl
ushort_again (Some n) = refl

pub flag_again : (x : Option Bool) → boolean_in (or_null (option_map boolean_value x)).part ≡ x
flag_again None = refl
flag_again (Some b) = refl

binary_again : (x : Option (List ℕ)) → binary_in (or_null (option_map (text_value texts.Binary) x)).part ≡ x
binary_again None = refl
binary_again (Some octets) = refl

pub uint_suits : (x : Option ℕ) → Suits (optional types.Uint) (option_map uint_value x)
uint_suits None = refl
uint_suits (Some n) = (refl, refl)

ushort_suits : (x : Option ℕ) → Suits (optional types.Ushort) (option_map ushort_value x)
ushort_suits None = refl
ushort_suits (Some n) = (refl, refl)

any_ushort_suits : (x : Option ℕ) → Suits (optional types.Any) (option_map ushort_value x)
any_ushort_suits None = refl
any_ushort_suits (Some n) = (refl, refl)

any_uint_suits : (x : Option ℕ) → Suits (optional types.Any) (option_map uint_value x)
any_uint_suits None = refl
any_uint_suits (Some n) = (refl, refl)

pub flag_suits : (x : Option Bool) → Suits (optional types.Boolean) (option_map boolean_value x)
flag_suits None = refl
flag_suits (Some b) = (refl, refl)

binary_suits : (x : Option (List ℕ)) → Suits (optional types.Binary) (option_map (text_value texts.Binary) x)
binary_suits None = refl
binary_suits (Some octets) = (refl, refl)

-- ---- without the absent fields at the end a performative says the same

text_same : (n : ℕ) (ss : List (Option Seen)) → unwrap_or (str_in (field_at n (values_of ss)).part) [] ≡ unwrap_or (str_in (field_at n (map or_null ss)).part) []
text_same n ss = same_at (λ v. unwrap_or (str_in v.part) []) refl n ss

number_same : (n : ℕ) (ss : List (Option Seen)) → unwrap_or (uint_in (field_at n (values_of ss)).part) 0 ≡ unwrap_or (uint_in (field_at n (map or_null ss)).part) 0
number_same n ss = same_at (λ v. unwrap_or (uint_in v.part) 0) refl n ss

role_same : (n : ℕ) (ss : List (Option Seen)) → role_of (unwrap_or (boolean_in (field_at n (values_of ss)).part) false) ≡ role_of (unwrap_or (boolean_in (field_at n (map or_null ss)).part) false)
role_same n ss = same_at (λ v. role_of (unwrap_or (boolean_in v.part) false)) refl n ss

uint_same : (n : ℕ) (ss : List (Option Seen)) → uint_in (field_at n (values_of ss)).part ≡ uint_in (field_at n (map or_null ss)).part
uint_same n ss = same_at (λ v. uint_in v.part) refl n ss

ushort_same : (n : ℕ) (ss : List (Option Seen)) → ushort_in (field_at n (values_of ss)).part ≡ ushort_in (field_at n (map or_null ss)).part
ushort_same n ss = same_at (λ v. ushort_in v.part) refl n ss

flag_same : (n : ℕ) (ss : List (Option Seen)) → boolean_in (field_at n (values_of ss)).part ≡ boolean_in (field_at n (map or_null ss)).part
flag_same n ss = same_at (λ v. boolean_in v.part) refl n ss

trimmed : (kind : PerformativeKind) (ss : List (Option Seen)) → meaning_of kind (values_of ss) ≡ meaning_of kind (map or_null ss)
trimmed kinds.Open ss = rw (text_same 0 ss, uint_same 2 ss, ushort_same 3 ss, uint_same 4 ss) refl
trimmed kinds.Begin ss = rw (ushort_same 0 ss, number_same 1 ss, number_same 2 ss, number_same 3 ss, uint_same 4 ss) refl
trimmed kinds.Attach ss =
    rw (
      text_same 0 ss,
      number_same 1 ss,
      role_same 2 ss,
      same_at (λ v. sender_mode_in v.part) refl 3 ss,
      same_at (λ v. receiver_mode_in v.part) refl 4 ss,
      same_at source_in refl 5 ss,
      same_at target_in refl 6 ss,
      uint_same 9 ss,
      same_at (λ v. ulong_in v.part) refl 10 ss,
    ) refl
trimmed kinds.Flow ss =
    rw (uint_same 0 ss, number_same 1 ss, number_same 2 ss, number_same 3 ss, uint_same 4 ss, uint_same 5 ss, uint_same 6 ss, flag_same 8 ss, flag_same 9 ss) refl
trimmed kinds.Transfer ss =
    rw (number_same 0 ss, uint_same 1 ss, same_at (λ v. binary_in v.part) refl 2 ss, uint_same 3 ss, flag_same 4 ss, flag_same 5 ss, flag_same 8 ss, flag_same 9 ss) refl
trimmed kinds.Disposition ss = rw (role_same 0 ss, number_same 1 ss, uint_same 2 ss, flag_same 3 ss, same_at state_in refl 4 ss) refl
trimmed kinds.Detach ss = rw (number_same 0 ss, flag_same 1 ss, same_at condition_in refl 2 ss) refl
trimmed kinds.End ss = rw (same_at condition_in refl 0 ss) refl
trimmed kinds.Close ss = rw (same_at condition_in refl 0 ss) refl

-- ---- a performative

named : (kind : PerformativeKind) → descriptor_named (Ulong (code_of_kind kind)) ≡ Some (Performative kind)
unfolding descriptor_of_code
named kinds.Open = refl
named kinds.Begin = refl
named kinds.Attach = refl
named kinds.Flow = refl
named kinds.Transfer = refl
named kinds.Disposition = refl
named kinds.Detach = refl
named kinds.End = refl
named kinds.Close = refl

deeper : (few many : ℕ) (vs : List Seen) → few ≤ many → AreAt few vs → AreAt many vs
deeper few many [] le at = tt
deeper few many (v ∷ vs) le at = (value_deeper few many v.octets v.part le at.0, deeper few many vs le at.1)

-- values that lie one after the other
pub are_values : (few : ℕ) (vs : List Seen) → few ≤ MAX_DEPTH → AreAt few vs → AreValuesOf (length vs) (octets_of vs) vs
are_values few vs le at =
    record { count = refl; joined = refl; each = All-from_recursion (λ value. IsValue MAX_DEPTH value.octets value.part) vs (deeper few MAX_DEPTH vs le at) }

-- fields that fit the table of their kind and say its meaning are read again
pub again_by : (m : Meaning) → AllCanStand levels_in_described (slots_of m) → AreShort (slots_of m) → AllSuit (table_of (kind_of m)) (slots_of m)
    → m ≡ meaning_of (kind_of m) (map or_null (slots_of m)) → IsPerformative (performative_octets m) m
again_by m can few suit means =
    let kind = kind_of m in
    let code = code_of_kind kind in
    let vs = values_of (slots_of m) in
    let at : AreAt 30 vs = stand_values 29 (slots_of m) can in
    let fits : length vs < 2 ^ 32 = omega (arith, values_long 30 vs at) in
    let list : IsValue 31 (list_octets (length vs) (octets_of vs)) (Nested kinds_of_lists.List (length vs) (octets_of vs)) = list_nested (length vs) (octets_of vs) few fits 30 (are_items 30 vs at) in
    record {
      descriptor = descriptor_octets code;
      described = list_octets (length vs) (octets_of vs);
      whole = fields_nested 29 code (slots_of m) can few;
      says = Ulong code;
      descriptor_is = descriptor_is 31 code;
      kind = kind;
      names = named kind;
      count = length vs;
      body = octets_of vs;
      list = value_deeper 31 MAX_DEPTH (list_octets (length vs) (octets_of vs)) (Nested kinds_of_lists.List (length vs) (octets_of vs)) (omega arith) list;
      values = vs;
      items = are_values 30 vs (omega arith) at;
      fit = fit_values (table_of kind) (slots_of m) suit;
      means = means ∙ sym (trimmed kind (slots_of m));
    }

pub open_again : (o : OpenFields) → AllCanStand levels_in_described (open_slots o) → AreShort (open_slots o) → IsPerformative (performative_octets (AnOpen o)) (AnOpen o)
open_again o can few =
    again_by (AnOpen o) can few ((refl, refl), (refl, (uint_suits o.max_frame_size, (any_ushort_suits o.channel_max, (uint_suits o.idle_time_out, (refl, (refl, (refl, (refl, (refl, tt))))))))))
    (rw (uint_again o.max_frame_size, ushort_again o.channel_max, uint_again o.idle_time_out) refl)

pub begin_again : (b : Begin) → AllCanStand levels_in_described (begin_slots b) → AreShort (begin_slots b) → IsPerformative (performative_octets (ABegin b)) (ABegin b)
begin_again b can few =
    again_by (ABegin b) can few (ushort_suits b.remote_channel, ((refl, refl), ((refl, refl), ((refl, refl), (any_uint_suits b.handle_max, (refl, (refl, (refl, tt))))))))
    (rw (ushort_again b.remote_channel, uint_again b.handle_max) refl)

pub flow_again : (f : Flow) → AllCanStand levels_in_described (flow_slots f) → AreShort (flow_slots f) → IsPerformative (performative_octets (AFlow f)) (AFlow f)
flow_again f can few =
    again_by (AFlow f) can few
    (uint_suits f.next_incoming_id, ((refl, refl), ((refl, refl), ((refl, refl), (uint_suits f.handle, (uint_suits f.delivery_count, (uint_suits f.link_credit, (refl, (flag_suits f.drain, (flag_suits f.echo, (refl, tt)))))))))))
    (rw (uint_again f.next_incoming_id, uint_again f.handle, uint_again f.delivery_count, uint_again f.link_credit, flag_again f.drain, flag_again f.echo) refl)

pub transfer_again : (t : TransferFields) → AllCanStand levels_in_described (transfer_slots t) → AreShort (transfer_slots t) → IsPerformative (performative_octets (ATransfer t)) (ATransfer t)
transfer_again t can few =
    again_by (ATransfer t) can few
    ((refl, refl), (uint_suits t.delivery_id, (binary_suits t.delivery_tag, (uint_suits t.message_format, (flag_suits t.settled, (flag_suits t.more, (refl, (refl, (flag_suits t.resume, (flag_suits t.aborted, (refl, tt)))))))))))
    (rw (uint_again t.delivery_id, binary_again t.delivery_tag, uint_again t.message_format, flag_again t.settled, flag_again t.more, flag_again t.resume, flag_again t.aborted) refl)
