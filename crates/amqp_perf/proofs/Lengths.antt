-- How many octets the fields of a performative take.
use Rattle.std.proofs.Common.{◌≡◌, refl, ℕ, ◌+◌, ◌≤◌, Bool, true, false, List, [], ◌∷◌, map, length, Option, Some, None, option_map, lit≤, arith}
use Rattle.std.proofs.lemmas.List.{length-append}
use Rattle.std.proofs.lemmas.List.Concat.{flat_map-cons}
use Rattle.amqp_types.specs.Part.{Seen}
use Rattle.amqp_types.specs.Writing.{null_octets, boolean_octets, ushort_octets}
use Rattle.amqp_types.proofs.Shortest.{uint_long}
use Rattle.amqp_perf.specs.declared.begin.Begin.{Begin}
use Rattle.amqp_perf.specs.declared.flow.Flow.{Flow}
use Rattle.amqp_perf.specs.Meaning.{ABegin, AFlow}
use Rattle.amqp_perf.specs.Slots.{boolean_value, ushort_value, uint_value, or_null, used_before, used, values_of, octets_of}
use Rattle.amqp_perf.specs.Writing.{begin_slots, flow_slots, IsWritable}

-- a field of so many octets at most
abbrev pub AtMost : ℕ → Option Seen → Type 0
AtMost n None = Unit {0}
AtMost n (Some value) = length value.octets ≤ n

abbrev pub AllAtMost : ℕ → List (Option Seen) → Type 0
AllAtMost n [] = Unit {0}
AllAtMost n (f ∷ fs) = AtMost n f × AllAtMost n fs

-- that many octets for each field
abbrev pub room : ℕ → List (Option Seen) → ℕ
room n [] = 0
room n (f ∷ fs) = n + room n fs

null_long : length null_octets ≤ 1
unfolding null_octets
null_long = omega arith

one_long : (n : ℕ) (f : Option Seen) → 1 ≤ n → AtMost n f → length (or_null f).octets ≤ n
one_long n None one h = omega (arith, null_long)
one_long n (Some value) one h = h

cons_long : (v : Seen) (vs : List Seen) → length (octets_of (v ∷ vs)) ≡ length v.octets + length (octets_of vs)
cons_long v vs = rw (flat_map-cons (λ (value : Seen). value.octets) v vs, length-append v.octets (octets_of vs)) refl

before_long : (n m : ℕ) (us : List (Option Seen)) (f : Option Seen) → 1 ≤ n → AtMost n f → length (octets_of (map or_null us)) ≤ m → length (octets_of (map or_null (used_before us f))) ≤ n + m
before_long n m (u ∷ us) f one h hs = omega (arith, cons_long (or_null f) (map or_null (u ∷ us)), one_long n f one h)
before_long n m [] (Some value) one h hs = omega (arith, cons_long value [], one_long n (Some value) one h)
before_long n m [] None one h hs = omega arith

pub fields_long : (n : ℕ) (fs : List (Option Seen)) → 1 ≤ n → AllAtMost n fs → length (octets_of (values_of fs)) ≤ room n fs
fields_long n [] one h = omega arith
fields_long n (f ∷ fs) one h = before_long n (room n fs) (used fs) f one h.0 (fields_long n fs one h.1)

pub uint_most : (x : Option ℕ) → AtMost 5 (option_map uint_value x)
uint_most None = tt
uint_most (Some n) = uint_long n

pub ushort_long : (n : ℕ) → length (ushort_octets n) ≤ 5
unfolding ushort_octets
ushort_long n = lit≤ tt

ushort_most : (x : Option ℕ) → AtMost 5 (option_map ushort_value x)
ushort_most None = tt
ushort_most (Some n) = ushort_long n

pub flag_long : (b : Bool) → length (boolean_octets b) ≤ 5
unfolding boolean_octets
flag_long true = omega arith
flag_long false = omega arith

pub flag_most : (x : Option Bool) → AtMost 5 (option_map boolean_value x)
flag_most None = tt
flag_most (Some b) = flag_long b

-- every begin can be written
pub begin_writable : (b : Begin) → IsWritable (ABegin b)
begin_writable b = record {
  fields = tt;
  few = omega (arith, fields_long 5 (begin_slots b) (omega arith) (ushort_most b.remote_channel, (uint_long b.next_outgoing_id, (uint_long b.incoming_window, (uint_long b.outgoing_window, (uint_most b.handle_max, tt))))));
}

-- every flow can be written
pub flow_writable : (f : Flow) → IsWritable (AFlow f)
flow_writable f = record {
  fields = tt;
  few =
      omega (
        arith,
        fields_long 5 (flow_slots f) (omega arith) (
          uint_most f.next_incoming_id,
          (
            uint_long f.incoming_window,
            (
              uint_long f.next_outgoing_id,
              (
                uint_long f.outgoing_window,
                (uint_most f.handle, (uint_most f.delivery_count, (uint_most f.link_credit, (tt, (flag_most f.drain, (flag_most f.echo, tt)))))),
              ),
            ),
          ),
        ),
      );
}
