-- How long the frames of answers are: each fits the shortest limit that a client may set.
use Rattle.std.proofs.Common.{◌≡◌, refl, ℕ, ◌+◌, ◌≤◌, Bool, true, false, List, [], ◌∷◌, ◌++◌, map, length, Option, Some, None, option_map, unwrap_or, lit≤, arith}
use Rattle.std.proofs.lemmas.List.{length-append}
use Rattle.std.proofs.lemmas.List.Concat.{flat_map-cons}
use Rattle.byteorder.specs.Endian.{big_bytes}
use Rattle.byteorder.specs.Numbers.{length-bytes_high_first}
use Rattle.amqp_types.specs.Part.{Seen}
use Rattle.amqp_types.specs.Writing.{null_octets, boolean_octets, ubyte_octets, ushort_octets}
use Rattle.amqp_types.proofs.Shortest.{list_long, uint_long}
use Rattle.amqp_perf.specs.Meaning.{Meaning, OpenFields}
use Rattle.amqp_perf.specs.Slots.{or_null, used_before, used, values_of, octets_of, fields_octets, boolean_value, uint_value}
use Rattle.amqp_perf.specs.Writing.{performative_octets, code_of_kind, kind_of, slots_of}
use Rattle.amqp_frames.specs.Writing.{frame_octets, frame_size}
use Rattle.trace_events.specs.Frame.{Spoken}
use Rattle.trace_events.specs.Event.{Event}
use Rattle.trace_events.specs.Connection.{frame_limit, first_open, bounded_limit}
use Rattle.trace_events.specs.Written.{spoken_octets, says}

-- ---- fields, each within its own bound

abbrev pub IsWithin : ℕ → Option Seen → Type 0
IsWithin n None = 1 ≤ n
IsWithin n (Some value) = length value.octets ≤ n

abbrev pub AreWithin : List ℕ → List (Option Seen) → Type 0
AreWithin ns [] = Unit {0}
AreWithin [] (f ∷ fs) = ⊥
AreWithin (n ∷ ns) (f ∷ fs) = IsWithin n f × AreWithin ns fs

abbrev pub total : List ℕ → ℕ
total [] = 0
total (n ∷ ns) = n + total ns

null_long : length null_octets ≤ 1
unfolding null_octets
null_long = omega arith

one_long : (n : ℕ) (f : Option Seen) → IsWithin n f → length (or_null f).octets ≤ n
one_long n None h = omega (arith, null_long, h)
one_long n (Some value) h = h

cons_long : (v : Seen) (vs : List Seen) → length (octets_of (v ∷ vs)) ≡ length v.octets + length (octets_of vs)
cons_long v vs = rw (flat_map-cons (λ (value : Seen). value.octets) v vs, length-append v.octets (octets_of vs)) refl

before_long : (n m : ℕ) (us : List (Option Seen)) (f : Option Seen) → IsWithin n f → length (octets_of (map or_null us)) ≤ m → length (octets_of (map or_null (used_before us f))) ≤ n + m
before_long n m (u ∷ us) f h hs = omega (arith, cons_long (or_null f) (map or_null (u ∷ us)), one_long n f h)
before_long n m [] (Some value) h hs = omega (arith, cons_long value [], one_long n (Some value) h)
before_long n m [] None h hs = omega arith

pub slots_long : (ns : List ℕ) (fs : List (Option Seen)) → AreWithin ns fs → length (octets_of (values_of fs)) ≤ total ns
slots_long ns [] h = omega arith
slots_long [] (f ∷ fs) h = absurd h
slots_long (n ∷ ns) (f ∷ fs) h = before_long n (total ns) (used fs) f h.0 (slots_long ns fs h.1)

pub nested_long : (n code : ℕ) (fs : List (Option Seen)) → length (octets_of (values_of fs)) ≤ n → length (fields_octets code fs) ≤ 12 + n
nested_long n code fs h = omega (arith, list_long (length (values_of fs)) (octets_of (values_of fs)))

-- ---- simple fields

pub boolean_long : (b : Bool) → length (boolean_octets b) ≤ 1
unfolding boolean_octets
boolean_long true = omega arith
boolean_long false = omega arith

pub ubyte_long : (n : ℕ) → length (ubyte_octets n) ≤ 2
unfolding ubyte_octets
ubyte_long n = lit≤ tt

pub ushort_long : (n : ℕ) → length (ushort_octets n) ≤ 3
unfolding ushort_octets
ushort_long n = lit≤ tt

pub uint_within : (x : Option ℕ) → IsWithin 5 (option_map uint_value x)
uint_within None = omega arith
uint_within (Some n) = uint_long n

pub flag_within : (x : Option Bool) → IsWithin 1 (option_map boolean_value x)
flag_within None = omega arith
flag_within (Some b) = boolean_long b

-- ---- frames

pub spoken_long : (spoken : Spoken) → length (spoken_octets spoken) ≡ 8 + (length (performative_octets spoken.meaning) + length spoken.payload)
unfolding spoken_octets frame_octets
spoken_long spoken =
    let body = performative_octets spoken.meaning ++ spoken.payload in
    omega (
      arith,
      length-append (big_bytes 4 (frame_size body)) (2 ∷ 0 ∷ (big_bytes 2 spoken.channel ++ body)),
      length-append (big_bytes 2 spoken.channel) body,
      length-append (performative_octets spoken.meaning) spoken.payload,
      length-bytes_high_first 4 (frame_size body),
      length-bytes_high_first 2 spoken.channel,
    )

limit_by : (o : Option OpenFields) → 512 ≤ unwrap_or (option_map bounded_limit o) 512
limit_by None = omega arith
limit_by (Some fields) = omega arith

-- a client takes frames of 512 octets
pub limit_least : (c : ℕ) (past : List Event) → 512 ≤ frame_limit c past
limit_least c past = limit_by (first_open c past)

limit_at_most : (o : Option OpenFields) → unwrap_or (option_map bounded_limit o) 512 ≤ 16384
limit_at_most None = omega arith
limit_at_most (Some fields) = omega arith

pub limit_most : (c : ℕ) (past : List Event) → frame_limit c past ≤ 16384
limit_most c past = limit_at_most (first_open c past)

-- by the octets of its fields
pub slots_fit : (channel : ℕ) (m : Meaning) (ns : List ℕ) → AreWithin ns (slots_of m) → total ns ≤ 492 → length (spoken_octets (says channel m)) ≤ 512
slots_fit channel m ns within few =
    omega (arith, spoken_long (says channel m), nested_long (total ns) (code_of_kind (kind_of m)) (slots_of m) (slots_long ns (slots_of m) within), few)

pub fits_all : (c : ℕ) (past : List Event) (octets : List ℕ) → length octets ≤ 512 → length octets ≤ frame_limit c past
fits_all c past octets short = omega (arith, short, limit_least c past)
