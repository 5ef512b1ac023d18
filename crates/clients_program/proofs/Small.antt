-- What the clients say can be written, in few octets.
use Rattle.std.proofs.Common.{◌≡◌, ℕ, zero, suc, ◌*◌, ◌≤◌, Bool, false, true, ◌&&◌, nat_lt, List, [], ◌∷◌, length, Option, codes, IsAscii, lit≤, refl, arith}
use Rattle.std.specs.List.{list_all}
use Rattle.std.proofs.lemmas.Bool.{ltb-true}
use Rattle.std.proofs.lemmas.Str.Ascii.{IsAscii-nil}
use Rattle.std.proofs.lemmas.Str.{IsUtf8-from_ascii}
use Rattle.flow_counts.specs.declared.profile.TheConstants.{MAX_FRAME_SIZE}
use Rattle.amqp_types.specs.declared.code.Text.TheVariants as texts
use Rattle.amqp_types.specs.Part.{Seen}
use Rattle.amqp_types.proofs.Shortest.{uint_long, text_long, list_long}
use Rattle.amqp_perf.specs.declared.attach.Role.{Role}
use Rattle.amqp_perf.specs.declared.attach.Role.TheVariants.{Sender, Receiver}
use Rattle.amqp_perf.specs.declared.descriptor.Outcome.{Outcome}
use Rattle.amqp_perf.specs.declared.descriptor.Outcome.TheVariants.{Accepted, Rejected, Released, Modified}
use Rattle.amqp_perf.specs.Meaning.{Meaning}
use Rattle.amqp_perf.specs.Nested.{TerminusFields}
use Rattle.amqp_perf.specs.Router.{bare_terminus, terminus_at, bare_state}
use Rattle.amqp_perf.specs.Slots.{values_of, octets_of, fields_octets}
use Rattle.amqp_perf.specs.Writing.{role_value, terminus_slots, slots_of, HasWritableFields, IsWritableTerminus}
use Rattle.amqp_perf.proofs.Lengths.{AllAtMost, room, fields_long, flag_long}
use Rattle.amqp_perf.proofs.Writable.{bare_state_writable}
use Rattle.clients_program.specs.declared.said.TheConstants.{WINDOW}
use Rattle.clients_program.specs.Said.{IsSmall, opened, begun, greetings, consuming, producing, crediting, sending, deciding, closed}

room_is : (fields : List (Option Seen)) → room 300 fields ≡ 300 * length fields
room_is [] = refl
room_is (f ∷ fs) = omega (arith, room_is fs)

-- fields of at most 300 octets, as many as an attach has or fewer
small : (m : Meaning) → HasWritableFields m → length (slots_of m) ≤ 11 → AllAtMost 300 (slots_of m) → IsSmall m
small m fields count each =
    let long = fields_long 300 (slots_of m) (omega arith) each in
    record {
      writable = record { fields = fields; few = omega (arith, long, room_is (slots_of m)) };
      few = omega (arith, long, room_is (slots_of m), list_long (length (values_of (slots_of m))) (octets_of (values_of (slots_of m))));
    }

role_long : (r : Role) → length (role_value r).octets ≤ 5
role_long Sender = flag_long false
role_long Receiver = flag_long true

-- ---- the ends of a link

both : (a b : Bool) → (a && b) ≡ true → (a ≡ true) × (b ≡ true)
both true b e = (refl, e)
both false b e = absurd cc

are_ascii : (bs : List ℕ) → list_all (λ b. nat_lt b 128) bs ≡ true → IsAscii bs
are_ascii [] e i = IsAscii-nil i
are_ascii (b ∷ bs) e zero = ltb-true b 128 (both (nat_lt b 128) (list_all (λ b. nat_lt b 128) bs) e).0
are_ascii (b ∷ bs) e (suc i) = are_ascii bs (both (nat_lt b 128) (list_all (λ b. nat_lt b 128) bs) e).1 i

bare_few : length (octets_of (values_of (terminus_slots bare_terminus))) ≤ 200
bare_few = omega (arith, fields_long 40 (terminus_slots bare_terminus) (omega arith) (tt, (tt, (tt, (tt, (tt, tt))))))

greetings_few : length (octets_of (values_of (terminus_slots (terminus_at greetings)))) ≤ 200
greetings_few = omega (arith, fields_long 40 (terminus_slots (terminus_at greetings)) (omega arith) (omega (arith, text_long texts.Str greetings), (tt, (tt, (tt, (tt, tt))))))

bare_writable : IsWritableTerminus bare_terminus
bare_writable = record { address = tt; few = omega (arith, bare_few) }

greetings_writable : IsWritableTerminus (terminus_at greetings)
greetings_writable = record { address = (omega arith, IsUtf8-from_ascii greetings (are_ascii greetings refl)); few = omega (arith, greetings_few) }

-- a source or a target
end_long : (code : ℕ) (t : TerminusFields) → length (octets_of (values_of (terminus_slots t))) ≤ 200 → length (fields_octets code (terminus_slots t)) ≤ 300
end_long code t few = omega (arith, few, list_long (length (values_of (terminus_slots t))) (octets_of (values_of (terminus_slots t))))

-- ---- performatives

pub open_small : (name : List ℕ) → length name ≤ 100 → IsSmall (opened name)
open_small name short = small (opened name) (omega arith) (omega arith) (omega (arith, text_long texts.Str name), (tt, (omega (arith, uint_long MAX_FRAME_SIZE), (tt, (tt, tt)))))

pub begin_small : IsSmall begun
begin_small = small begun tt (omega arith) (tt, (omega (arith, uint_long 0), (omega (arith, uint_long WINDOW), (omega (arith, uint_long WINDOW), (tt, tt)))))

pub consume_small : IsSmall consuming
consume_small =
    small consuming (omega arith, greetings_writable, bare_writable) (omega arith) (
      omega (arith, text_long texts.Str (codes "greeted")),
      (
        omega (arith, uint_long 0),
        (omega (arith, role_long Receiver), (tt, (tt, (end_long 0x28 (terminus_at greetings) greetings_few, (end_long 0x29 bare_terminus bare_few, (tt, (tt, (tt, (tt, tt))))))))),
      ),
    )

pub produce_small : IsSmall producing
produce_small =
    small producing (omega arith, bare_writable, greetings_writable) (omega arith) (
      omega (arith, text_long texts.Str (codes "greeting")),
      (
        omega (arith, uint_long 0),
        (
          omega (arith, role_long Sender),
          (tt, (tt, (end_long 0x28 bare_terminus bare_few, (end_long 0x29 (terminus_at greetings) greetings_few, (tt, (tt, (omega (arith, uint_long 0), (tt, tt)))))))),
        ),
      ),
    )

pub credit_small : (count : ℕ) → IsSmall (crediting count)
credit_small count =
    small (crediting count) tt (omega arith) (
      omega (arith, uint_long 0),
      (
        omega (arith, uint_long WINDOW),
        (
          omega (arith, uint_long 0),
          (
            omega (arith, uint_long WINDOW),
            (omega (arith, uint_long 0), (omega (arith, uint_long 0), (omega (arith, uint_long count), (tt, (tt, (tt, tt)))))),
          ),
        ),
      ),
    )

pub transfer_small : (id : ℕ) (tag : List ℕ) → length tag ≤ 32 → IsSmall (sending id tag)
transfer_small id tag short =
    small (sending id tag) (omega arith) (omega arith) (
      omega (arith, uint_long 0),
      (
        omega (arith, uint_long id),
        (
          omega (arith, text_long texts.Binary tag),
          (omega (arith, uint_long 0), (omega (arith, flag_long false), (omega (arith, flag_long false), (tt, (tt, (tt, (tt, tt))))))),
        ),
      ),
    )

state_few : (outcome : Outcome) → length (bare_state outcome).octets ≤ 300
state_few Accepted = lit≤ tt
state_few Rejected = lit≤ tt
state_few Released = lit≤ tt
state_few Modified = lit≤ tt

pub decide_small : (id : ℕ) (outcome : Outcome) → IsSmall (deciding id outcome)
decide_small id outcome =
    small (deciding id outcome) (bare_state_writable outcome) (omega arith) (
      omega (arith, role_long Receiver),
      (omega (arith, uint_long id), (tt, (omega (arith, flag_long true), (state_few outcome, tt)))),
    )

pub close_small : IsSmall closed
close_small = small closed tt (omega arith) (tt, tt)
