-- What is nested in a performative is read again as it was written.
use Rattle.std.proofs.Common.{◌≡◌, refl, sym, ap, subst, ◌∙◌, ℕ, suc, ◌<◌, ◌^◌, Bool, false, List, [], length, Option, Some, None, option_map, unwrap_or, is_some, IsUtf8, arith}
use Rattle.std.specs.Option.{option_zip}
use Rattle.amqp_types.specs.declared.code.Text.TheVariants as texts
use Rattle.amqp_types.specs.declared.code.Kind.TheVariants as kinds_of_lists
use Rattle.amqp_types.specs.Part.{Part, Null, Ulong, Sized, Nested, Seen}
use Rattle.amqp_types.specs.Items.{seen_of}
use Rattle.amqp_types.specs.Typed.{says_null, list_in, ulong_in, boolean_in}
use Rattle.amqp_types.specs.Grammar.{IsValue}
use Rattle.flow_counts.specs.declared.profile.TheConstants.{MAX_DEPTH}
use Rattle.amqp_types.specs.Writing.{levels_in_described, list_octets, descriptor_octets}
use Rattle.amqp_types.proofs.Deeper.{value_deeper}
use Rattle.amqp_types.proofs.Written.{list_nested, text_written}
use Rattle.amqp_types.proofs.Nested.{value_is}
use Rattle.amqp_perf.specs.declared.attach.Role.{Role}
use Rattle.amqp_perf.specs.declared.attach.Role.TheVariants.{Sender, Receiver}
use Rattle.amqp_perf.specs.declared.attach.SenderSettleMode.{SenderSettleMode}
use Rattle.amqp_perf.specs.declared.attach.SenderSettleMode.TheVariants.{Unsettled, Settled, Mixed}
use Rattle.amqp_perf.specs.declared.attach.ReceiverSettleMode.{ReceiverSettleMode}
use Rattle.amqp_perf.specs.declared.attach.ReceiverSettleMode.TheVariants.{First, Second}
use Rattle.amqp_perf.specs.declared.descriptor.Descriptor.TheVariants as descriptors
use Rattle.amqp_perf.specs.declared.table.FieldType.TheVariants as types
use Rattle.amqp_perf.specs.Descriptors.{descriptor_of_code, descriptor_named, described_list}
use Rattle.amqp_perf.specs.Tables.{optional, mandatory}
use Rattle.amqp_perf.specs.Nested.{StateFields, AddressFields, AText, AnOther, TerminusFields, TargetFields, ATerminus, ACoordinator, state_in, source_of, source_in, target_of, target_in, condition_of, condition_in, role_of, sender_mode_in, receiver_mode_in}
use Rattle.amqp_perf.specs.Meaning.{AnAttach, ADisposition, ADetach, AnEnd, AClose, AttachFields, DispositionFields, DetachFields}
use Rattle.amqp_perf.specs.Grammar.{IsPerformative}
use Rattle.amqp_perf.specs.SlotViews.{nested_view}
use Rattle.amqp_perf.specs.Slots.{uint_value, ulong_value, kept_value, or_null, values_of, octets_of, fields_octets, IsShortPart, CanStand, AllCanStand, AreShort}
use Rattle.amqp_perf.specs.Writing.{state_value, address_value, terminus_slots, source_octets, source_value, target_octets, target_value, error_slots, error_octets, error_value, octets_if, role_value, sender_mode_value, receiver_mode_value, disposition_slots, detach_slots, attach_slots, performative_octets, IsWritable, IfThere, IsWritableState, IsWritableAddress, IsWritableTerminus, IsWritableTarget, IsWritableError}
use Rattle.amqp_perf.proofs.Slots.{Suits, AreAt, stand_values, are_items, values_long, says_fields, fields_nested, descriptor_is}
use Rattle.amqp_perf.proofs.SlotValues.{uint_can, ulong_can, flag_can, role_can, sender_mode_can, receiver_mode_can, text_can}
use Rattle.amqp_perf.proofs.Spoken.{values_are}
use Rattle.amqp_perf.proofs.Again.{are_values, again_by, uint_again, flag_again, uint_suits, flag_suits}

-- ---- described lists

-- a described list that was written is seen as one
pub seen_again : (code : ℕ) (ss : List (Option Seen)) → AllCanStand 28 ss → AreShort ss → kept_value (fields_octets code ss) ≡ record { octets = fields_octets code ss; part = says_fields code ss }
seen_again code ss can few =
    let is : IsValue MAX_DEPTH (fields_octets code ss) (says_fields code ss) = value_deeper 30 MAX_DEPTH (fields_octets code ss) (says_fields code ss) (omega arith) (fields_nested 27 code ss can few) in
    ap (λ (x : Seen). record { octets = fields_octets code ss; part = x.part }) (value_is (fields_octets code ss) (says_fields code ss) is)

nested_can : (code : ℕ) (ss : List (Option Seen)) → AllCanStand 28 ss → AreShort ss → CanStand levels_in_described (Some (kept_value (fields_octets code ss)))
nested_can code ss can few = subst (λ (v : Seen). CanStand levels_in_described (Some v)) (sym (seen_again code ss can few)) (fields_nested 27 code ss can few, tt)

-- what its descriptor names, and its fields
pub described_again : (code : ℕ) (ss : List (Option Seen)) → AllCanStand 28 ss → AreShort ss → described_list (says_fields code ss) ≡ option_zip (descriptor_of_code code) (Some (values_of ss))
described_again code ss can few =
    let vs = values_of ss in
    let d = descriptor_octets code in
    let l = list_octets (length vs) (octets_of vs) in
    let at : AreAt 28 vs = stand_values 27 ss can in
    let fits : length vs < 2 ^ 32 = omega (arith, values_long 28 vs at) in
    let list : IsValue 29 l (Nested kinds_of_lists.List (length vs) (octets_of vs)) = list_nested (length vs) (octets_of vs) few fits 28 (are_items 28 vs at) in
    let dv : (seen_of d).part ≡ Ulong code = ap (λ (x : Seen). x.part) (value_is d (Ulong code) (descriptor_is 31 code)) in
    let lv : (seen_of l).part ≡ Nested kinds_of_lists.List (length vs) (octets_of vs) =
    ap (λ (x : Seen). x.part) (value_is l (Nested kinds_of_lists.List (length vs) (octets_of vs)) (value_deeper 29 MAX_DEPTH l (Nested kinds_of_lists.List (length vs) (octets_of vs)) (omega arith) list)) in
    ap (λ (p : Part). option_zip (descriptor_named p) (list_in (seen_of l).part)) dv
    ∙ ap (λ (p : Part). option_zip (descriptor_of_code code) (list_in p)) lv
    ∙ ap (λ (ps : List Seen). option_zip (descriptor_of_code code) (Some ps)) (values_are (length vs) (octets_of vs) vs (are_values 28 vs (omega arith) at))

nested_again : (code : ℕ) (ss : List (Option Seen)) → AllCanStand 28 ss → AreShort ss
    → described_list (kept_value (fields_octets code ss)).part ≡ option_zip (descriptor_of_code code) (Some (values_of ss))
nested_again code ss can few = ap (λ (v : Seen). described_list v.part) (seen_again code ss can few) ∙ described_again code ss can few

nested_there : (code : ℕ) (ss : List (Option Seen)) → AllCanStand 28 ss → AreShort ss → says_null (kept_value (fields_octets code ss)).part ≡ false
nested_there code ss can few = ap (λ (v : Seen). says_null v.part) (seen_again code ss can few)

-- ---- errors

error_slots_can : (condition : List ℕ) → IsWritableError condition → AllCanStand 28 (error_slots condition)
error_slots_can condition is = (((text_written texts.Symbol condition is.short is.ascii).is 27, (is.short, is.ascii)), tt)

pub error_slots_stand : (condition : List ℕ) → IsWritableError condition → AllCanStand levels_in_described (error_slots condition)
error_slots_stand condition is = (((text_written texts.Symbol condition is.short is.ascii).is 29, (is.short, is.ascii)), tt)

pub error_can : (error : Option (List ℕ)) → IfThere IsWritableError error → CanStand levels_in_described (option_map error_value error)
error_can None is = tt
error_can (Some condition) is = nested_can 0x1D (error_slots condition) (error_slots_can condition is) is.few

pub error_again : (error : Option (List ℕ)) → IfThere IsWritableError error → condition_in (or_null (option_map error_value error)) ≡ error
unfolding descriptor_of_code
error_again None is = refl
error_again (Some condition) is = ap condition_of (nested_again 0x1D (error_slots condition) (error_slots_can condition is) is.few)

pub error_suits : (error : Option (List ℕ)) → IfThere IsWritableError error → Suits (optional types.Any) (option_map error_value error)
error_suits None is = refl
error_suits (Some condition) is = (nested_there 0x1D (error_slots condition) (error_slots_can condition is) is.few, refl)

-- ---- states

state_part : (octets : List ℕ) (part : Part) (state : StateFields) → state_in (record { octets = octets; part = part }) ≡ Some state → IsShortPart part
state_part octets (Sized text content) state e = absurd cc
state_part octets _ state e = tt

state_there : (octets : List ℕ) (part : Part) (state : StateFields) → state_in (record { octets = octets; part = part }) ≡ Some state → says_null part ≡ false
state_there octets Null state e = absurd cc
state_there octets _ state e = refl

state_seen : (state : StateFields) (is : IsWritableState state) → state_value state ≡ record { octets = state.octets; part = is.says }
state_seen state is =
    ap (λ (x : Seen). record { octets = state.octets; part = x.part }) (value_is state.octets is.says (value_deeper levels_in_described MAX_DEPTH state.octets is.says (omega arith) is.is))

pub state_can : (state : Option StateFields) → IfThere IsWritableState state → CanStand levels_in_described (option_map state_value state)
state_can None is = tt
state_can (Some state) is =
    subst (λ (v : Seen). CanStand levels_in_described (Some v)) (sym (state_seen state is)) (is.is, state_part state.octets is.says state is.means)

pub state_again : (state : Option StateFields) → IfThere IsWritableState state → state_in (or_null (option_map state_value state)) ≡ state
state_again None is = refl
state_again (Some state) is = ap state_in (state_seen state is) ∙ is.means

pub state_suits : (state : Option StateFields) → IfThere IsWritableState state → Suits (optional types.State) (option_map state_value state)
state_suits None is = refl
state_suits (Some state) is =
    (ap (λ (v : Seen). says_null v.part) (state_seen state is) ∙ state_there state.octets is.says state is.means, ap is_some (state_again (Some state) is))

-- ---- sources and targets

address_can : (levels : ℕ) (address : Option AddressFields) → IfThere IsWritableAddress address → CanStand (suc levels) (option_map address_value address)
address_can levels None is = tt
address_can levels (Some (AText text)) is = text_can text is.0 is.1 levels
address_can levels (Some (AnOther octets)) is = absurd is

pub terminus_can : (levels : ℕ) (terminus : TerminusFields) → IsWritableTerminus terminus → AllCanStand (suc levels) (terminus_slots terminus)
terminus_can levels terminus is = (address_can levels terminus.address is.address, (tt, (tt, (tt, (flag_can terminus.dynamic levels, tt)))))

source_says : (address : Option AddressFields) (dynamic : Option Bool) → IfThere IsWritableAddress address
    → source_of (Some (descriptors.Source, values_of (terminus_slots (record { address = address; dynamic = dynamic })))) ≡ Some (record { address = address; dynamic = dynamic })
source_says None None is = refl
source_says None (Some b) is = refl
source_says (Some (AText text)) None is = refl
source_says (Some (AText text)) (Some b) is = refl
source_says (Some (AnOther octets)) dynamic is = absurd is

target_says : (address : Option AddressFields) (dynamic : Option Bool) → IfThere IsWritableAddress address
    → target_of (Some (descriptors.Target, values_of (terminus_slots (record { address = address; dynamic = dynamic })))) ≡ Some (ATerminus (record { address = address; dynamic = dynamic }))
target_says None None is = refl
target_says None (Some b) is = refl
target_says (Some (AText text)) None is = refl
target_says (Some (AText text)) (Some b) is = refl
target_says (Some (AnOther octets)) dynamic is = absurd is

pub none_short : AreShort []
none_short = omega arith

pub source_can : (source : Option TerminusFields) → IfThere IsWritableTerminus source → CanStand levels_in_described (option_map source_value source)
source_can None is = tt
source_can (Some terminus) is = nested_can 0x28 (terminus_slots terminus) (terminus_can 27 terminus is) is.few

pub source_again : (source : Option TerminusFields) → IfThere IsWritableTerminus source → source_in (or_null (option_map source_value source)) ≡ source
unfolding descriptor_of_code
source_again None is = refl
source_again (Some terminus) is =
    ap source_of (nested_again 0x28 (terminus_slots terminus) (terminus_can 27 terminus is) is.few) ∙ source_says terminus.address terminus.dynamic is.address

pub source_suits : (source : Option TerminusFields) → IfThere IsWritableTerminus source → Suits (optional types.Source) (option_map source_value source)
source_suits None is = refl
source_suits (Some terminus) is =
    (nested_there 0x28 (terminus_slots terminus) (terminus_can 27 terminus is) is.few, ap is_some (source_again (Some terminus) is))

pub target_can : (target : Option TargetFields) → IfThere IsWritableTarget target → CanStand levels_in_described (option_map target_value target)
target_can None is = tt
target_can (Some (ATerminus terminus)) is = nested_can 0x29 (terminus_slots terminus) (terminus_can 27 terminus is) is.few
target_can (Some ACoordinator) is = nested_can 0x30 [] tt none_short

pub target_again : (target : Option TargetFields) → IfThere IsWritableTarget target → target_in (or_null (option_map target_value target)) ≡ target
unfolding descriptor_of_code
target_again None is = refl
target_again (Some (ATerminus terminus)) is =
    ap target_of (nested_again 0x29 (terminus_slots terminus) (terminus_can 27 terminus is) is.few) ∙ target_says terminus.address terminus.dynamic is.address
target_again (Some ACoordinator) is = ap target_of (nested_again 0x30 [] tt none_short)

pub target_suits : (target : Option TargetFields) → IfThere IsWritableTarget target → Suits (optional types.Target) (option_map target_value target)
target_suits None is = refl
target_suits (Some (ATerminus terminus)) is =
    (nested_there 0x29 (terminus_slots terminus) (terminus_can 27 terminus is) is.few, ap is_some (target_again (Some (ATerminus terminus)) is))
target_suits (Some ACoordinator) is = (nested_there 0x30 [] tt none_short, ap is_some (target_again (Some ACoordinator) is))

-- ---- what is written elsewhere

pub source_slot : (source : Option TerminusFields) → nested_view (octets_if source_octets source) ≡ option_map source_value source
source_slot None = refl
source_slot (Some terminus) = refl

pub target_slot : (target : Option TargetFields) → nested_view (octets_if target_octets target) ≡ option_map target_value target
target_slot None = refl
target_slot (Some (ATerminus terminus)) = refl
target_slot (Some ACoordinator) = refl

pub error_slot : (error : Option (List ℕ)) → nested_view (octets_if error_octets error) ≡ option_map error_value error
error_slot None = refl
error_slot (Some condition) = refl

-- ---- performatives with something nested in them

role_again : (role : Role) → role_of (unwrap_or (boolean_in (role_value role).part) false) ≡ role
role_again Sender = refl
role_again Receiver = refl

role_suits : (role : Role) → Suits (mandatory types.Boolean) (Some (role_value role))
role_suits Sender = (refl, refl)
role_suits Receiver = (refl, refl)

sender_mode_again : (mode : Option SenderSettleMode) → sender_mode_in (or_null (option_map sender_mode_value mode)).part ≡ mode
sender_mode_again None = refl
sender_mode_again (Some Unsettled) = refl
sender_mode_again (Some Settled) = refl
sender_mode_again (Some Mixed) = refl

sender_mode_suits : (mode : Option SenderSettleMode) → Suits (optional types.SenderMode) (option_map sender_mode_value mode)
sender_mode_suits None = refl
sender_mode_suits (Some Unsettled) = (refl, refl)
sender_mode_suits (Some Settled) = (refl, refl)
sender_mode_suits (Some Mixed) = (refl, refl)

receiver_mode_again : (mode : Option ReceiverSettleMode) → receiver_mode_in (or_null (option_map receiver_mode_value mode)).part ≡ mode
receiver_mode_again None = refl
receiver_mode_again (Some First) = refl
receiver_mode_again (Some Second) = refl

receiver_mode_suits : (mode : Option ReceiverSettleMode) → Suits (optional types.ReceiverMode) (option_map receiver_mode_value mode)
receiver_mode_suits None = refl
receiver_mode_suits (Some First) = (refl, refl)
receiver_mode_suits (Some Second) = (refl, refl)

ulong_again : (x : Option ℕ) → ulong_in (or_null (option_map ulong_value x)).part ≡ x
ulong_again None = refl
ulong_again (Some n) = refl

any_ulong_suits : (x : Option ℕ) → Suits (optional types.Any) (option_map ulong_value x)
any_ulong_suits None = refl
any_ulong_suits (Some n) = (refl, refl)

pub disposition_again : (d : DispositionFields) → AllCanStand levels_in_described (disposition_slots d) → IsWritable (ADisposition d) → IsPerformative (performative_octets (ADisposition d)) (ADisposition d)
disposition_again d can is =
    again_by (ADisposition d) can is.few (role_suits d.role, ((refl, refl), (uint_suits d.last, (flag_suits d.settled, (state_suits d.state is.fields, (refl, tt))))))
    (rw (role_again d.role, uint_again d.last, flag_again d.settled, state_again d.state is.fields) refl)

pub detach_again : (d : DetachFields) → AllCanStand levels_in_described (detach_slots d) → IsWritable (ADetach d) → IsPerformative (performative_octets (ADetach d)) (ADetach d)
detach_again d can is =
    again_by (ADetach d) can is.few ((refl, refl), (flag_suits d.closed, (error_suits d.error is.fields, tt)))
    (rw (flag_again d.closed, error_again d.error is.fields) refl)

pub end_again : (e : Option (List ℕ)) → IsWritable (AnEnd e) → IsPerformative (performative_octets (AnEnd e)) (AnEnd e)
end_again e is = again_by (AnEnd e) (error_can e is.fields, tt) is.few (error_suits e is.fields, tt) (rw (error_again e is.fields) refl)

pub close_again : (e : Option (List ℕ)) → IsWritable (AClose e) → IsPerformative (performative_octets (AClose e)) (AClose e)
close_again e is = again_by (AClose e) (error_can e is.fields, tt) is.few (error_suits e is.fields, tt) (rw (error_again e is.fields) refl)

pub attach_again : (a : AttachFields) → AllCanStand levels_in_described (attach_slots a) → IsWritable (AnAttach a) → IsPerformative (performative_octets (AnAttach a)) (AnAttach a)
attach_again a can is =
    again_by (AnAttach a) can is.few (
      (refl, refl),
      (
        (refl, refl),
        (
          role_suits a.role,
          (
            sender_mode_suits a.snd_settle_mode,
            (
              receiver_mode_suits a.rcv_settle_mode,
              (
                source_suits a.source is.fields.1,
                (
                  target_suits a.target is.fields.2,
                  (refl, (refl, (uint_suits a.initial_delivery_count, (any_ulong_suits a.max_message_size, (refl, (refl, (refl, tt))))))),
                ),
              ),
            ),
          ),
        ),
      ),
    )
    (rw (
      role_again a.role,
      sender_mode_again a.snd_settle_mode,
      receiver_mode_again a.rcv_settle_mode,
      source_again a.source is.fields.1,
      target_again a.target is.fields.2,
      uint_again a.initial_delivery_count,
      ulong_again a.max_message_size,
    ) refl)

uint_there : (x : Option ℕ) → ((n : ℕ) → x ≡ Some n → n < 2 ^ 32) → CanStand levels_in_described (option_map uint_value x)
uint_there None fits = tt
uint_there (Some n) fits = uint_can n (fits n refl) 29

ulong_there : (x : Option ℕ) → ((n : ℕ) → x ≡ Some n → n < 2 ^ 64) → CanStand levels_in_described (option_map ulong_value x)
ulong_there None fits = tt
ulong_there (Some n) fits = ulong_can n (fits n refl) 29

-- an attach whose numbers fit their types, and whose texts and termini can be written
attach_can : (a : AttachFields) → a.handle < 2 ^ 32 → ((n : ℕ) → a.initial_delivery_count ≡ Some n → n < 2 ^ 32) → ((n : ℕ) → a.max_message_size ≡ Some n → n < 2 ^ 64) → IsUtf8 a.name → IsWritable (AnAttach a)
    → AllCanStand levels_in_described (attach_slots a)
attach_can a handle count size name is = (
  text_can a.name is.fields.0 name 29,
  (
    uint_can a.handle handle 29,
    (
      role_can a.role 29,
      (
        sender_mode_can a.snd_settle_mode 29,
        (
          receiver_mode_can a.rcv_settle_mode 29,
          (source_can a.source is.fields.1, (target_can a.target is.fields.2, (tt, (tt, (uint_there a.initial_delivery_count count, (ulong_there a.max_message_size size, tt)))))),
        ),
      ),
    ),
  ),
)

pub attach_read_again : (a : AttachFields) → a.handle < 2 ^ 32 → ((n : ℕ) → a.initial_delivery_count ≡ Some n → n < 2 ^ 32) → ((n : ℕ) → a.max_message_size ≡ Some n → n < 2 ^ 64) → IsUtf8 a.name → IsWritable (AnAttach a)
    → IsPerformative (performative_octets (AnAttach a)) (AnAttach a)
attach_read_again a handle count size name is = attach_again a (attach_can a handle count size name is) is
