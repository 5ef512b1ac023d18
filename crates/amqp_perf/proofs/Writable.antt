-- What the router writes can be written.
use Rattle.std.proofs.Common.{◌≡◌, refl, ap, ◌∙◌, ℕ, ◌+◌, ◌≤◌, Bool, true, false, List, [], ◌∷◌, length, Option, Some, None, option_map, IsUtf8, codes, lit≤, arith}
use Rattle.std.specs.Option.{option_zip}
use Rattle.amqp_types.specs.declared.code.Text.TheVariants as texts
use Rattle.amqp_types.specs.Part.{Seen}
use Rattle.amqp_types.specs.Writing.{boolean_octets, ubyte_octets, list_octets}
use Rattle.amqp_types.proofs.Shortest.{uint_long, ulong_long, text_long, list_long}
use Rattle.flow_counts.specs.declared.profile.TheConstants.{MAX_FRAME_SIZE, CHANNEL_MAX, MAX_LINK_NAME, MAX_ADDRESS, MAX_DELIVERY_TAG}
use Rattle.amqp_perf.specs.declared.attach.Role.{Role}
use Rattle.amqp_perf.specs.declared.attach.Role.TheVariants.{Sender, Receiver}
use Rattle.amqp_perf.specs.declared.attach.SenderSettleMode.{SenderSettleMode}
use Rattle.amqp_perf.specs.declared.attach.SenderSettleMode.TheVariants.{Unsettled, Settled, Mixed}
use Rattle.amqp_perf.specs.declared.attach.ReceiverSettleMode.{ReceiverSettleMode}
use Rattle.amqp_perf.specs.declared.attach.ReceiverSettleMode.TheVariants.{First, Second}
use Rattle.amqp_perf.specs.declared.condition.ErrorCondition.{ErrorCondition}
use Rattle.amqp_perf.specs.declared.condition.ErrorCondition.TheVariants.{FramingError, DecodeError, NotAllowed, InvalidField, HandleInUse, ResourceLimitExceeded, NotImplemented, WindowViolation, UnattachedHandle, TransferLimitExceeded, MessageSizeExceeded}
use Rattle.amqp_perf.specs.declared.descriptor.Outcome.{Outcome}
use Rattle.amqp_perf.specs.declared.descriptor.Outcome.TheVariants.{Accepted, Rejected, Released, Modified}
use Rattle.amqp_perf.specs.declared.descriptor.Descriptor.{Descriptor}
use Rattle.amqp_perf.specs.declared.descriptor.Descriptor.TheVariants as descriptors
use Rattle.amqp_perf.specs.Descriptors.{descriptor_of_code}
use Rattle.amqp_perf.specs.Nested.{StateFields, outcome_of}
use Rattle.amqp_perf.specs.Meaning.{AnOpen, AnAttach, ATransfer, ADisposition, ADetach, AnEnd, AClose, AttachFields}
use Rattle.amqp_perf.specs.Conditions.{condition_name}
use Rattle.amqp_perf.specs.Slots.{boolean_value, uint_value, ulong_value, values_of, octets_of, fields_octets, AllCanStand, AreShort}
use Rattle.amqp_perf.specs.Writing.{role_value, sender_mode_value, receiver_mode_value, source_value, target_value, state_value, error_value, error_slots, terminus_slots, open_slots, attach_slots, transfer_slots, disposition_slots, detach_slots, ending_slots, IsWritable, IsWritableState, IsWritableTerminus, IsWritableError, IfThere}
use Rattle.amqp_perf.specs.Router.{router_open, attach_to_producer, attach_to_consumer, attach_refused, bare_terminus, terminus_at, source_at, detach_with, first_transfer, later_transfer, outcome_told, settling, bare_state, delivery_failed, FitsFrame}
use Rattle.amqp_perf.proofs.Slots.{says_fields, fields_nested}
use Rattle.amqp_perf.proofs.NestedAgain.{described_again, none_short}
use Rattle.amqp_perf.proofs.SlotValues.{flag_can}
use Rattle.amqp_perf.proofs.Conditions.{condition_writable}
use Rattle.amqp_perf.proofs.Lengths.{AtMost, fields_long, ushort_long, flag_long}

-- ---- how long what is nested is

nested_long : (n code : ℕ) (ss : List (Option Seen)) → length (octets_of (values_of ss)) ≤ n → length (fields_octets code ss) ≤ 12 + n
nested_long n code ss h = omega (arith, list_long (length (values_of ss)) (octets_of (values_of ss)))

terminus_few : (address : List ℕ) → length address ≤ MAX_ADDRESS → length (octets_of (values_of (terminus_slots (terminus_at address)))) ≤ 850
terminus_few address h = fields_long 170 (terminus_slots (terminus_at address)) (omega arith) (omega (arith, text_long texts.Str address), (tt, (tt, (tt, (tt, tt)))))

bare_few : length (octets_of (values_of (terminus_slots bare_terminus))) ≤ 850
bare_few = fields_long 170 (terminus_slots bare_terminus) (omega arith) (tt, (tt, (tt, (tt, (tt, tt)))))

source_few : (address : List ℕ) (b : Bool) → length address ≤ MAX_ADDRESS → length (octets_of (values_of (terminus_slots (source_at address b)))) ≤ 850
source_few address true h =
    fields_long 170 (terminus_slots (source_at address true)) (omega arith) (omega (arith, text_long texts.Str address), (tt, (tt, (tt, (omega (arith, flag_long true), tt)))))
source_few address false h = terminus_few address h

at_writable : (address : List ℕ) → IsUtf8 address → length address ≤ MAX_ADDRESS → IsWritableTerminus (terminus_at address)
at_writable address text h = record { address = (omega arith, text); few = omega (arith, terminus_few address h) }

bare_writable : IsWritableTerminus bare_terminus
bare_writable = record { address = tt; few = omega (arith, bare_few) }

source_writable : (address : List ℕ) (b : Bool) → IsUtf8 address → length address ≤ MAX_ADDRESS → IsWritableTerminus (source_at address b)
source_writable address true text h = record { address = (omega arith, text); few = omega (arith, source_few address true h) }
source_writable address false text h = at_writable address text h

-- ---- attaches

role_long : (r : Role) → length (role_value r).octets ≤ 5
role_long Sender = flag_long false
role_long Receiver = flag_long true

sender_mode_long : (m : SenderSettleMode) → length (sender_mode_value m).octets ≤ 5
unfolding ubyte_octets
sender_mode_long Unsettled = lit≤ tt
sender_mode_long Settled = lit≤ tt
sender_mode_long Mixed = lit≤ tt

receiver_mode_long : (m : ReceiverSettleMode) → length (receiver_mode_value m).octets ≤ 5
unfolding ubyte_octets
receiver_mode_long First = lit≤ tt
receiver_mode_long Second = lit≤ tt

sender_mode_most : (m : Option SenderSettleMode) → AtMost 1000 (option_map sender_mode_value m)
sender_mode_most None = tt
sender_mode_most (Some m) = omega (arith, sender_mode_long m)

receiver_mode_most : (m : Option ReceiverSettleMode) → AtMost 1000 (option_map receiver_mode_value m)
receiver_mode_most None = tt
receiver_mode_most (Some m) = omega (arith, receiver_mode_long m)

uint_most : (n : Option ℕ) → AtMost 1000 (option_map uint_value n)
uint_most None = tt
uint_most (Some n) = omega (arith, uint_long n)

ulong_most : (n : Option ℕ) → AtMost 1000 (option_map ulong_value n)
ulong_most None = tt
ulong_most (Some n) = omega (arith, ulong_long n)

attach_few : (a : AttachFields) → length a.name ≤ MAX_LINK_NAME → AtMost 1000 (option_map source_value a.source) → AtMost 1000 (option_map target_value a.target) → AreShort (attach_slots a)
attach_few a name source target =
    omega (
      arith,
      fields_long 1000 (attach_slots a) (omega arith) (
        omega (arith, text_long texts.Str a.name),
        (
          omega (arith, uint_long a.handle),
          (
            omega (arith, role_long a.role),
            (
              sender_mode_most a.snd_settle_mode,
              (receiver_mode_most a.rcv_settle_mode, (source, (target, (tt, (tt, (uint_most a.initial_delivery_count, (ulong_most a.max_message_size, tt))))))),
            ),
          ),
        ),
      ),
    )

bare_long : (code : ℕ) → length (fields_octets code (terminus_slots bare_terminus)) ≤ 1000
bare_long code = omega (arith, nested_long 850 code (terminus_slots bare_terminus) bare_few)

pub to_producer_writable : (theirs : AttachFields) (address : List ℕ) → IsUtf8 address → length theirs.name ≤ MAX_LINK_NAME → length address ≤ MAX_ADDRESS → IsWritable (AnAttach (attach_to_producer theirs address))
to_producer_writable theirs address text name short = record {
  fields = (omega arith, bare_writable, at_writable address text short);
  few =
      attach_few (attach_to_producer theirs address) name (bare_long 0x28)
      (omega (arith, nested_long 850 0x29 (terminus_slots (terminus_at address)) (terminus_few address short)));
}

pub to_consumer_writable : (theirs : AttachFields) (address : List ℕ) (is_dynamic : Bool) (mode : SenderSettleMode) → IsUtf8 address → length theirs.name ≤ MAX_LINK_NAME → length address ≤ MAX_ADDRESS
    → IsWritable (AnAttach (attach_to_consumer theirs address is_dynamic mode))
to_consumer_writable theirs address is_dynamic mode text name short = record {
  fields = (omega arith, source_writable address is_dynamic text short, bare_writable);
  few =
      attach_few (attach_to_consumer theirs address is_dynamic mode) name
      (omega (arith, nested_long 850 0x28 (terminus_slots (source_at address is_dynamic)) (source_few address is_dynamic short)))
      (bare_long 0x29);
}

pub refused_writable : (theirs : AttachFields) → length theirs.name ≤ MAX_LINK_NAME → IsWritable (AnAttach (attach_refused theirs))
refused_writable theirs name = record { fields = (omega arith, tt, tt); few = attach_few (attach_refused theirs) name tt tt }

-- ---- errors

condition_long : (c : ErrorCondition) → length (condition_name c) ≤ 40
condition_long FramingError = lit≤ tt
condition_long DecodeError = lit≤ tt
condition_long NotAllowed = lit≤ tt
condition_long InvalidField = lit≤ tt
condition_long HandleInUse = lit≤ tt
condition_long ResourceLimitExceeded = lit≤ tt
condition_long NotImplemented = lit≤ tt
condition_long WindowViolation = lit≤ tt
condition_long UnattachedHandle = lit≤ tt
condition_long TransferLimitExceeded = lit≤ tt
condition_long MessageSizeExceeded = lit≤ tt

error_most : (e : Option ErrorCondition) → AtMost 100 (option_map error_value (option_map condition_name e))
error_most None = tt
error_most (Some c) =
    omega (arith, nested_long 45 0x1D (error_slots (condition_name c)) (fields_long 45 (error_slots (condition_name c)) (omega arith) (omega (arith, text_long texts.Symbol (condition_name c), condition_long c), tt)))

error_writable : (e : Option ErrorCondition) → IfThere IsWritableError (option_map condition_name e)
error_writable None = tt
error_writable (Some c) = condition_writable c

ending_few : (e : Option ErrorCondition) → AreShort (ending_slots (option_map condition_name e))
ending_few e = omega (arith, fields_long 100 (ending_slots (option_map condition_name e)) (omega arith) (error_most e, tt))

pub end_writable : (e : Option ErrorCondition) → IsWritable (AnEnd (option_map condition_name e))
end_writable e = record { fields = error_writable e; few = ending_few e }

pub close_writable : (e : Option ErrorCondition) → IsWritable (AClose (option_map condition_name e))
close_writable e = record { fields = error_writable e; few = ending_few e }

pub detach_writable : (handle : ℕ) (closed : Bool) (e : Option ErrorCondition) → IsWritable (ADetach (detach_with handle closed e))
detach_writable handle closed e = record {
  fields = error_writable e;
  few = omega (arith, fields_long 100 (detach_slots (detach_with handle closed e)) (omega arith) (omega (arith, uint_long handle), (omega (arith, flag_long closed), (error_most e, tt))));
}

-- ---- connections

pub open_writable : IsWritable (AnOpen router_open)
open_writable = record {
  fields = lit≤ tt;
  few =
      omega (
        arith,
        fields_long 20 (open_slots router_open) (omega arith) (
          omega (arith, text_long texts.Str (codes "amqp-router")),
          (tt, (omega (arith, uint_long MAX_FRAME_SIZE), (omega (arith, ushort_long CHANNEL_MAX), (tt, tt)))),
        ),
      );
}

-- ---- deliveries

pub later_writable : (handle : ℕ) (more : Bool) → IsWritable (ATransfer (later_transfer handle more))
later_writable handle more = record {
  fields = tt;
  few =
      omega (
        arith,
        fields_long 5 (transfer_slots (later_transfer handle more)) (omega arith) (uint_long handle, (tt, (tt, (tt, (tt, (flag_long more, (tt, (tt, (tt, (tt, tt)))))))))),
      );
}

pub first_writable : (handle id : ℕ) (tag : List ℕ) (format : ℕ) (settled more : Bool) → length tag ≤ MAX_DELIVERY_TAG → IsWritable (ATransfer (first_transfer handle id tag format settled more))
first_writable handle id tag format settled more h = record {
  fields = omega arith;
  few =
      omega (
        arith,
        fields_long 50 (transfer_slots (first_transfer handle id tag format settled more)) (omega arith) (
          omega (arith, uint_long handle),
          (
            omega (arith, uint_long id),
            (omega (arith, text_long texts.Binary tag), (omega (arith, uint_long format), (omega (arith, flag_long settled), (omega (arith, flag_long more), (tt, (tt, (tt, (tt, tt)))))))),
          ),
        ),
      );
}

pub settling_writable : (id : ℕ) → IsWritable (ADisposition (settling id))
settling_writable id = record {
  fields = tt;
  few = omega (arith, fields_long 5 (disposition_slots (settling id)) (omega arith) (flag_long false, (uint_long id, (tt, (flag_long true, (tt, tt))))));
}

state_most : (state : Option StateFields) → IfThere FitsFrame state → AtMost MAX_FRAME_SIZE (option_map (λ (s : StateFields). state_value s) state)
state_most None h = tt
state_most (Some state) h = h

pub outcome_writable : (id : ℕ) (state : Option StateFields) → IfThere IsWritableState state → IfThere FitsFrame state → IsWritable (ADisposition (outcome_told id state))
outcome_writable id state is fits = record {
  fields = is;
  few =
      omega (
        arith,
        fields_long MAX_FRAME_SIZE (disposition_slots (outcome_told id state)) (omega arith) (
          omega (arith, flag_long true),
          (omega (arith, uint_long id), (tt, (omega (arith, flag_long true), (state_most state fits, tt)))),
        ),
      );
}

-- ---- states

-- an outcome with fields that can be written
outcome_state : (code : ℕ) (outcome : Outcome) (ss : List (Option Seen)) → descriptor_of_code code ≡ Some (descriptors.Outcome outcome) → AllCanStand 28 ss → AreShort ss
    → IsWritableState (record { octets = fields_octets code ss; outcome = Some outcome })
outcome_state code outcome ss named can few = record {
  says = says_fields code ss;
  is = fields_nested 27 code ss can few;
  means =
      ap (λ (o : Option Outcome). Some (record { octets = fields_octets code ss; outcome = o }))
      (ap outcome_of (described_again code ss can few) ∙ ap (λ (d : Option Descriptor). outcome_of (option_zip d (Some (values_of ss)))) named);
}

pub bare_state_writable : (outcome : Outcome) → IsWritableState (bare_state outcome)
unfolding descriptor_of_code list_octets
bare_state_writable Accepted = outcome_state 0x24 Accepted [] refl tt none_short
bare_state_writable Rejected = outcome_state 0x25 Rejected [] refl tt none_short
bare_state_writable Released = outcome_state 0x26 Released [] refl tt none_short
bare_state_writable Modified = outcome_state 0x27 Modified [] refl tt none_short

pub delivery_failed_writable : IsWritableState delivery_failed
unfolding descriptor_of_code list_octets boolean_octets
delivery_failed_writable = outcome_state 0x27 Modified (Some (boolean_value true) ∷ []) refl (flag_can (Some true) 27, tt) (omega arith)
