-- The answers to an attach say what the law asks of them, and are short.
use Rattle.std.proofs.Common.{◌≡◌, refl, sym, ap, ◌∙◌, ℕ, ◌≤◌, ◌<◌, ◌^◌, Bool, true, false, ◌&&◌, List, [], ◌∷◌, ◌++◌, length, Option, Some, None, option_map, option_and_then, nat_lt, codes, decimal, arith, if◌then◌else◌, subst}
use Rattle.std.specs.Prelude.{is_none, bytes_eq}
use Rattle.std.proofs.lemmas.Bool.{ltb-false}
use Rattle.std.proofs.lemmas.List.{length-append}
use Rattle.std.proofs.lemmas.Fmt.{length-decimal-le}
use Rattle.flow_counts.specs.declared.profile.TheConstants.{MAX_LINK_NAME, MAX_ADDRESS, MAX_MESSAGE_SIZE}
use Rattle.amqp_types.specs.declared.code.Text.TheVariants as texts
use Rattle.amqp_types.proofs.Shortest.{uint_long, ulong_long, text_long}
use Rattle.amqp_perf.specs.declared.attach.Role.{Role}
use Rattle.amqp_perf.specs.declared.attach.Role.TheVariants.{Sender, Receiver}
use Rattle.amqp_perf.specs.declared.attach.SenderSettleMode.{SenderSettleMode}
use Rattle.amqp_perf.specs.declared.attach.SenderSettleMode.TheVariants.{Unsettled, Settled, Mixed}
use Rattle.amqp_perf.specs.declared.attach.ReceiverSettleMode.{ReceiverSettleMode}
use Rattle.amqp_perf.specs.declared.attach.ReceiverSettleMode.TheVariants.{First, Second}
use Rattle.amqp_perf.specs.declared.condition.ErrorCondition.{ErrorCondition}
use Rattle.amqp_perf.specs.declared.condition.ErrorCondition.TheVariants.{InvalidField, NotImplemented, ResourceLimitExceeded}
use Rattle.amqp_perf.specs.Nested.{TerminusFields, TargetFields, ATerminus, ACoordinator, AddressFields, AText, AnOther}
use Rattle.amqp_perf.specs.Meaning.{AnAttach, AttachFields, sender_mode, receiver_mode, flag}
use Rattle.amqp_perf.specs.Router.{attach_to_producer, attach_to_consumer, attach_refused, source_at, bare_terminus, other_role, count_of_sender}
use Rattle.amqp_perf.specs.Slots.{fields_octets, octets_of, values_of, uint_value}
use Rattle.amqp_types.specs.Writing.{text_octets}
use Rattle.trace_events.specs.Words.{is_some_and}
use Rattle.amqp_perf.specs.Writing.{sender_mode_value, receiver_mode_value, role_value, source_octets, terminus_slots, slots_of, IsWritable, IsWritableTerminus}
use Rattle.capture_form.specs.Rules.{RuleSet}
use Rattle.trace_events.specs.declared.fault.Fault.{Fault}
use Rattle.trace_events.specs.declared.fault.Fault.TheVariants.{Close, End, Refuse, Detach}
use Rattle.trace_events.specs.declared.session.Session.{Session}
use Rattle.trace_events.specs.Event.{Event}
use Rattle.trace_events.specs.Said.{in_attach}
use Rattle.trace_events.specs.Link.{attaches_in, attaches_out, address_at, is_receiver, address_text, source_address, target_address}
use Rattle.trace_events.specs.Fault.{terminus_fault, address_fault, target_fault, target_address_fault, source_fault, source_address_fault}
use Rattle.trace_events.proofs.LinkSteps.{unanswered_attach-asked}
use Rattle.trace_events.specs.LinkClause.{Asking, asked_by, asking, asked_address, has_dynamic_source, is_without_address, answers_one, answers_attach, is_same_sender_mode, is_same_receiver_mode}
use Rattle.trace_events.specs.Written.{spoken_octets, says}
use Rattle.trace_duties.specs.Answer.{attach_answer, attach_to_anonymous}
use Rattle.route_answers.proofs.Words.{same_octets}
use Rattle.route_answers.proofs.Lengths.{IsWithin, AreWithin, slots_long, nested_long, slots_fit, boolean_long, ubyte_long, flag_within}

-- ---- what was asked for is answered

same_sender_mode : (m : SenderSettleMode) → is_same_sender_mode m m ≡ true
same_sender_mode Unsettled = refl
same_sender_mode Settled = refl
same_sender_mode Mixed = refl

same_receiver_mode : (m : ReceiverSettleMode) → is_same_receiver_mode m m ≡ true
same_receiver_mode First = refl
same_receiver_mode Second = refl

-- a client's attach of this role, asking for this address, with this fault
abbrev pub asked : AttachFields → List ℕ → Role → Option Fault → Asking
asked theirs address role fault = record {
  name = theirs.name;
  role = role;
  sender_mode = sender_mode theirs;
  receiver_mode = receiver_mode theirs;
  address = address;
  fault = fault;
}

module _ (theirs : AttachFields) (address : List ℕ) where
  producer_by : (role : Role) (fault : Option Fault) → role ≡ Sender → fault ≡ None → bytes_eq [] address ≡ false
      → answers_one (attach_to_producer theirs address) (asked theirs address role fault) ≡ true
  producer_by Sender None is none told = rw (told, same_octets theirs.name, same_octets address, same_sender_mode (sender_mode theirs)) refl
  producer_by Sender (Some fault) is none told = absurd cc
  producer_by Receiver fault is none told = absurd cc

  anonymous_by : (role : Role) (fault : Option Fault) → role ≡ Sender → fault ≡ None → bytes_eq [] address ≡ true
      → answers_one (attach_to_anonymous theirs) (asked theirs address role fault) ≡ true
  anonymous_by Sender None is none untold = rw (untold, same_octets theirs.name, same_sender_mode (sender_mode theirs)) refl
  anonymous_by Sender (Some fault) is none untold = absurd cc
  anonymous_by Receiver fault is none untold = absurd cc

  consumer_by : (role : Role) (fault : Option Fault) (dynamic : Bool) → role ≡ Receiver → fault ≡ None → bytes_eq [] address ≡ false
      → answers_one (attach_to_consumer theirs address dynamic (sender_mode theirs)) (asked theirs address role fault) ≡ true
  consumer_by Receiver None true is none told =
      rw (told, same_octets theirs.name, same_octets address, same_sender_mode (sender_mode theirs), same_receiver_mode (receiver_mode theirs)) refl
  consumer_by Receiver None false is none told =
      rw (told, same_octets theirs.name, same_octets address, same_sender_mode (sender_mode theirs), same_receiver_mode (receiver_mode theirs)) refl
  consumer_by Receiver (Some fault) dynamic is none told = absurd cc
  consumer_by Sender fault dynamic is none told = absurd cc

  refused_by : (role : Role) (fault : Option Fault) (condition : ErrorCondition) → theirs.role ≡ role → fault ≡ Some (Refuse condition)
      → answers_one (attach_refused theirs) (asked theirs address role fault) ≡ true
  refused_by Sender (Some (Refuse given)) condition same is = rw (same_octets theirs.name, same) refl
  refused_by Receiver (Some (Refuse given)) condition same is = rw (same_octets theirs.name, same) refl
  refused_by role None condition same is = absurd cc
  refused_by role (Some (Close given)) condition same is = absurd cc
  refused_by role (Some (End given)) condition same is = absurd cc
  refused_by role (Some (Detach given)) condition same is = absurd cc

-- ---- one without fault asks for an address, or is an anonymous sender's

producer_asks : (number : ℕ) (theirs : AttachFields) → theirs.role ≡ Sender → asked_address number theirs ≡ target_address theirs.target
producer_asks number theirs same =
    ap (λ r. if is_receiver r && is_some_and theirs.source (λ (s : TerminusFields). flag s.dynamic) then codes "dyn/" ++ decimal number else address_at (other_role r) theirs) same

consumer_asks : (number : ℕ) (theirs : AttachFields) → theirs.role ≡ Receiver
    → asked_address number theirs ≡ (if is_some_and theirs.source (λ (s : TerminusFields). flag s.dynamic) then codes "dyn/" ++ decimal number else source_address theirs.source)
consumer_asks number theirs same =
    ap (λ r. if is_receiver r && is_some_and theirs.source (λ (s : TerminusFields). flag s.dynamic) then codes "dyn/" ++ decimal number else address_at (other_role r) theirs) same

counted_by : (b : Bool) (o : Option Fault) → (if b then Some (Refuse InvalidField) else o) ≡ None → o ≡ None
counted_by true o is = absurd cc
counted_by false o is = is

text_told : (address : AddressFields) → address_fault address ≡ None → bytes_eq [] (address_text (Some address)) ≡ false
text_told (AnOther octets) is = absurd cc
text_told (AText []) is = absurd cc
text_told (AText (octet ∷ rest)) is = refl

target_told : (rules : RuleSet) (target : Option TargetFields) → target_fault rules target ≡ None → is_some_and target is_without_address ≡ false → bytes_eq [] (target_address target) ≡ false
target_told rules None is named = absurd cc
target_told rules (Some ACoordinator) is named = absurd cc
target_told rules (Some (ATerminus target)) is named = by (flag target.dynamic) target.address is named
  where
    by : (b : Bool) (address : Option AddressFields) → (if b then Some (Refuse NotImplemented) else target_address_fault rules address) ≡ None → is_none address ≡ false
        → bytes_eq [] (address_text address) ≡ false
    by true address is named = absurd cc
    by false None is named = absurd cc
    by false (Some address) is named = text_told address is

target_untold : (target : Option TargetFields) → is_some_and target is_without_address ≡ true → bytes_eq [] (target_address target) ≡ true
target_untold None is = absurd cc
target_untold (Some ACoordinator) is = absurd cc
target_untold (Some (ATerminus target)) is = by target.address is
  where
    by : (address : Option AddressFields) → is_none address ≡ true → bytes_eq [] (address_text address) ≡ true
    by None is = refl
    by (Some address) is = absurd cc

source_told : (number : ℕ) (source : Option TerminusFields) → source_fault source ≡ None
    → bytes_eq [] (if is_some_and source (λ (s : TerminusFields). flag s.dynamic) then codes "dyn/" ++ decimal number else source_address source) ≡ false
source_told number None is = absurd cc
source_told number (Some source) is = by (flag source.dynamic) source.address is
  where
    by : (b : Bool) (address : Option AddressFields) → (if b then None else source_address_fault address) ≡ None
        → bytes_eq [] (if b then codes "dyn/" ++ decimal number else address_text address) ≡ false
    by true address is = refl
    by false None is = absurd cc
    by false (Some address) is = text_told address is

-- the client's attach is what is to be answered
module _ (s : Session) (e : Event) (past : List Event) (theirs : AttachFields) (says_so : in_attach e ≡ Some theirs) (apart : attaches_out s theirs.handle e ≡ false)
    (here : attaches_in s theirs.handle e ≡ true) (heard : e.is_heard ≡ true) where
  pub asked_here : asking s theirs.handle (e ∷ past) ≡ Some (asked_by e theirs)
  asked_here =
      ap (option_and_then (λ (x : Event). option_map (asked_by x) (in_attach x))) (unanswered_attach-asked s theirs.handle e past apart here heard)
      ∙ ap (option_map (asked_by e)) says_so

  answers_by : (ours : AttachFields) → ours.handle ≡ theirs.handle → answers_one ours (asked_by e theirs) ≡ true → answers_attach ours (e ∷ past) s ≡ true
  answers_by ours same one =
      ap (λ h. is_some_and (asking s h (e ∷ past)) (answers_one ours)) same ∙ (ap (λ o. is_some_and o (answers_one ours)) asked_here ∙ one)

  -- a producer's, by whether it asks for an address
  producer_accepted : (anonymous : Bool) → theirs.role ≡ Sender → e.fault ≡ None → bytes_eq [] (asked_address e.number theirs) ≡ anonymous
      → answers_attach (if anonymous then attach_to_anonymous theirs else attach_to_producer theirs (asked_address e.number theirs)) (e ∷ past) s ≡ true
  producer_accepted true same none untold = answers_by (attach_to_anonymous theirs) refl (anonymous_by theirs (asked_address e.number theirs) theirs.role e.fault same none untold)
  producer_accepted false same none told =
      answers_by (attach_to_producer theirs (asked_address e.number theirs)) refl (producer_by theirs (asked_address e.number theirs) theirs.role e.fault same none told)

  pub accepted : (rules : RuleSet) (role : Role) → theirs.role ≡ role → e.fault ≡ None → terminus_fault rules theirs role ≡ None
      → answers_attach (attach_answer e.number theirs role) (e ∷ past) s ≡ true
  accepted rules Sender same none sound = producer_accepted (is_some_and theirs.target is_without_address) same none (by (is_some_and theirs.target is_without_address) refl)
    where
      by : (anonymous : Bool) → is_some_and theirs.target is_without_address ≡ anonymous → bytes_eq [] (asked_address e.number theirs) ≡ anonymous
      by true is = ap (bytes_eq []) (producer_asks e.number theirs same) ∙ target_untold theirs.target is
      by false is =
          ap (bytes_eq []) (producer_asks e.number theirs same)
          ∙ target_told rules theirs.target (counted_by (is_none theirs.initial_delivery_count) (target_fault rules theirs.target) sound) is
  accepted rules Receiver same none sound =
      answers_by (attach_answer e.number theirs Receiver) refl
      (consumer_by theirs (asked_address e.number theirs) theirs.role e.fault (has_dynamic_source theirs) same none
      (ap (bytes_eq []) (consumer_asks e.number theirs same) ∙ source_told e.number theirs.source sound))

  pub refused : (condition : ErrorCondition) → e.fault ≡ Some (Refuse condition) → answers_attach (attach_refused theirs) (e ∷ past) s ≡ true
  refused condition is = answers_by (attach_refused theirs) refl (refused_by theirs (asked_address e.number theirs) theirs.role e.fault condition refl is)

-- ---- addresses are short

octets_by : (b : Bool) (n : ℕ) → nat_lt MAX_ADDRESS n ≡ b → (if b then Some (Refuse ResourceLimitExceeded) else None) ≡ None → n ≤ MAX_ADDRESS
octets_by true n is none = absurd cc
octets_by false n is none = ltb-false MAX_ADDRESS n is

text_short : (address : AddressFields) → address_fault address ≡ None → length (address_text (Some address)) ≤ MAX_ADDRESS
text_short (AnOther octets) is = absurd cc
text_short (AText []) is = absurd cc
text_short (AText (octet ∷ rest)) is = octets_by (nat_lt MAX_ADDRESS (length (octet ∷ rest))) (length (octet ∷ rest)) refl is

target_text_short : (rules : RuleSet) (address : Option AddressFields) → target_address_fault rules address ≡ None → length (address_text address) ≤ MAX_ADDRESS
target_text_short rules None is = omega arith
target_text_short rules (Some address) is = text_short address is

source_text_short : (address : Option AddressFields) → source_address_fault address ≡ None → length (address_text address) ≤ MAX_ADDRESS
source_text_short None is = absurd cc
source_text_short (Some address) is = text_short address is

target_short : (rules : RuleSet) (target : Option TargetFields) → target_fault rules target ≡ None → length (target_address target) ≤ MAX_ADDRESS
target_short rules None is = absurd cc
target_short rules (Some ACoordinator) is = absurd cc
target_short rules (Some (ATerminus target)) is = by (flag target.dynamic) is
  where
    by : (b : Bool) → (if b then Some (Refuse NotImplemented) else target_address_fault rules target.address) ≡ None → length (address_text target.address) ≤ MAX_ADDRESS
    by true is = absurd cc
    by false is = target_text_short rules target.address is

-- a made up one has 24 octets at most
pub made_short : (number : ℕ) → number < 2 ^ 64 → length (codes "dyn/" ++ decimal number) ≤ MAX_ADDRESS
made_short number small = omega (arith, length-append (codes "dyn/") (decimal number), length-decimal-le 20 number (omega arith) (omega (arith, small)) small)

source_short : (number : ℕ) → number < 2 ^ 64 → (source : Option TerminusFields) → source_fault source ≡ None
    → length (if is_some_and source (λ (s : TerminusFields). flag s.dynamic) then codes "dyn/" ++ decimal number else source_address source) ≤ MAX_ADDRESS
source_short number small None is = absurd cc
source_short number small (Some source) is = by (flag source.dynamic) is
  where
    by : (b : Bool) → (if b then None else source_address_fault source.address) ≡ None → length (if b then codes "dyn/" ++ decimal number else address_text source.address) ≤ MAX_ADDRESS
    by true is = made_short number small
    by false is = source_text_short source.address is

-- that of a link which is accepted
pub address_short : (rules : RuleSet) (number : ℕ) → number < 2 ^ 64 → (theirs : AttachFields) (role : Role) → theirs.role ≡ role → terminus_fault rules theirs role ≡ None → length (asked_address number theirs) ≤ MAX_ADDRESS
address_short rules number small theirs Sender same is =
    subst (λ address. length address ≤ MAX_ADDRESS) (sym (producer_asks number theirs same))
    (target_short rules theirs.target (counted_by (is_none theirs.initial_delivery_count) (target_fault rules theirs.target) is))
address_short rules number small theirs Receiver same is =
    subst (λ address. length address ≤ MAX_ADDRESS) (sym (consumer_asks number theirs same)) (source_short number small theirs.source is)

-- ---- and so are the frames

sender_mode_long : (m : SenderSettleMode) → length (sender_mode_value m).octets ≤ 2
sender_mode_long Unsettled = ubyte_long 0
sender_mode_long Settled = ubyte_long 1
sender_mode_long Mixed = ubyte_long 2

receiver_mode_long : (m : ReceiverSettleMode) → length (receiver_mode_value m).octets ≤ 2
receiver_mode_long First = ubyte_long 0
receiver_mode_long Second = ubyte_long 1

role_long : (role : Role) → length (role_value role).octets ≤ 1
role_long Sender = boolean_long false
role_long Receiver = boolean_long true

terminus_long : (code : ℕ) (address : List ℕ) (dynamic : Option Bool) → length address ≤ MAX_ADDRESS → length (fields_octets code (terminus_slots (record { address = Some (AText address); dynamic = dynamic }))) ≤ 181
terminus_long code address dynamic short =
    nested_long 169 code (terminus_slots (record { address = Some (AText address); dynamic = dynamic }))
    (slots_long (165 ∷ 1 ∷ 1 ∷ 1 ∷ 1 ∷ []) (terminus_slots (record { address = Some (AText address); dynamic = dynamic }))
    (omega (arith, text_long texts.Str address, short), (omega arith, (omega arith, (omega arith, (flag_within dynamic, tt))))))

bare_few : length (octets_of (values_of (terminus_slots bare_terminus))) ≤ 5
bare_few = slots_long (1 ∷ 1 ∷ 1 ∷ 1 ∷ 1 ∷ []) (terminus_slots bare_terminus) (omega arith, (omega arith, (omega arith, (omega arith, (omega arith, tt)))))

bare_long : (code : ℕ) → length (fields_octets code (terminus_slots bare_terminus)) ≤ 17
bare_long code = nested_long 5 code (terminus_slots bare_terminus) bare_few

bare_writable : IsWritableTerminus bare_terminus
bare_writable = record { address = tt; few = omega (arith, bare_few) }

source_long : (address : List ℕ) (dynamic : Bool) → length address ≤ MAX_ADDRESS → length (source_octets (source_at address dynamic)) ≤ 181
source_long address true short = terminus_long 0x28 address (Some true) short
source_long address false short = terminus_long 0x28 address None short

module _ (theirs : AttachFields) (named : length theirs.name ≤ MAX_LINK_NAME) where
  name_long : length (text_octets texts.Str theirs.name) ≤ 260
  name_long = omega (arith, text_long texts.Str theirs.name, named)

  anonymous_within : AreWithin (260 ∷ 5 ∷ 1 ∷ 2 ∷ 2 ∷ 17 ∷ 17 ∷ 1 ∷ 1 ∷ 5 ∷ 9 ∷ []) (slots_of (AnAttach (attach_to_anonymous theirs)))
  anonymous_within = (
    name_long,
    (
      uint_long theirs.handle,
      (
        role_long Receiver,
        (
          sender_mode_long (sender_mode theirs),
          (
            receiver_mode_long First,
            (
              bare_long 0x28,
              (
                bare_long 0x29,
                (omega arith, (omega arith, (omega arith, (ulong_long MAX_MESSAGE_SIZE, tt)))),
              ),
            ),
          ),
        ),
      ),
    ),
  )

  pub anonymous_writable : IsWritable (AnAttach (attach_to_anonymous theirs))
  anonymous_writable =
      record {
        fields = (omega (arith, named), bare_writable, bare_writable);
        few = omega (arith, slots_long (260 ∷ 5 ∷ 1 ∷ 2 ∷ 2 ∷ 17 ∷ 17 ∷ 1 ∷ 1 ∷ 5 ∷ 9 ∷ []) (slots_of (AnAttach (attach_to_anonymous theirs))) anonymous_within);
      }

module _ (channel : ℕ) (theirs : AttachFields) (named : length theirs.name ≤ MAX_LINK_NAME) where
  module _ (address : List ℕ) (short : length address ≤ MAX_ADDRESS) where
    pub producer_fits : length (spoken_octets (says channel (AnAttach (attach_to_producer theirs address)))) ≤ 512
    producer_fits =
        slots_fit channel (AnAttach (attach_to_producer theirs address)) (260 ∷ 5 ∷ 1 ∷ 2 ∷ 2 ∷ 17 ∷ 181 ∷ 1 ∷ 1 ∷ 5 ∷ 9 ∷ []) (
          name_long theirs named,
          (
            uint_long theirs.handle,
            (
              role_long Receiver,
              (
                sender_mode_long (sender_mode theirs),
                (
                  receiver_mode_long First,
                  (
                    bare_long 0x28,
                    (
                      terminus_long 0x29 address None short,
                      (omega arith, (omega arith, (omega arith, (ulong_long MAX_MESSAGE_SIZE, tt)))),
                    ),
                  ),
                ),
              ),
            ),
          ),
        )
        (omega arith)

    pub consumer_fits : (dynamic : Bool) (mode : SenderSettleMode) → length (spoken_octets (says channel (AnAttach (attach_to_consumer theirs address dynamic mode)))) ≤ 512
    consumer_fits dynamic mode =
        slots_fit channel (AnAttach (attach_to_consumer theirs address dynamic mode)) (260 ∷ 5 ∷ 1 ∷ 2 ∷ 2 ∷ 181 ∷ 17 ∷ 1 ∷ 1 ∷ 5 ∷ 9 ∷ []) (
          name_long theirs named,
          (
            uint_long theirs.handle,
            (
              role_long Sender,
              (
                sender_mode_long mode,
                (
                  receiver_mode_long (receiver_mode theirs),
                  (
                    source_long address dynamic short,
                    (
                      bare_long 0x29,
                      (omega arith, (omega arith, (uint_long 0, (omega arith, tt)))),
                    ),
                  ),
                ),
              ),
            ),
          ),
        )
        (omega arith)

  pub anonymous_fits : length (spoken_octets (says channel (AnAttach (attach_to_anonymous theirs)))) ≤ 512
  anonymous_fits = slots_fit channel (AnAttach (attach_to_anonymous theirs)) (260 ∷ 5 ∷ 1 ∷ 2 ∷ 2 ∷ 17 ∷ 17 ∷ 1 ∷ 1 ∷ 5 ∷ 9 ∷ []) (anonymous_within theirs named) (omega arith)

  pub accepted_fits : (number : ℕ) (role : Role) → length (asked_address number theirs) ≤ MAX_ADDRESS → length (spoken_octets (says channel (AnAttach (attach_answer number theirs role)))) ≤ 512
  accepted_fits number Sender short = by (is_some_and theirs.target is_without_address)
    where
      by : (anonymous : Bool) → length (spoken_octets (says channel (AnAttach (if anonymous then attach_to_anonymous theirs else attach_to_producer theirs (asked_address number theirs))))) ≤ 512
      by true = anonymous_fits
      by false = producer_fits (asked_address number theirs) short
  accepted_fits number Receiver short =
      consumer_fits (asked_address number theirs) short (has_dynamic_source theirs) (sender_mode theirs)

  count_long : (role : Role) → IsWithin 5 (option_map uint_value (count_of_sender role))
  count_long Sender = uint_long 0
  count_long Receiver = omega arith

  pub refused_fits : length (spoken_octets (says channel (AnAttach (attach_refused theirs)))) ≤ 512
  refused_fits =
      slots_fit channel (AnAttach (attach_refused theirs)) (260 ∷ 5 ∷ 1 ∷ 1 ∷ 1 ∷ 1 ∷ 1 ∷ 1 ∷ 1 ∷ 5 ∷ 1 ∷ []) (
        name_long theirs named,
        (
          uint_long theirs.handle,
          (
            role_long (other_role theirs.role),
            (
              omega arith,
              (
                omega arith,
                (
                  omega arith,
                  (
                    omega arith,
                    (omega arith, (omega arith, (count_long (other_role theirs.role), (omega arith, tt)))),
                  ),
                ),
              ),
            ),
          ),
        ),
      )
      (omega arith)
