-- Anonymous senders in captures: which of them are served, what their attach is answered, where their deliveries go, and what
-- becomes of one that no one is named for. Each conjunct has a capture that meets it and one that breaks it alone.
use Rattle.std.specs.Prelude.{◌≡◌, ℕ, Bool, true, false, List, [], ◌∷◌, ◌++◌, codes, Option, Some, None, refl, option_map}
use Rattle.std.specs.Str.{is_utf8, chars}
use Rattle.std.specs.Fmt.{digits}
use lib.Utf8.{encode}
use Rattle.amqp_types.specs.Codes.{code_of, scalar_of_code}
use Rattle.amqp_types.specs.Items.{seen_of, items_in}
use Rattle.amqp_types.specs.Reading.{seen_at, value_at, value_by, coded_at, data_at, data_by, fixed_at, octets_at, scalar_of, described_at, nested_at, counted_at, sized_at, text_at, is_text, items_at, item_at, seen_by}
use Rattle.amqp_perf.specs.declared.attach.Role.TheVariants.{Sender, Receiver}
use Rattle.amqp_perf.specs.declared.attach.SenderSettleMode.TheVariants.{Mixed}
use Rattle.amqp_perf.specs.declared.attach.ReceiverSettleMode.TheVariants.{First}
use Rattle.amqp_perf.specs.Meaning.{AnAttach, AFlow, ATransfer, AttachFields}
use Rattle.amqp_perf.specs.Message.{section_of_code, address_within, to_of}
use Rattle.amqp_perf.specs.Nested.{ATerminus}
use Rattle.amqp_perf.proofs.Opened.{read, written}
use Rattle.amqp_frames.specs.Writing.{frame_octets}
use Rattle.amqp_frames.specs.Reading.{whole_frame, frame_at, sized_frame, headed_frame}
use Rattle.flow_counts.specs.declared.profile.TheConstants.{MAX_MESSAGE_SIZE}
use Rattle.pairing_cert.specs.declared.note.Why.TheVariants.{N}
use Rattle.capture_form.specs.declared.records.Record.{Record}
use Rattle.capture_form.specs.declared.rules.Distribution.TheVariants.{Multicast}
use Rattle.capture_form.specs.declared.rules.Form.TheVariants.{Two}
use Rattle.capture_form.specs.Rules.{RuleText, RuleSet}
use Rattle.amqp_perf.specs.declared.condition.ErrorCondition.TheVariants.{InvalidField, NotImplemented}
use Rattle.trace_events.specs.declared.fault.Fault.{Fault}
use Rattle.trace_events.specs.declared.fault.Fault.TheVariants.{Refuse}
use Rattle.trace_events.specs.Frame.{Spoken, frame_read}
use Rattle.trace_events.specs.History.{history}
use Rattle.trace_events.specs.Incoming.{address_of, incoming_at, message_address}
use Rattle.trace_events.specs.declared.clause.Clause.{Clause}
use Rattle.trace_events.specs.declared.clause.Clause.TheVariants.{L3, L7, L10, L11}
use Rattle.trace_events.specs.Clauses.{first_broken}
use Rattle.trace_events.specs.Written.{spoken_octets, says, written_settling}
use Rattle.trace_events.proofs.Captures.{rule, last_fault}
use Rattle.trace_events.proofs.Made.{from, from_with, write, to, carry, tell, bare, terminus, sends_to, gives, shows, first, next, with_more, disposes, released, q, join, producer, consumer, pair, written_to_producer, written_refusal}

-- ---- what is said

-- these rules with the mark of a router that serves anonymous senders, or of one that does not
abbrev marked : Bool → List RuleText → RuleSet
marked serves list = record { form = Two serves; list = list }

-- an attach of a sender without address, and its answer
abbrev sends_to_none : AttachFields
sends_to_none = let fields = bare Sender (Some 0) in record fields { target = Some (ATerminus (terminus None None)) }

abbrev written_to_anonymous : Spoken
written_to_anonymous = says 0 (AnAttach (record {
  name = codes "l";
  handle = 0;
  role = Receiver;
  snd_settle_mode = Some Mixed;
  rcv_settle_mode = Some First;
  source = Some (terminus None None);
  target = Some (ATerminus (terminus None None));
  initial_delivery_count = None;
  max_message_size = Some MAX_MESSAGE_SIZE;
}))

-- 7 records: and its link
abbrev anonymous : List Record
anonymous = join 0 ++ (from 0 (AnAttach sends_to_none) ∷ write 0 written_to_anonymous ∷ [])

-- a message for q or for r, of eleven octets: its properties, whose third is the address
abbrev to_q : List ℕ
to_q = 0x00 ∷ 0x53 ∷ 0x73 ∷ 0xC0 ∷ 0x06 ∷ 0x03 ∷ 0x40 ∷ 0x40 ∷ 0xA1 ∷ 0x01 ∷ 0x71 ∷ []

abbrev to_r : List ℕ
to_r = 0x00 ∷ 0x53 ∷ 0x73 ∷ 0xC0 ∷ 0x06 ∷ 0x03 ∷ 0x40 ∷ 0x40 ∷ 0xA1 ∷ 0x01 ∷ 0x72 ∷ []

-- 16 records: a consumer of q, and credit for both
abbrev served : List Record
served = anonymous ++ consumer 1 Mixed q ++ (to 0 (AFlow (shows 0 0 0 250)) ∷ from 1 (AFlow (gives 0 0 10)) ∷ [])

-- ---- what the law says of them

unfoldable fault_by : RuleSet → List Record → Option Fault
unfolding frame_read whole_frame frame_at sized_frame headed_frame read digits spoken_octets frame_octets written
fault_by rules records = last_fault (history rules records)

unfoldable broken_by : RuleSet → List Record → Option (ℕ × Clause)
unfolding frame_read whole_frame frame_at sized_frame headed_frame read digits spoken_octets frame_octets written message_address to_of address_within section_of_code seen_of items_in seen_at value_at value_by coded_at code_of scalar_of_code data_at data_by fixed_at octets_at scalar_of described_at nested_at counted_at sized_at text_at is_text items_at item_at seen_by is_utf8 chars encode
broken_by rules records = first_broken rules (history rules records)

unfoldable address_by : RuleSet → List Record → ℕ → Option (List ℕ)
unfolding frame_read whole_frame frame_at sized_frame headed_frame read digits spoken_octets frame_octets written message_address to_of address_within section_of_code seen_of items_in seen_at value_at value_by coded_at code_of scalar_of_code data_at data_by fixed_at octets_at scalar_of described_at nested_at counted_at sized_at text_at is_text items_at item_at seen_by is_utf8 chars encode
address_by rules records n = let past = history rules records in option_map (λ d. address_of d past) (incoming_at n past)

-- ---- which are served

anonymous_served : fault_by (marked true []) (join 0 ++ (from 0 (AnAttach sends_to_none) ∷ [])) ≡ None
unfolding fault_by
anonymous_served = refl

anonymous_not_served : fault_by (marked false []) (join 0 ++ (from 0 (AnAttach sends_to_none) ∷ [])) ≡ Some (Refuse NotImplemented)
unfolding fault_by
anonymous_not_served = refl

-- an empty text is an address that none has, not one that is left out; nor is a target that is left out
empty_text : fault_by (marked true []) (join 0 ++ (from 0 (AnAttach (sends_to [])) ∷ [])) ≡ Some (Refuse InvalidField)
unfolding fault_by
empty_text = refl

no_target : fault_by (marked true []) (join 0 ++ (from 0 (AnAttach (bare Sender (Some 0))) ∷ [])) ≡ Some (Refuse InvalidField)
unfolding fault_by
no_target = refl

-- ---- L3

answered : broken_by (marked true []) anonymous ≡ None
unfolding broken_by
answered = refl

answered_with_an_address : broken_by (marked true []) (join 0 ++ (from 0 (AnAttach sends_to_none) ∷ write 0 (written_to_producer 0 (codes "l") 0 Mixed q) ∷ [])) ≡ Some (6, L3)
unfolding broken_by
answered_with_an_address = refl

answered_with_an_empty_text : broken_by (marked true []) (join 0 ++ (from 0 (AnAttach sends_to_none) ∷ write 0 (written_to_producer 0 (codes "l") 0 Mixed []) ∷ [])) ≡ Some (6, L3)
unfolding broken_by
answered_with_an_empty_text = refl

address_left_out : broken_by (marked true []) (join 0 ++ (from 0 (AnAttach (sends_to q)) ∷ write 0 written_to_anonymous ∷ [])) ≡ Some (6, L3)
unfolding broken_by
address_left_out = refl

refused_where_served : broken_by (marked true []) (join 0 ++ (from 0 (AnAttach sends_to_none) ∷ write 0 (written_refusal 0 (codes "l") 0 Receiver) ∷ [])) ≡ Some (6, L3)
unfolding broken_by
refused_where_served = refl

answered_where_not_served : broken_by (marked false []) anonymous ≡ Some (6, L3)
unfolding broken_by
answered_where_not_served = refl

-- ---- L10: its credit waits for no consumer, that of a link with an address does

credit_at_once : broken_by (marked true []) (anonymous ++ (to 0 (AFlow (shows 0 0 0 250)) ∷ [])) ≡ None
unfolding broken_by
credit_at_once = refl

credit_of_an_address : broken_by (marked true []) (producer 0 q ++ (to 0 (AFlow (shows 0 0 0 250)) ∷ [])) ≡ Some (7, L10)
unfolding broken_by
credit_of_an_address = refl

-- ---- where its deliveries go

-- by the address in the message, which is known from its last part on
address_when_complete : address_by (marked true []) (served ++ (from_with 0 (ATransfer (first 0)) to_q ∷ [])) 16 ≡ Some q
unfolding address_by
address_when_complete = refl

address_in_two_parts : address_by (marked true []) (served ++ (from_with 0 (ATransfer (with_more (first 0))) (0x00 ∷ 0x53 ∷ 0x73 ∷ 0xC0 ∷ 0x06 ∷ []) ∷ from_with 0 (ATransfer (next false)) (0x03 ∷ 0x40 ∷ 0x40 ∷ 0xA1 ∷ 0x01 ∷ 0x71 ∷ []) ∷ [])) 16 ≡ Some q
unfolding address_by
address_in_two_parts = refl

address_before_the_last_part : address_by (marked true []) (served ++ (from_with 0 (ATransfer (with_more (first 0))) to_q ∷ [])) 16 ≡ Some []
unfolding address_by
address_before_the_last_part = refl

address_of_the_link : address_by (marked true []) (pair ++ (from_with 0 (ATransfer (first 0)) to_r ∷ [])) 15 ≡ Some q
unfolding address_by
address_of_the_link = refl

sent_by_its_message : broken_by (marked true []) (served ++ (from_with 0 (ATransfer (first 0)) to_q ∷ carry 1 16 (first 0) to_q ∷ [])) ≡ None
unfolding broken_by
sent_by_its_message = refl

sent_elsewhere : broken_by (marked true []) (served ++ (from_with 0 (ATransfer (first 0)) to_r ∷ carry 1 16 (first 0) to_r ∷ [])) ≡ Some (17, L7)
unfolding broken_by
sent_elsewhere = refl

sent_without_address : broken_by (marked true []) (served ++ (from_with 0 (ATransfer (first 0)) [] ∷ carry 1 16 (first 0) [] ∷ [])) ≡ Some (17, L7)
unfolding broken_by
sent_without_address = refl

-- ---- one without address, or for an address without consumer, is gone at once

gone_without_address : broken_by (marked true []) (served ++ (from_with 0 (ATransfer (first 0)) [] ∷ tell 0 N (disposes Receiver 0 true released) ∷ [])) ≡ None
unfolding broken_by
gone_without_address = refl

gone_without_consumer : broken_by (marked true []) (served ++ (from_with 0 (ATransfer (first 0)) to_r ∷ tell 0 N (disposes Receiver 0 true released) ∷ [])) ≡ None
unfolding broken_by
gone_without_consumer = refl

waits_for_its_consumer : broken_by (marked true []) (served ++ (from_with 0 (ATransfer (first 0)) to_q ∷ tell 0 N (disposes Receiver 0 true released) ∷ [])) ≡ Some (17, L11)
unfolding broken_by
waits_for_its_consumer = refl

-- for an address of multicast it is not gone: it goes to all consumers, of whom there are none
of_multicast : broken_by (marked true (rule Multicast (codes "r") ∷ [])) (served ++ (from_with 0 (ATransfer (first 0)) to_r ∷ tell 0 N (disposes Receiver 0 true released) ∷ [])) ≡ Some (17, L11)
unfolding broken_by
of_multicast = refl
