-- What captures say of a delivery from a client that is kept, and what one more record makes of it.
use Rattle.std.specs.Prelude.{◌≡◌, ℕ, Bool, true, false, List, [], ◌∷◌, ◌++◌, Option, Some, None, option_map, option_and_then, refl}
use Rattle.std.specs.Fmt.{digits}
use Rattle.amqp_perf.specs.declared.attach.Role.TheVariants.{Sender, Receiver}
use Rattle.amqp_perf.specs.declared.attach.SenderSettleMode.TheVariants.{Mixed}
use Rattle.amqp_perf.specs.declared.attach.ReceiverSettleMode.TheVariants.{First}
use Rattle.amqp_perf.specs.Message.{section_of_code, address_within, to_of}
use Rattle.amqp_perf.specs.Nested.{TerminusFields, ATerminus}
use Rattle.amqp_perf.specs.Meaning.{AttachFields, TransferFields, AnAttach, AFlow, ATransfer, ADisposition}
use Rattle.flow_counts.specs.declared.profile.TheConstants.{MAX_MESSAGE_SIZE}
use Rattle.amqp_perf.proofs.Opened.{read, written}
use Rattle.amqp_frames.specs.Writing.{frame_octets}
use Rattle.amqp_frames.specs.Reading.{whole_frame, frame_at, sized_frame, headed_frame}
use Rattle.pairing_cert.specs.declared.note.Why.TheVariants.{C, N}
use Rattle.capture_form.specs.declared.records.Record.{Record}
use Rattle.capture_form.specs.declared.rules.Form.TheVariants.{Two}
use Rattle.capture_form.specs.Rules.{RuleSet, RuleText, no_rules}
use Rattle.trace_events.specs.Frame.{frame_read}
use Rattle.trace_events.specs.Words.{is_some_and}
use Rattle.trace_events.specs.Address.{has_consumer}
use Rattle.trace_events.specs.Incoming.{incoming_at, message_address, aborts}
use Rattle.trace_events.specs.History.{history, judge}
use Rattle.trace_events.specs.Written.{spoken_octets}
use Rattle.trace_events.proofs.Captures.{unmarked}
use Rattle.trace_events.proofs.Made.{from, from_with, to, join, consumer, terminus, bare, shows, tell, first, next, with_more, as_settled, disposes, accepted, released, detach_of, q, hi, pair, sent, whole, carried, consumer_leaves, gives_more, multicast, producer_settles, two_sent_by}
use Rattle.state_incoming.specs.Held.{Held, held_at, held_next, held_begun, begins_number, held_behind, stands_open, may_go, may_tell, comes_before}
use Rattle.state_incoming.specs.HeldTouched.{is_touched, is_kept}
use Rattle.state_incoming.specs.declared.held.Fate.{Fate}
use Rattle.state_incoming.specs.declared.held.Fate.TheVariants.{Arriving, Waiting, Gone, Paired, Copied}

-- payload, completion, whether nothing more is to be told of it, whether it is undecided, and what has become of it
abbrev Shown : Type 0
Shown = List ℕ × Option ℕ × Bool × Bool × Fate

abbrev shown : Held → Shown
shown x = (x.payload, x.completion, x.is_closed, x.is_undecided, x.fate)

unfoldable held_in : List RuleText → List Record → ℕ → Option Shown
unfolding frame_read whole_frame frame_at sized_frame headed_frame read digits spoken_octets frame_octets written
held_in rules records n = option_map shown (held_at (unmarked rules) n (history (unmarked rules) records))

-- what one more record makes of it, where its address has a consumer or has none behind it
unfoldable next_in : List RuleText → List Record → Record → Bool → ℕ → Option Shown
unfolding frame_read whole_frame frame_at sized_frame headed_frame read digits spoken_octets frame_octets written
next_in rules records r has n = let past = history (unmarked rules) records in option_map shown (option_and_then (held_next (unmarked rules) (judge (unmarked rules) past r) [] has) (held_at (unmarked rules) n past))

unfoldable begun_in : List RuleText → List Record → Record → Bool → Option Shown
unfolding frame_read whole_frame frame_at sized_frame headed_frame read digits spoken_octets frame_octets written
begun_in rules records r has = option_map shown (held_begun (unmarked rules) (judge (unmarked rules) (history (unmarked rules) records) r) [] has)

unfoldable behind_in : List RuleText → List Record → Record → ℕ → Option Shown
unfolding frame_read whole_frame frame_at sized_frame headed_frame read digits spoken_octets frame_octets written
behind_in rules records r n =
    let past = history (unmarked rules) records in
    let e = judge (unmarked rules) past r in
    option_map shown (held_behind (unmarked rules) e [] (λ address. has_consumer address (e ∷ past)) n (held_at (unmarked rules) n past))

unfoldable gives_up_in : List RuleText → List Record → Record → ℕ → Bool
unfolding frame_read whole_frame frame_at sized_frame headed_frame read digits spoken_octets frame_octets written
gives_up_in rules records r n = let past = history (unmarked rules) records in is_some_and (incoming_at n past) (λ d. aborts d (judge (unmarked rules) past r))

unfoldable begins_in : List RuleText → List Record → Record → ℕ → Bool
unfolding frame_read whole_frame frame_at sized_frame headed_frame read digits spoken_octets frame_octets written
begins_in rules records r n = begins_number (judge (unmarked rules) (history (unmarked rules) records) r) n

-- ---- captures: delivery 15 is incomplete; delivery 16 waits, is sent to the consumer, or is gone

abbrev more : Record
more = from_with 0 (ATransfer (with_more (first 0))) hi

abbrev begun : List Record
begun = pair ++ (more ∷ [])

abbrev producer_leaves : Record
producer_leaves = from 0 (detach_of true)

abbrev lost : List Record
lost = sent ++ (consumer_leaves ∷ [])

abbrev tells_released : Record
tells_released = tell 0 N (disposes Receiver 0 true released)

abbrev aborting : TransferFields
aborting = let fields = next false in record fields { aborted = Some true }

abbrev gives_up : Record
gives_up = from 0 (ATransfer aborting)

-- ---- what has become of it

arrives : held_in [] begun 15 ≡ Some (hi, None, false, true, Arriving)
unfolding held_in
arrives = refl

waits : held_in [] sent 16 ≡ Some (hi, Some 16, false, true, Waiting)
unfolding held_in
waits = refl

is_gone : held_in [] lost 16 ≡ Some (hi, Some 16, false, true, Gone)
unfolding held_in
is_gone = refl

is_paired : held_in [] carried 16 ≡ Some (hi, Some 16, false, true, Paired)
unfolding held_in
is_paired = refl

is_copied : held_in multicast sent 16 ≡ Some (hi, Some 16, false, true, Copied)
unfolding held_in
is_copied = refl

-- the parts' payloads are joined in their order
is_joined : held_in [] (begun ++ (from_with 0 (ATransfer (next false)) (0x21 ∷ []) ∷ [])) 15 ≡ Some (hi ++ 0x21 ∷ [], Some 16, false, true, Waiting)
unfolding held_in
is_joined = refl

-- ---- whether it is kept

-- gone, with nothing more to be told of it
gone_and_told : held_in [] (lost ++ (tells_released ∷ [])) 16 ≡ None
unfolding held_in
gone_and_told = refl

-- one that went to a consumer stays when it is told
paired_and_told : held_in [] (carried ++ (from 1 (ADisposition (disposes Receiver 0 true accepted)) ∷ tell 0 C (disposes Receiver 0 true accepted) ∷ [])) 16 ≡ Some (hi, Some 16, true, false, Paired)
unfolding held_in
paired_and_told = refl

given_up : held_in [] (begun ++ (gives_up ∷ [])) 15 ≡ None
unfolding held_in
given_up = refl

is_discarded : held_in [] (begun ++ (producer_leaves ∷ [])) 15 ≡ None
unfolding held_in
is_discarded = refl

-- a complete one stays when its link is over
producer_left : held_in [] (sent ++ (producer_leaves ∷ [])) 16 ≡ Some (hi, Some 16, true, false, Waiting)
unfolding held_in
producer_left = refl

-- ---- the event gives it up

gives_it_up : gives_up_in [] begun gives_up 15 ≡ true
unfolding gives_up_in
gives_it_up = refl

goes_on : gives_up_in [] begun (from 0 (ATransfer (next true))) 15 ≡ false
unfolding gives_up_in
goes_on = refl

gives_up_another : gives_up_in [] (sent ++ (from_with 0 (ATransfer (with_more (first 1))) hi ∷ [])) gives_up 16 ≡ false
unfolding gives_up_in
gives_up_another = refl

-- ---- what one more record makes of it

still_arrives : next_in [] begun (from_with 0 (ATransfer (next true)) (0x21 ∷ [])) true 15 ≡ Some (hi ++ 0x21 ∷ [], None, false, true, Arriving)
unfolding next_in
still_arrives = refl

-- a record of which it is no part
untouched : next_in [] begun gives_more true 15 ≡ Some (hi, None, false, true, Arriving)
unfolding next_in
untouched = refl

comes_to_wait : next_in [] begun (from 0 (ATransfer (next false))) true 15 ≡ Some (hi, Some 16, false, true, Waiting)
unfolding next_in
comes_to_wait = refl

gone_at_once : next_in [] begun (from 0 (ATransfer (next false))) false 15 ≡ Some (hi, Some 16, false, true, Gone)
unfolding next_in
gone_at_once = refl

comes_to_all : next_in multicast begun (from 0 (ATransfer (next false))) false 15 ≡ Some (hi, Some 16, false, true, Copied)
unfolding next_in
comes_to_all = refl

still_waits : next_in [] sent gives_more true 16 ≡ Some (hi, Some 16, false, true, Waiting)
unfolding next_in
still_waits = refl

loses_consumers : next_in [] sent gives_more false 16 ≡ Some (hi, Some 16, false, true, Gone)
unfolding next_in
loses_consumers = refl

is_sent : next_in [] sent whole true 16 ≡ Some (hi, Some 16, false, true, Paired)
unfolding next_in
is_sent = refl

stays_gone : next_in [] lost gives_more true 16 ≡ Some (hi, Some 16, false, true, Gone)
unfolding next_in
stays_gone = refl

stays_paired : next_in [] carried gives_more false 16 ≡ Some (hi, Some 16, false, true, Paired)
unfolding next_in
stays_paired = refl

stays_copied : next_in multicast sent gives_more false 16 ≡ Some (hi, Some 16, false, true, Copied)
unfolding next_in
stays_copied = refl

-- told, or settled by its producer, or of a link that ends
is_told : next_in [] (carried ++ (from 1 (ADisposition (disposes Receiver 0 true accepted)) ∷ [])) (tell 0 C (disposes Receiver 0 true accepted)) true 16 ≡ Some (hi, Some 16, true, false, Paired)
unfolding next_in
is_told = refl

is_settled : next_in [] carried (from 0 (ADisposition (disposes Sender 0 true None))) true 16 ≡ Some (hi, Some 16, true, false, Paired)
unfolding next_in
is_settled = refl

is_over : next_in [] sent producer_leaves true 16 ≡ Some (hi, Some 16, true, false, Waiting)
unfolding next_in
is_over = refl

stays_told : next_in [] (carried ++ (from 1 (ADisposition (disposes Receiver 0 true accepted)) ∷ tell 0 C (disposes Receiver 0 true accepted) ∷ [])) gives_more true 16 ≡ Some (hi, Some 16, true, false, Paired)
unfolding next_in
stays_told = refl

stays_settled : next_in [] (carried ++ (from 0 (ADisposition (disposes Sender 0 true None)) ∷ [])) gives_more true 16 ≡ Some (hi, Some 16, true, false, Paired)
unfolding next_in
stays_settled = refl

stays_over : next_in [] (sent ++ (producer_leaves ∷ [])) gives_more true 16 ≡ Some (hi, Some 16, true, false, Waiting)
unfolding next_in
stays_over = refl

-- forgotten: given up, discarded, or gone and closed
gives_up_now : next_in [] begun gives_up true 15 ≡ None
unfolding next_in
gives_up_now = refl

discards : next_in [] begun producer_leaves true 15 ≡ None
unfolding next_in
discards = refl

tells_gone : next_in [] lost tells_released false 16 ≡ None
unfolding next_in
tells_gone = refl

gone_while_closed : next_in [] (sent ++ (producer_leaves ∷ [])) consumer_leaves false 16 ≡ None
unfolding next_in
gone_while_closed = refl

-- ---- the delivery that a record begins

begins : begins_in [] pair more 15 ≡ true
unfolding begins_in
begins = refl

begins_another : begins_in [] pair more 14 ≡ false
unfolding begins_in
begins_another = refl

begins_none : begins_in [] begun (from 0 (ATransfer (next true))) 15 ≡ false
unfolding begins_in
begins_none = refl

first_part : begun_in [] pair more true ≡ Some (hi, None, false, true, Arriving)
unfolding begun_in
first_part = refl

only_part : begun_in [] pair (from_with 0 (ATransfer (as_settled (first 0))) hi) true ≡ Some (hi, Some 15, true, true, Waiting)
unfolding begun_in
only_part = refl

-- settled, and without a consumer, it is not kept at all
nothing_left : begun_in [] pair (from_with 0 (ATransfer (as_settled (first 0))) hi) false ≡ None
unfolding begun_in
nothing_left = refl

no_begin : begun_in [] begun (from 0 (ATransfer (next true))) true ≡ None
unfolding begun_in
no_begin = refl

-- by its number
behind_begun : behind_in [] pair more 15 ≡ Some (hi, None, false, true, Arriving)
unfolding behind_in
behind_begun = refl

behind_older : behind_in [] sent consumer_leaves 16 ≡ Some (hi, Some 16, false, true, Gone)
unfolding behind_in
behind_older = refl

behind_none : behind_in [] sent consumer_leaves 15 ≡ None
unfolding behind_in
behind_none = refl

-- ---- what is asked of one that is kept

unfoldable asks : (Held → Bool) → List RuleText → List Record → ℕ → Bool
unfolding frame_read whole_frame frame_at sized_frame headed_frame read digits spoken_octets frame_octets written
asks test rules records n = is_some_and (held_at (unmarked rules) n (history (unmarked rules) records)) test

unfoldable asks_both : List Record → ℕ → ℕ → Bool
unfolding frame_read whole_frame frame_at sized_frame headed_frame read digits spoken_octets frame_octets written
asks_both records n m = let past = history no_rules records in is_some_and (held_at no_rules n past) (λ x. is_some_and (held_at no_rules m past) (comes_before x))

-- delivery 17 is incomplete behind delivery 16
abbrev second_begun : List Record
second_begun = sent ++ (from_with 0 (ATransfer (with_more (first 1))) hi ∷ [])

closed_by_outcome : asks (λ (x : Held). x.is_closed) [] (carried ++ (from 1 (ADisposition (disposes Receiver 0 true accepted)) ∷ tell 0 C (disposes Receiver 0 true accepted) ∷ [])) 16 ≡ true
unfolding asks
closed_by_outcome = refl

closed_by_producer : asks (λ (x : Held). x.is_closed) [] (carried ++ (producer_settles ∷ [])) 16 ≡ true
unfolding asks
closed_by_producer = refl

closed_by_end : asks (λ (x : Held). x.is_closed) [] (carried ++ (producer_leaves ∷ [])) 16 ≡ true
unfolding asks
closed_by_end = refl

not_closed : asks (λ (x : Held). x.is_closed) [] carried 16 ≡ false
unfolding asks
not_closed = refl

goes_to_consumer : asks may_go [] sent 16 ≡ true
unfolding asks
goes_to_consumer = refl

goes_not_yet : asks may_go [] begun 15 ≡ false
unfolding asks
goes_not_yet = refl

goes_no_more : asks may_go [] lost 16 ≡ false
unfolding asks
goes_no_more = refl

told_now : asks may_tell [] lost 16 ≡ true
unfolding asks
told_now = refl

told_not_yet : asks may_tell [] begun 15 ≡ false
unfolding asks
told_not_yet = refl

told_no_more : asks may_tell [] (carried ++ (producer_settles ∷ [])) 16 ≡ false
unfolding asks
told_no_more = refl

open_arriving : asks (λ (x : Held). x.is_undecided) [] (begun ++ (producer_settles ∷ [])) 15 ≡ true
unfolding asks
open_arriving = refl

open_waiting : asks (λ (x : Held). x.is_undecided) [] (sent ++ (producer_settles ∷ [])) 16 ≡ true
unfolding asks
open_waiting = refl

open_untold : asks (λ (x : Held). x.is_undecided) [] carried 16 ≡ true
unfolding asks
open_untold = refl

decided : asks (λ (x : Held). x.is_undecided) [] (carried ++ (producer_settles ∷ [])) 16 ≡ false
unfolding asks
decided = refl

link_over : asks (λ (x : Held). x.is_undecided) [] (sent ++ (producer_leaves ∷ [])) 16 ≡ false
unfolding asks
link_over = refl

first_of_two : asks_both (two_sent_by Mixed) 16 17 ≡ true
unfolding asks_both
first_of_two = refl

second_of_two : asks_both (two_sent_by Mixed) 17 16 ≡ false
unfolding asks_both
second_of_two = refl

before_incomplete : asks_both second_begun 16 17 ≡ false
unfolding asks_both
before_incomplete = refl

incomplete_before : asks_both second_begun 17 16 ≡ false
unfolding asks_both
incomplete_before = refl

-- ---- whether it stands open

open_by_arriving : stands_open Arriving true ≡ true
open_by_arriving = refl

open_by_waiting : stands_open Waiting true ≡ true
open_by_waiting = refl

open_by_telling : stands_open Gone false ≡ true
open_by_telling = refl

shut_while_gone : stands_open Gone true ≡ false
shut_while_gone = refl

-- ---- which records touch it

unfoldable touches_in : List RuleText → List Record → Record → Bool → ℕ → Bool
unfolding frame_read whole_frame frame_at sized_frame headed_frame read digits spoken_octets frame_octets written
touches_in rules records r has n = let past = history (unmarked rules) records in is_some_and (held_at (unmarked rules) n past) (is_touched (judge (unmarked rules) past r) has)

touched_by_part : touches_in [] begun (from 0 (ATransfer (next true))) true 15 ≡ true
unfolding touches_in
touched_by_part = refl

touched_by_outcome : touches_in [] lost tells_released false 16 ≡ true
unfolding touches_in
touched_by_outcome = refl

touched_by_carrier : touches_in [] sent whole true 16 ≡ true
unfolding touches_in
touched_by_carrier = refl

touched_by_settling : touches_in [] carried producer_settles true 16 ≡ true
unfolding touches_in
touched_by_settling = refl

touched_by_end : touches_in [] carried producer_leaves true 16 ≡ true
unfolding touches_in
touched_by_end = refl

touched_by_loss : touches_in [] sent consumer_leaves false 16 ≡ true
unfolding touches_in
touched_by_loss = refl

untouched_by_flow : touches_in [] sent gives_more true 16 ≡ false
unfolding touches_in
untouched_by_flow = refl

-- one that went to a consumer is not touched when that leaves
untouched_by_loss : touches_in [] carried consumer_leaves false 16 ≡ false
unfolding touches_in
untouched_by_loss = refl

-- nor one that is decided when its link ends, or its producer settles it again
untouched_by_end : touches_in [] (carried ++ (producer_settles ∷ [])) producer_leaves true 16 ≡ false
unfolding touches_in
untouched_by_end = refl

untouched_by_settling : touches_in [] (carried ++ (producer_settles ∷ [])) producer_settles true 16 ≡ false
unfolding touches_in
untouched_by_settling = refl

-- ---- what each that is kept is

abbrev entry : Bool → Bool → Fate → Held
entry closed undecided fate = record {
  delivery = record {
    number = 15;
    link = record {
      number = 6;
      session = record { number = 4; connection = 0; channel = 0; our_first_id = 0; their_first_id = 0; their_window = 100 };
      handle = 0;
      role = Receiver;
      address = q;
      is_pre_settled = false;
      our_first_count = 0;
      their_first_count = 0;
    };
    id = Some 0;
    format = 0;
  };
  address = q;
  payload = [];
  completion = None;
  is_closed = closed;
  is_undecided = undecided;
  fate = fate;
}

kept_waiting : is_kept (entry false true Waiting) ≡ true
kept_waiting = refl

kept_paired : is_kept (entry true false Paired) ≡ true
kept_paired = refl

not_gone_and_closed : is_kept (entry true false Gone) ≡ false
not_gone_and_closed = refl

not_decided_arriving : is_kept (entry true false Arriving) ≡ false
not_decided_arriving = refl

not_decided_untold : is_kept (entry false false Paired) ≡ false
not_decided_untold = refl

not_undecided_closed : is_kept (entry true true Paired) ≡ false
not_undecided_closed = refl

-- ---- on a link without address

-- such links are served
abbrev serving : RuleSet
serving = record { form = Two true; list = [] }

-- a message for q, which comes in two parts: its properties, cut in front of their third
abbrev front_half : List ℕ
front_half = 0x00 ∷ 0x53 ∷ 0x73 ∷ 0xC0 ∷ 0x06 ∷ 0x03 ∷ 0x40 ∷ 0x40 ∷ []

abbrev back_half : List ℕ
back_half = 0xA1 ∷ 0x01 ∷ 0x71 ∷ []

abbrev nowhere : TerminusFields
nowhere = terminus None None

abbrev asks_for_none : AttachFields
asks_for_none = let fields = bare Sender (Some 0) in record fields { target = Some (ATerminus nowhere) }

abbrev answers_none : AttachFields
answers_none =
    let fields = bare Receiver None in record fields {
      snd_settle_mode = Some Mixed;
      rcv_settle_mode = Some First;
      source = Some nowhere;
      target = Some (ATerminus nowhere);
      max_message_size = Some MAX_MESSAGE_SIZE;
    }

-- 15 records: its producer on connection 0, which has credit, and a consumer of q on connection 1
abbrev anonymous : List Record
anonymous = join 0 ++ (from 0 (AnAttach asks_for_none) ∷ to 0 (AnAttach answers_none) ∷ []) ++ consumer 1 Mixed q ++ (to 0 (AFlow (shows 0 0 0 250)) ∷ [])

abbrev front_comes : Record
front_comes = from_with 0 (ATransfer (with_more (first 0))) front_half

abbrev back_comes : Record
back_comes = from_with 0 (ATransfer (next false)) back_half

-- the address, and what has become of it
abbrev addressed : Held → List ℕ × Fate
addressed x = (x.address, x.fate)

unfoldable for_in : List Record → ℕ → Option (List ℕ × Fate)
unfolding frame_read whole_frame frame_at sized_frame headed_frame read digits spoken_octets frame_octets written message_address to_of address_within section_of_code
for_in records n = option_map addressed (held_at serving n (history serving records))

-- what one more record makes of it, where what that completes is for this address
unfoldable for_next : List Record → Record → List ℕ → ℕ → Option (List ℕ × Fate)
unfolding frame_read whole_frame frame_at sized_frame headed_frame read digits spoken_octets frame_octets written message_address to_of address_within section_of_code
for_next records r to n =
    let past = history serving records in
    let e = judge serving past r in
    option_map addressed (held_behind serving e to (λ address. has_consumer address (e ∷ past)) n (held_at serving n past))

-- it is for none until it is complete, and then for the one in both parts
for_none_yet : for_in (anonymous ++ (front_comes ∷ [])) 15 ≡ Some ([], Arriving)
unfolding for_in
for_none_yet = refl

for_that_in_its_parts : for_in (anonymous ++ (front_comes ∷ back_comes ∷ [])) 15 ≡ Some (q, Waiting)
unfolding for_in
for_that_in_its_parts = refl

becomes_for_it : for_next (anonymous ++ (front_comes ∷ [])) back_comes q 15 ≡ Some (q, Waiting)
unfolding for_next
becomes_for_it = refl

-- its first part alone tells none; taken for that, it would be gone
none_in_front : to_of front_half ≡ None
unfolding read to_of address_within section_of_code
none_in_front = refl

gone_for_none : for_next (anonymous ++ (front_comes ∷ [])) back_comes [] 15 ≡ Some ([], Gone)
unfolding for_next
gone_for_none = refl
