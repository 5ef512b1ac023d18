-- What the router says in the performatives that it writes: own rules, in the fields of the standard (part 2, section
-- 2.7). A field that it doesn't write is absent.
use Rattle.std.specs.Prelude.{ℕ, ◌≤◌, Bool, true, false, List, [], ◌∷◌, length, Option, Some, None, option_map, codes}
use Rattle.flow_counts.specs.declared.profile.TheConstants.{MAX_FRAME_SIZE, CHANNEL_MAX, HANDLE_MAX, INCOMING_WINDOW, OUTGOING_WINDOW, MAX_MESSAGE_SIZE}
use Rattle.amqp_perf.specs.declared.attach.Role.{Role}
use Rattle.amqp_perf.specs.declared.attach.Role.TheVariants.{Sender, Receiver}
use Rattle.amqp_perf.specs.declared.attach.SenderSettleMode.{SenderSettleMode}
use Rattle.amqp_perf.specs.declared.attach.ReceiverSettleMode.TheVariants.{First}
use Rattle.amqp_perf.specs.declared.begin.Begin.{Begin}
use Rattle.amqp_perf.specs.declared.flow.Flow.{Flow}
use Rattle.amqp_perf.specs.declared.descriptor.Outcome.{Outcome}
use Rattle.amqp_perf.specs.declared.descriptor.Outcome.TheVariants.{Accepted, Rejected, Released, Modified}
use Rattle.amqp_perf.specs.declared.condition.ErrorCondition.{ErrorCondition}
use Rattle.amqp_perf.specs.Nested.{StateFields, AText, TerminusFields, ATerminus}
use Rattle.amqp_perf.specs.Meaning.{OpenFields, AttachFields, TransferFields, DispositionFields, DetachFields, sender_mode, receiver_mode}
use Rattle.amqp_perf.specs.Conditions.{condition_name}

-- ---- connections and sessions

-- 2.7.1
abbrev pub router_open : OpenFields
router_open = record { container_id = codes "amqp-router"; max_frame_size = Some MAX_FRAME_SIZE; channel_max = Some CHANNEL_MAX; idle_time_out = None }

-- the answer to a begin on this channel (2.7.2)
abbrev pub begin_answer : ℕ → Begin
begin_answer channel =
    record { remote_channel = Some channel; next_outgoing_id = 0; incoming_window = INCOMING_WINDOW; outgoing_window = OUTGOING_WINDOW; handle_max = Some HANDLE_MAX }

-- ---- links

abbrev pub other_role : Role → Role
other_role Sender = Receiver
other_role Receiver = Sender

-- a source or a target that says nothing
abbrev pub bare_terminus : TerminusFields
bare_terminus = record { address = None; dynamic = None }

-- one that says its address alone
abbrev pub terminus_at : List ℕ → TerminusFields
terminus_at address = record { address = Some (AText address); dynamic = None }

-- the source of a link to a consumer; that its address was made up is said, else nothing
abbrev pub source_at : List ℕ → Bool → TerminusFields
source_at address true = record { address = Some (AText address); dynamic = Some true }
source_at address false = terminus_at address

-- the answer to a producer's attach (2.7.3)
abbrev pub attach_to_producer : AttachFields → List ℕ → AttachFields
attach_to_producer theirs address = record {
  name = theirs.name;
  handle = theirs.handle;
  role = Receiver;
  snd_settle_mode = Some (sender_mode theirs);
  rcv_settle_mode = Some First;
  source = Some bare_terminus;
  target = Some (ATerminus (terminus_at address));
  initial_delivery_count = None;
  max_message_size = Some MAX_MESSAGE_SIZE;
}

-- the answer to a consumer's attach, which settles so (2.7.3)
abbrev pub attach_to_consumer : AttachFields → List ℕ → Bool → SenderSettleMode → AttachFields
attach_to_consumer theirs address is_dynamic mode = record {
  name = theirs.name;
  handle = theirs.handle;
  role = Sender;
  snd_settle_mode = Some mode;
  rcv_settle_mode = Some (receiver_mode theirs);
  source = Some (source_at address is_dynamic);
  target = Some (ATerminus bare_terminus);
  initial_delivery_count = Some 0;
  max_message_size = None;
}

-- a sender says where its count of deliveries starts
abbrev pub count_of_sender : Role → Option ℕ
count_of_sender Sender = Some 0
count_of_sender Receiver = None

-- the answer to an attach that is refused: it has neither source nor target (2.6.3)
abbrev pub attach_refused : AttachFields → AttachFields
attach_refused theirs = record {
  name = theirs.name;
  handle = theirs.handle;
  role = other_role theirs.role;
  snd_settle_mode = None;
  rcv_settle_mode = None;
  source = None;
  target = None;
  initial_delivery_count = count_of_sender (other_role theirs.role);
  max_message_size = None;
}

abbrev pub detach_with : ℕ → Bool → Option ErrorCondition → DetachFields
detach_with handle closed error = record { handle = handle; closed = Some closed; error = option_map condition_name error }

-- ---- flows

-- a flow that speaks of its session alone (2.7.4)
abbrev pub session_flow : ℕ → ℕ → Flow
session_flow next_incoming next_outgoing = record {
  next_incoming_id = Some next_incoming;
  incoming_window = INCOMING_WINDOW;
  next_outgoing_id = next_outgoing;
  outgoing_window = OUTGOING_WINDOW;
  handle = None;
  delivery_count = None;
  link_credit = None;
  drain = None;
  echo = None;
}

-- one that is said of a link too: its count of deliveries and its credit; that it drains is said, else nothing
abbrev pub link_flow : Flow → ℕ → ℕ → ℕ → Bool → Flow
link_flow flow handle count credit drains = record {
  next_incoming_id = flow.next_incoming_id;
  incoming_window = flow.incoming_window;
  next_outgoing_id = flow.next_outgoing_id;
  outgoing_window = flow.outgoing_window;
  handle = Some handle;
  delivery_count = Some count;
  link_credit = Some credit;
  drain = said_if drains;
  echo = None;
}
  where
    said_if : Bool → Option Bool
    said_if true = Some true
    said_if false = None

-- ---- deliveries

-- the first transfer of a delivery (2.7.5)
abbrev pub first_transfer : ℕ → ℕ → List ℕ → ℕ → Bool → Bool → TransferFields
first_transfer handle id tag format settled more = record {
  handle = handle;
  delivery_id = Some id;
  delivery_tag = Some tag;
  message_format = Some format;
  settled = Some settled;
  more = Some more;
  resume = None;
  aborted = None;
}

-- a later one
abbrev pub later_transfer : ℕ → Bool → TransferFields
later_transfer handle more = record {
  handle = handle;
  delivery_id = None;
  delivery_tag = None;
  message_format = None;
  settled = None;
  more = Some more;
  resume = None;
  aborted = None;
}

-- the outcome of a delivery, told to its producer (2.7.6)
abbrev pub outcome_told : ℕ → Option StateFields → DispositionFields
outcome_told id state = record { role = Receiver; first = id; last = None; settled = Some true; state = state }

-- that a delivery is settled, told to its consumer
abbrev pub settling : ℕ → DispositionFields
settling id = record { role = Sender; first = id; last = None; settled = Some true; state = None }

-- ---- states

-- the code of an outcome's descriptor (part 3, 3.4)
abbrev pub outcome_code : Outcome → ℕ
outcome_code Accepted = 0x24
outcome_code Rejected = 0x25
outcome_code Released = 0x26
outcome_code Modified = 0x27

-- an outcome without fields
abbrev pub bare_state : Outcome → StateFields
bare_state outcome = record { octets = 0x00 ∷ 0x53 ∷ outcome_code outcome ∷ 0x45 ∷ []; outcome = Some outcome }

-- modified, with delivery-failed true (part 3, 3.4.5)
abbrev pub delivery_failed : StateFields
delivery_failed = record { octets = 0x00 ∷ 0x53 ∷ 0x27 ∷ 0xC0 ∷ 0x02 ∷ 0x01 ∷ 0x41 ∷ []; outcome = Some Modified }

-- a state that came in one frame
abbrev pub FitsFrame : StateFields → Type 0
FitsFrame state = length state.octets ≤ MAX_FRAME_SIZE
