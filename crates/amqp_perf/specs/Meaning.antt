-- What a performative says: its fields as they stand (part 2, section 2.7).
use Rattle.std.specs.Prelude.{ℕ, Bool, false, List, [], Option, None, option_map, unwrap_or}
use Rattle.amqp_types.specs.Part.{Seen}
use Rattle.amqp_types.specs.Typed.{boolean_in, ushort_in, uint_in, ulong_in, binary_in, str_in}
use Rattle.amqp_perf.specs.declared.attach.Role.{Role}
use Rattle.amqp_perf.specs.declared.attach.SenderSettleMode.{SenderSettleMode}
use Rattle.amqp_perf.specs.declared.attach.SenderSettleMode.TheVariants.{Mixed}
use Rattle.amqp_perf.specs.declared.attach.ReceiverSettleMode.{ReceiverSettleMode}
use Rattle.amqp_perf.specs.declared.attach.ReceiverSettleMode.TheVariants.{First}
use Rattle.amqp_perf.specs.declared.begin.Begin.{Begin}
use Rattle.amqp_perf.specs.declared.flow.Flow.{Flow}
use Rattle.amqp_perf.specs.declared.descriptor.PerformativeKind.{PerformativeKind}
use Rattle.amqp_perf.specs.declared.descriptor.PerformativeKind.TheVariants as kinds
use Rattle.amqp_perf.specs.FieldPlaces.{field_at}
use Rattle.amqp_perf.specs.Nested.{StateFields, TerminusFields, TargetFields, role_of, sender_mode_in, receiver_mode_in, state_in, source_in, target_in, condition_in}

-- an open, without the place of its texts
pub record OpenFields : Type 0 where
  pub container_id : List ℕ
  pub max_frame_size : Option ℕ
  pub channel_max : Option ℕ
  pub idle_time_out : Option ℕ

-- an attach, without the place of its name, source and target
pub record AttachFields : Type 0 where
  pub name : List ℕ
  pub handle : ℕ
  pub role : Role
  pub snd_settle_mode : Option SenderSettleMode
  pub rcv_settle_mode : Option ReceiverSettleMode
  pub source : Option TerminusFields
  pub target : Option TargetFields
  pub initial_delivery_count : Option ℕ
  pub max_message_size : Option ℕ

-- a transfer, without the place of its delivery-tag
pub record TransferFields : Type 0 where
  pub handle : ℕ
  pub delivery_id : Option ℕ
  pub delivery_tag : Option (List ℕ)
  pub message_format : Option ℕ
  pub settled : Option Bool
  pub more : Option Bool
  pub resume : Option Bool
  pub aborted : Option Bool

-- a disposition, without the place of its state
pub record DispositionFields : Type 0 where
  pub role : Role
  pub first : ℕ
  pub last : Option ℕ
  pub settled : Option Bool
  pub state : Option StateFields

-- a detach, without the place of its error's condition
pub record DetachFields : Type 0 where
  pub handle : ℕ
  pub closed : Option Bool
  pub error : Option (List ℕ)

-- what a performative says
pub data Meaning : Type 0 where
  AnOpen : OpenFields → Meaning
  ABegin : Begin → Meaning
  AnAttach : AttachFields → Meaning
  AFlow : Flow → Meaning
  ATransfer : TransferFields → Meaning
  ADisposition : DispositionFields → Meaning
  ADetach : DetachFields → Meaning
  -- the condition of the error, where there is one
  AnEnd : Option (List ℕ) → Meaning
  AClose : Option (List ℕ) → Meaning

-- a mandatory number
abbrev pub number_at : ℕ → List Seen → ℕ
number_at n fields = unwrap_or (uint_in (field_at n fields).part) 0

-- a mandatory text
abbrev pub text_at : ℕ → List Seen → List ℕ
text_at n fields = unwrap_or (str_in (field_at n fields).part) []

-- a mandatory role
abbrev pub role_at : ℕ → List Seen → Role
role_at n fields = role_of (unwrap_or (boolean_in (field_at n fields).part) false)

-- an open (2.7.1)
abbrev pub open_of : List Seen → OpenFields
open_of fields = record {
  container_id = text_at 0 fields;
  max_frame_size = uint_in (field_at 2 fields).part;
  channel_max = ushort_in (field_at 3 fields).part;
  idle_time_out = uint_in (field_at 4 fields).part;
}

-- a begin (2.7.2)
abbrev pub begin_of : List Seen → Begin
begin_of fields = record {
  remote_channel = ushort_in (field_at 0 fields).part;
  next_outgoing_id = number_at 1 fields;
  incoming_window = number_at 2 fields;
  outgoing_window = number_at 3 fields;
  handle_max = uint_in (field_at 4 fields).part;
}

-- an attach (2.7.3)
abbrev pub attach_of : List Seen → AttachFields
attach_of fields = record {
  name = text_at 0 fields;
  handle = number_at 1 fields;
  role = role_at 2 fields;
  snd_settle_mode = sender_mode_in (field_at 3 fields).part;
  rcv_settle_mode = receiver_mode_in (field_at 4 fields).part;
  source = source_in (field_at 5 fields);
  target = target_in (field_at 6 fields);
  initial_delivery_count = uint_in (field_at 9 fields).part;
  max_message_size = ulong_in (field_at 10 fields).part;
}

-- a flow (2.7.4)
abbrev pub flow_of : List Seen → Flow
flow_of fields = record {
  next_incoming_id = uint_in (field_at 0 fields).part;
  incoming_window = number_at 1 fields;
  next_outgoing_id = number_at 2 fields;
  outgoing_window = number_at 3 fields;
  handle = uint_in (field_at 4 fields).part;
  delivery_count = uint_in (field_at 5 fields).part;
  link_credit = uint_in (field_at 6 fields).part;
  drain = boolean_in (field_at 8 fields).part;
  echo = boolean_in (field_at 9 fields).part;
}

-- a transfer (2.7.5)
abbrev pub transfer_of : List Seen → TransferFields
transfer_of fields = record {
  handle = number_at 0 fields;
  delivery_id = uint_in (field_at 1 fields).part;
  delivery_tag = binary_in (field_at 2 fields).part;
  message_format = uint_in (field_at 3 fields).part;
  settled = boolean_in (field_at 4 fields).part;
  more = boolean_in (field_at 5 fields).part;
  resume = boolean_in (field_at 8 fields).part;
  aborted = boolean_in (field_at 9 fields).part;
}

-- a disposition (2.7.6)
abbrev pub disposition_of : List Seen → DispositionFields
disposition_of fields = record {
  role = role_at 0 fields;
  first = number_at 1 fields;
  last = uint_in (field_at 2 fields).part;
  settled = boolean_in (field_at 3 fields).part;
  state = state_in (field_at 4 fields);
}

-- a detach (2.7.7)
abbrev pub detach_of : List Seen → DetachFields
detach_of fields = record {
  handle = number_at 0 fields;
  closed = boolean_in (field_at 1 fields).part;
  error = condition_in (field_at 2 fields);
}

-- what fields say as a performative
abbrev pub meaning_of : PerformativeKind → List Seen → Meaning
meaning_of kinds.Open fields = AnOpen (open_of fields)
meaning_of kinds.Begin fields = ABegin (begin_of fields)
meaning_of kinds.Attach fields = AnAttach (attach_of fields)
meaning_of kinds.Flow fields = AFlow (flow_of fields)
meaning_of kinds.Transfer fields = ATransfer (transfer_of fields)
meaning_of kinds.Disposition fields = ADisposition (disposition_of fields)
meaning_of kinds.Detach fields = ADetach (detach_of fields)
meaning_of kinds.End fields = AnEnd (condition_in (field_at 0 fields))
meaning_of kinds.Close fields = AClose (condition_in (field_at 0 fields))

-- ---- the standard's defaults

-- a flag that is false where it is absent
abbrev pub flag : Option Bool → Bool
flag value = unwrap_or value false

-- the largest frame that the sender of an open takes (2.7.1)
abbrev pub frame_limit : OpenFields → ℕ
frame_limit fields = unwrap_or fields.max_frame_size 4294967295

-- how the sender settles (2.7.3)
abbrev pub sender_mode : AttachFields → SenderSettleMode
sender_mode fields = unwrap_or fields.snd_settle_mode Mixed

-- when the receiver settles (2.7.3)
abbrev pub receiver_mode : AttachFields → ReceiverSettleMode
receiver_mode fields = unwrap_or fields.rcv_settle_mode First

-- the last id that a disposition speaks of (2.7.6)
abbrev pub last_id : DispositionFields → ℕ
last_id fields = unwrap_or fields.last fields.first

-- ---- parts

-- the state that a disposition tells
abbrev pub state_told : Meaning → Option StateFields
state_told (ADisposition fields) = fields.state
state_told other = None

-- its octets
abbrev pub state_octets : Meaning → Option (List ℕ)
state_octets meaning = option_map (λ state. state.octets) (state_told meaning)
