-- A performative as it is written (part 2, section 2.7), and what may be written.
use Rattle.std.specs.Prelude.{◌≡◌, ℕ, true, false, List, [], ◌∷◌, Option, Some, None, option_map, IsAscii, IsUtf8}
use Rattle.amqp_types.specs.declared.code.Text.TheVariants as texts
use Rattle.amqp_types.specs.Part.{Part, Seen}
use Rattle.amqp_types.specs.Grammar.{IsValue}
use Rattle.amqp_types.specs.Writing.{levels_in_described}
use Rattle.amqp_perf.specs.declared.attach.Role.{Role}
use Rattle.amqp_perf.specs.declared.attach.Role.TheVariants.{Sender, Receiver}
use Rattle.amqp_perf.specs.declared.attach.SenderSettleMode.{SenderSettleMode}
use Rattle.amqp_perf.specs.declared.attach.SenderSettleMode.TheVariants.{Unsettled, Settled, Mixed}
use Rattle.amqp_perf.specs.declared.attach.ReceiverSettleMode.{ReceiverSettleMode}
use Rattle.amqp_perf.specs.declared.attach.ReceiverSettleMode.TheVariants.{First, Second}
use Rattle.amqp_perf.specs.declared.begin.Begin.{Begin}
use Rattle.amqp_perf.specs.declared.flow.Flow.{Flow}
use Rattle.amqp_perf.specs.declared.descriptor.PerformativeKind.{PerformativeKind}
use Rattle.amqp_perf.specs.declared.descriptor.PerformativeKind.TheVariants as kinds
use Rattle.amqp_perf.specs.Nested.{StateFields, AddressFields, AText, AnOther, TerminusFields, TargetFields, ATerminus, ACoordinator, state_in}
use Rattle.amqp_perf.specs.Meaning.{Meaning, AnOpen, ABegin, AnAttach, AFlow, ATransfer, ADisposition, ADetach, AnEnd, AClose, OpenFields, AttachFields, TransferFields, DispositionFields, DetachFields}
use Rattle.amqp_perf.specs.Slots.{boolean_value, ubyte_value, ushort_value, uint_value, ulong_value, text_value, kept_value, fields_octets, IsShort, AreShort}

-- ---- what stands in a field

-- a role (part 2, 2.8.1)
abbrev pub role_value : Role → Seen
role_value Sender = boolean_value false
role_value Receiver = boolean_value true

-- a settle mode of the sender (part 2, 2.8.2)
abbrev pub sender_mode_value : SenderSettleMode → Seen
sender_mode_value Unsettled = ubyte_value 0
sender_mode_value Settled = ubyte_value 1
sender_mode_value Mixed = ubyte_value 2

-- a settle mode of the receiver (part 2, 2.8.3)
abbrev pub receiver_mode_value : ReceiverSettleMode → Seen
receiver_mode_value First = ubyte_value 0
receiver_mode_value Second = ubyte_value 1

-- a state as the octets that it has
abbrev pub state_value : StateFields → Seen
state_value state = kept_value state.octets

abbrev pub address_value : AddressFields → Seen
address_value (AText text) = text_value texts.Str text
address_value (AnOther octets) = kept_value octets

-- a source and a target begin alike: address, durable, expiry-policy, timeout, dynamic (part 3, 3.5.3 and 3.5.4)
abbrev pub terminus_slots : TerminusFields → List (Option Seen)
terminus_slots terminus = option_map address_value terminus.address ∷ None ∷ None ∷ None ∷ option_map boolean_value terminus.dynamic ∷ []

-- a source (part 3, 3.5.3)
abbrev pub source_octets : TerminusFields → List ℕ
source_octets terminus = fields_octets 0x28 (terminus_slots terminus)

abbrev pub source_value : TerminusFields → Seen
source_value terminus = kept_value (source_octets terminus)

-- a target (part 3, 3.5.4), or the coordinator without its capabilities (part 4, 4.5.1)
abbrev pub target_octets : TargetFields → List ℕ
target_octets (ATerminus terminus) = fields_octets 0x29 (terminus_slots terminus)
target_octets ACoordinator = fields_octets 0x30 []

abbrev pub target_value : TargetFields → Seen
target_value target = kept_value (target_octets target)

-- an error has its condition alone (part 2, 2.8.14)
abbrev pub error_slots : List ℕ → List (Option Seen)
error_slots condition = Some (text_value texts.Symbol condition) ∷ []

abbrev pub error_octets : List ℕ → List ℕ
error_octets condition = fields_octets 0x1D (error_slots condition)

abbrev pub error_value : List ℕ → Seen
error_value condition = kept_value (error_octets condition)

-- the octets of what is there
abbrev pub octets_if : {A : Type 0} → (A → List ℕ) → Option A → List ℕ
octets_if of None = []
octets_if of (Some x) = of x

-- ---- performatives

-- 2.7.1
abbrev pub open_slots : OpenFields → List (Option Seen)
open_slots o =
    Some (text_value texts.Str o.container_id) ∷ None ∷ option_map uint_value o.max_frame_size ∷ option_map ushort_value o.channel_max
    ∷ option_map uint_value o.idle_time_out ∷ []

-- 2.7.2
abbrev pub begin_slots : Begin → List (Option Seen)
begin_slots begin =
    option_map ushort_value begin.remote_channel ∷ Some (uint_value begin.next_outgoing_id) ∷ Some (uint_value begin.incoming_window)
    ∷ Some (uint_value begin.outgoing_window) ∷ option_map uint_value begin.handle_max ∷ []

-- 2.7.3
abbrev pub attach_slots : AttachFields → List (Option Seen)
attach_slots attach =
    Some (text_value texts.Str attach.name) ∷ Some (uint_value attach.handle) ∷ Some (role_value attach.role)
    ∷ option_map sender_mode_value attach.snd_settle_mode ∷ option_map receiver_mode_value attach.rcv_settle_mode
    ∷ option_map source_value attach.source ∷ option_map target_value attach.target ∷ None ∷ None
    ∷ option_map uint_value attach.initial_delivery_count ∷ option_map ulong_value attach.max_message_size ∷ []

-- 2.7.4
abbrev pub flow_slots : Flow → List (Option Seen)
flow_slots flow =
    option_map uint_value flow.next_incoming_id ∷ Some (uint_value flow.incoming_window) ∷ Some (uint_value flow.next_outgoing_id)
    ∷ Some (uint_value flow.outgoing_window) ∷ option_map uint_value flow.handle ∷ option_map uint_value flow.delivery_count
    ∷ option_map uint_value flow.link_credit ∷ None ∷ option_map boolean_value flow.drain ∷ option_map boolean_value flow.echo ∷ []

-- 2.7.5
abbrev pub transfer_slots : TransferFields → List (Option Seen)
transfer_slots transfer =
    Some (uint_value transfer.handle) ∷ option_map uint_value transfer.delivery_id ∷ option_map (text_value texts.Binary) transfer.delivery_tag
    ∷ option_map uint_value transfer.message_format ∷ option_map boolean_value transfer.settled ∷ option_map boolean_value transfer.more
    ∷ None ∷ None ∷ option_map boolean_value transfer.resume ∷ option_map boolean_value transfer.aborted ∷ []

-- 2.7.6
abbrev pub disposition_slots : DispositionFields → List (Option Seen)
disposition_slots disposition =
    Some (role_value disposition.role) ∷ Some (uint_value disposition.first) ∷ option_map uint_value disposition.last
    ∷ option_map boolean_value disposition.settled ∷ option_map state_value disposition.state ∷ []

-- 2.7.7
abbrev pub detach_slots : DetachFields → List (Option Seen)
detach_slots detach = Some (uint_value detach.handle) ∷ option_map boolean_value detach.closed ∷ option_map error_value detach.error ∷ []

-- an end and a close (2.7.8 and 2.7.9)
abbrev pub ending_slots : Option (List ℕ) → List (Option Seen)
ending_slots error = option_map error_value error ∷ []

abbrev pub kind_of : Meaning → PerformativeKind
kind_of (AnOpen o) = kinds.Open
kind_of (ABegin begin) = kinds.Begin
kind_of (AnAttach attach) = kinds.Attach
kind_of (AFlow flow) = kinds.Flow
kind_of (ATransfer transfer) = kinds.Transfer
kind_of (ADisposition disposition) = kinds.Disposition
kind_of (ADetach detach) = kinds.Detach
kind_of (AnEnd error) = kinds.End
kind_of (AClose error) = kinds.Close

-- the codes of the descriptors (part 2, 2.7)
abbrev pub code_of_kind : PerformativeKind → ℕ
code_of_kind kinds.Open = 0x10
code_of_kind kinds.Begin = 0x11
code_of_kind kinds.Attach = 0x12
code_of_kind kinds.Flow = 0x13
code_of_kind kinds.Transfer = 0x14
code_of_kind kinds.Disposition = 0x15
code_of_kind kinds.Detach = 0x16
code_of_kind kinds.End = 0x17
code_of_kind kinds.Close = 0x18

-- the fields of a performative, each in its place
abbrev pub slots_of : Meaning → List (Option Seen)
slots_of (AnOpen o) = open_slots o
slots_of (ABegin begin) = begin_slots begin
slots_of (AnAttach attach) = attach_slots attach
slots_of (AFlow flow) = flow_slots flow
slots_of (ATransfer transfer) = transfer_slots transfer
slots_of (ADisposition disposition) = disposition_slots disposition
slots_of (ADetach detach) = detach_slots detach
slots_of (AnEnd error) = ending_slots error
slots_of (AClose error) = ending_slots error

-- the octets of a performative, without a payload
abbrev pub performative_octets : Meaning → List ℕ
performative_octets meaning = fields_octets (code_of_kind (kind_of meaning)) (slots_of meaning)

-- ---- what may be written

-- what holds of a value, if there is one
abbrev pub IfThere : {A : Type 0} → (A → Type 0) → Option A → Type 0
IfThere Is None = Unit {0}
IfThere Is (Some x) = Is x

-- a state is a described value, nested at most 30 deep (part 3, 3.4; own rule)
pub record IsWritableState (state : StateFields) : Type 0 where
  pub says : Part
  pub is : IsValue levels_in_described state.octets says
  pub means : state_in (record { octets = state.octets; part = says }) ≡ Some state

-- own rule: only addresses that are texts are written
abbrev pub IsWritableAddress : AddressFields → Type 0
IsWritableAddress (AText text) = IsShort text × IsUtf8 text
IsWritableAddress (AnOther octets) = ⊥

pub record IsWritableTerminus (terminus : TerminusFields) : Type 0 where
  pub address : IfThere IsWritableAddress terminus.address
  pub few : AreShort (terminus_slots terminus)

abbrev pub IsWritableTarget : TargetFields → Type 0
IsWritableTarget (ATerminus terminus) = IsWritableTerminus terminus
IsWritableTarget ACoordinator = Unit {0}

-- a condition is a symbol (part 2, 2.8.14)
pub record IsWritableError (condition : List ℕ) : Type 0 where
  pub ascii : IsAscii condition
  pub short : IsShort condition
  pub few : AreShort (error_slots condition)

-- each text, state and terminus can be written
abbrev pub HasWritableFields : Meaning → Type 0
HasWritableFields (AnOpen o) = IsShort o.container_id
HasWritableFields (ABegin begin) = Unit {0}
HasWritableFields (AnAttach attach) = IsShort attach.name × IfThere IsWritableTerminus attach.source × IfThere IsWritableTarget attach.target
HasWritableFields (AFlow flow) = Unit {0}
HasWritableFields (ATransfer transfer) = IfThere IsShort transfer.delivery_tag
HasWritableFields (ADisposition disposition) = IfThere IsWritableState disposition.state
HasWritableFields (ADetach detach) = IfThere IsWritableError detach.error
HasWritableFields (AnEnd error) = IfThere IsWritableError error
HasWritableFields (AClose error) = IfThere IsWritableError error

-- what can be written: its texts, states and termini can, and its fields have fewer than 4294967292 octets
pub record IsWritable (meaning : Meaning) : Type 0 where
  pub fields : HasWritableFields meaning
  pub few : AreShort (slots_of meaning)
