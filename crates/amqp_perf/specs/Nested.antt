-- What stands in the fields of a performative that are no plain values: settle modes, states, sources, targets, errors.
use Rattle.std.specs.Prelude.{ℕ, Bool, true, false, ◌&&◌, ◌||◌, List, length, Option, Some, None, is_some, option_and_then, nat_le, ◌==◌, if◌then◌else◌}
use Rattle.amqp_types.specs.declared.code.Text.TheVariants as texts
use Rattle.amqp_types.specs.Part.{Part, Null, Sized, Seen}
use Rattle.amqp_types.specs.Items.{descriptor_of}
use Rattle.amqp_types.specs.Typed.{says_null, boolean_in, ubyte_in, symbol_in}
use Rattle.amqp_perf.specs.declared.descriptor.Outcome.{Outcome}
use Rattle.amqp_perf.specs.declared.descriptor.Descriptor.{Descriptor}
use Rattle.amqp_perf.specs.declared.descriptor.Descriptor.TheVariants as descriptors
use Rattle.amqp_perf.specs.declared.attach.Role.{Role}
use Rattle.amqp_perf.specs.declared.attach.Role.TheVariants.{Sender, Receiver}
use Rattle.amqp_perf.specs.declared.attach.SenderSettleMode.{SenderSettleMode}
use Rattle.amqp_perf.specs.declared.attach.SenderSettleMode.TheVariants.{Unsettled, Settled, Mixed}
use Rattle.amqp_perf.specs.declared.attach.ReceiverSettleMode.{ReceiverSettleMode}
use Rattle.amqp_perf.specs.declared.attach.ReceiverSettleMode.TheVariants.{First, Second}
use Rattle.amqp_perf.specs.Descriptors.{described_list}
use Rattle.amqp_perf.specs.FieldPlaces.{first, field_at}

-- which end of a link speaks (part 2, 2.8.1)
abbrev pub role_of : Bool → Role
role_of false = Sender
role_of true = Receiver

-- how deliveries are settled by the sender (part 2, 2.8.2)
abbrev pub sender_mode_of : ℕ → Option SenderSettleMode
sender_mode_of n = if n == 0 then Some Unsettled else if n == 1 then Some Settled else if n == 2 then Some Mixed else None

-- an ubyte that is such a mode
abbrev pub sender_mode_in : Part → Option SenderSettleMode
sender_mode_in part = option_and_then sender_mode_of (ubyte_in part)

-- when deliveries are settled by the receiver (part 2, 2.8.3)
abbrev pub receiver_mode_of : ℕ → Option ReceiverSettleMode
receiver_mode_of n = if n == 0 then Some First else if n == 1 then Some Second else None

-- an ubyte that is such a mode
abbrev pub receiver_mode_in : Part → Option ReceiverSettleMode
receiver_mode_in part = option_and_then receiver_mode_of (ubyte_in part)

-- a state of a delivery: its octets, and the outcome that it is, if it is terminal (part 3, 3.4)
pub record StateFields : Type 0 where
  pub octets : List ℕ
  pub outcome : Option Outcome

-- the outcome that a descriptor names
abbrev pub outcome_named : Option Descriptor → Option Outcome
outcome_named (Some (descriptors.Outcome outcome)) = Some outcome
outcome_named other = None

-- the outcome that a described list is
abbrev pub outcome_of : Option (Descriptor × List Seen) → Option Outcome
outcome_of (Some (descriptors.Outcome outcome, fields)) = Some outcome
outcome_of other = None

-- any described value is a state (part 3, 3.4)
abbrev pub state_in : Seen → Option StateFields
state_in value =
    if is_some (descriptor_of value.part) then Some (record { octets = value.octets; outcome = outcome_of (described_list value.part) }) else None

-- an address: a text, or a value of another type (part 3, 3.5.3)
pub data AddressFields : Type 0 where
  AText : List ℕ → AddressFields
  AnOther : List ℕ → AddressFields

-- null is no address
abbrev pub address_in : Seen → Option AddressFields
address_in value = address_of value.octets value.part
  where
    address_of : List ℕ → Part → Option AddressFields
    address_of octets Null = None
    address_of octets (Sized texts.Str text) = Some (AText text)
    address_of octets other = Some (AnOther octets)

-- what a source and a target have in common: an address, and whether it is to be made up (part 3, 3.5.3 and 3.5.4)
pub record TerminusFields : Type 0 where
  pub address : Option AddressFields
  pub dynamic : Option Bool

-- so many fields at most, of which the fifth, dynamic, is a boolean where it is there
abbrev pub terminus_of : ℕ → List Seen → Option TerminusFields
terminus_of limit fields =
    if nat_le (length fields) limit && (says_null (field_at 4 fields).part || is_some (boolean_in (field_at 4 fields).part))
    then Some (record { address = address_in (field_at 0 fields); dynamic = boolean_in (field_at 4 fields).part }) else None

-- a source: address, durable, expiry-policy, timeout, dynamic, dynamic-node-properties, distribution-mode, filter,
-- default-outcome, outcomes, capabilities (part 3, 3.5.3)
abbrev pub source_of : Option (Descriptor × List Seen) → Option TerminusFields
source_of (Some (descriptors.Source, fields)) = terminus_of 11 fields
source_of other = None

-- the source that a value is
abbrev pub source_in : Seen → Option TerminusFields
source_in value = source_of (described_list value.part)

-- a target, or the coordinator of transactions, which has its capabilities alone (part 3, 3.5.4; part 4, 4.5.1)
pub data TargetFields : Type 0 where
  ATerminus : TerminusFields → TargetFields
  ACoordinator : TargetFields

-- a terminus that may be there, as a target
abbrev pub a_terminus : Option TerminusFields → Option TargetFields
a_terminus None = None
a_terminus (Some terminus) = Some (ATerminus terminus)

-- a target: address, durable, expiry-policy, timeout, dynamic, dynamic-node-properties, capabilities
abbrev pub target_of : Option (Descriptor × List Seen) → Option TargetFields
target_of (Some (descriptors.Target, fields)) = a_terminus (terminus_of 7 fields)
target_of (Some (descriptors.Coordinator, fields)) = if nat_le (length fields) 1 then Some ACoordinator else None
target_of other = None

-- the target that a value is
abbrev pub target_in : Seen → Option TargetFields
target_in value = target_of (described_list value.part)

-- the condition of an error (part 2, 2.8.14)
abbrev pub condition_of : Option (Descriptor × List Seen) → Option (List ℕ)
condition_of (Some (descriptors.Error, fields)) = symbol_in (first fields).part
condition_of other = None

-- the condition of the error that a value is
abbrev pub condition_in : Seen → Option (List ℕ)
condition_in value = condition_of (described_list value.part)
