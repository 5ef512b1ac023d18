-- What an attach tells of its link (part 2, 2.7.3).
use Rattle.std.specs.Prelude.{ℕ, Bool, true, false, List, Option, Some, None}
use Rattle.amqp_perf.specs.declared.attach.Role.{Role}
use Rattle.amqp_perf.specs.declared.attach.Role.TheVariants.{Sender, Receiver}
use Rattle.amqp_perf.specs.Meaning.{AttachFields, flag}
use Rattle.amqp_perf.specs.Nested.{AddressFields, AText, AnOther, TerminusFields, TargetFields, ATerminus, ACoordinator}
use Rattle.capture_view.specs.declared.told.Writer.{Writer}
use Rattle.capture_view.specs.declared.told.Writer.TheVariants.{Client, Router}
use Rattle.capture_view.specs.declared.told.LinkRole.{LinkRole}
use Rattle.capture_view.specs.declared.told.LinkRole.TheVariants.{Producer, Consumer}
use Rattle.capture_view.specs.declared.told.AddressTold.{AddressTold}
use Rattle.capture_view.specs.declared.told.AddressTold.TheVariants as tolds
use Rattle.capture_view.specs.declared.told.LinkTold.{LinkTold}

-- the address of a link: there is none, a text, octets of another type, one that is to be made up, or the coordinator
pub data LinkAddressText : Type 0 where
  NoAddress : LinkAddressText
  TextAddress : List ℕ → LinkAddressText
  OtherAddress : List ℕ → LinkAddressText
  DynamicAddress : LinkAddressText
  CoordinatorAddress : LinkAddressText

-- a link, by what an attach tells
pub record LinkText : Type 0 where
  pub name : List ℕ
  pub role : LinkRole
  pub address : LinkAddressText

-- values of the code, apart from where they lie in memory
abbrev pub address_text : AddressTold → LinkAddressText
address_text tolds.Absent = NoAddress
address_text (tolds.Text text) = TextAddress text.now
address_text (tolds.Other octets) = OtherAddress octets.now
address_text tolds.Dynamic = DynamicAddress
address_text tolds.Coordinator = CoordinatorAddress

abbrev pub told_text : LinkTold → LinkText
told_text told = record { name = told.name.now; role = told.role; address = address_text told.address }

-- which end of the link the client is: deliveries go from the sender to the receiver (part 2, 2.8.1)
abbrev pub role_told : Writer → Role → LinkRole
role_told Client Sender = Producer
role_told Client Receiver = Consumer
role_told Router Sender = Consumer
role_told Router Receiver = Producer

-- the address of a source or target; one that stands there counts, also where one is to be made up
abbrev pub address_or_dynamic : Option AddressFields → Bool → LinkAddressText
address_or_dynamic (Some (AText text)) dynamic = TextAddress text
address_or_dynamic (Some (AnOther octets)) dynamic = OtherAddress octets
address_or_dynamic None true = DynamicAddress
address_or_dynamic None false = NoAddress

abbrev pub address_of : TerminusFields → LinkAddressText
address_of terminus = address_or_dynamic terminus.address (flag terminus.dynamic)

abbrev pub source_address : Option TerminusFields → LinkAddressText
source_address None = NoAddress
source_address (Some terminus) = address_of terminus

abbrev pub target_address : Option TargetFields → LinkAddressText
target_address None = NoAddress
target_address (Some (ATerminus terminus)) = address_of terminus
target_address (Some ACoordinator) = CoordinatorAddress

-- a producer's address is that of its target, a consumer's that of its source
abbrev pub address_by : LinkRole → AttachFields → LinkAddressText
address_by Producer fields = target_address fields.target
address_by Consumer fields = source_address fields.source

-- what an attach tells of its link
abbrev pub link_told : Writer → AttachFields → LinkText
link_told writer fields =
    let role = role_told writer fields.role in
    record { name = fields.name; role = role; address = address_by role fields }
