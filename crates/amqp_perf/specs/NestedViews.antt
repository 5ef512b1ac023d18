-- What states, sources and targets of the code stand for.
use Rattle.std.specs.Prelude.{option_map}
use Rattle.amqp_perf.specs.declared.state.State.{State}
use Rattle.amqp_perf.specs.declared.terminus.Address.{Address}
use Rattle.amqp_perf.specs.declared.terminus.Address.TheVariants as addresses
use Rattle.amqp_perf.specs.declared.terminus.Terminus.{Terminus}
use Rattle.amqp_perf.specs.declared.terminus.Target.{Target}
use Rattle.amqp_perf.specs.declared.terminus.Target.TheVariants as targets
use Rattle.amqp_perf.specs.Nested.{StateFields, AddressFields, AText, AnOther, TerminusFields, TargetFields, ATerminus, ACoordinator}

-- a state
abbrev pub state_view : State → StateFields
state_view state = record { octets = state.raw.now; outcome = state.outcome }

-- an address
abbrev pub address_view : Address → AddressFields
address_view (addresses.Text text) = AText text.now
address_view (addresses.Other octets) = AnOther octets.now

-- a source, or a target that is no coordinator
abbrev pub terminus_view : Terminus → TerminusFields
terminus_view terminus = record { address = option_map address_view terminus.address; dynamic = terminus.dynamic }

-- a target
abbrev pub target_view : Target → TargetFields
target_view (targets.Terminus terminus) = ATerminus (terminus_view terminus)
target_view targets.Coordinator = ACoordinator
