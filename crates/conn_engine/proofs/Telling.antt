-- What was told and said of a fault of the stream.
use Rattle.std.proofs.Common.{◌≡◌, [], refl, inr}
use Rattle.stream_reading.specs.declared.step.Phase.{Phase}
use Rattle.stream_reading.specs.declared.step.Phase.TheVariants.{Open}
use Rattle.stream_reading.specs.declared.step.StreamFault.{StreamFault}
use Rattle.stream_reading.specs.declared.step.StreamFault.TheVariants as stops
use Rattle.stream_reading.specs.Stream.{answer_to_fault}
use Rattle.conn_engine.specs.declared.fault.EngineFault.{EngineFault}
use Rattle.conn_engine.specs.declared.fault.EngineFault.TheVariants as faults
use Rattle.conn_engine.specs.Feeding.{FaultTold, ItemFault, engine_fault, items_at_fault}

-- both were told
pub told_fault : (phase : Phase) (fault : StreamFault) → FaultTold phase fault (items_at_fault phase) (answer_to_fault fault) (engine_fault fault)
told_fault phase stops.HeaderRefused = (refl, refl, refl)
told_fault phase stops.BadFrame = (refl, refl, refl)
told_fault phase stops.SaslRefused = (refl, refl, refl)

-- the router did not take it
pub told_refusal : (phase : Phase) (fault : StreamFault) (refusal : EngineFault) → ItemFault refusal → phase ≡ Open → FaultTold phase fault [] (answer_to_fault fault) refusal
told_refusal phase fault (faults.Port refusal) is open_phase = (open_phase, refl, refl)
told_refusal phase fault faults.Memory is open_phase = (refl, inr (open_phase, refl))
told_refusal phase fault faults.HeaderRefused is open_phase = absurd is
told_refusal phase fault faults.Frame is open_phase = absurd is
told_refusal phase fault faults.Over is open_phase = absurd is
told_refusal phase fault faults.SaslRefused is open_phase = absurd is
