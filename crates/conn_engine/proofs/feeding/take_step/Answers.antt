use Rattle.conn_engine.proofs.Going.{fault_stopped, step_refused, took_step}
use Rattle.conn_engine.proofs.feeding.take_step.Goals as goal

pub returns-in-Ok-clause-told : goal.returns-in-Ok-clause-told
returns-in-Ok-clause-told g c =
    let front = rw c.in-Ok-Some.field-0-is at c.in-Ok-Some.ensures in
    took_step (g.P.Port.items c.args.port.now) (g.P.Port.items c.hand_on.new.port) c.args.reader.now c.took.new.self c.args.output.now c.hand_on.new.output c.args.time_out.now c.time_out_at-time_out_then.result
    c.in-Ok-Some.step.event c.in-Ok-Some.step.octets.now front.0 front.1
    (rw c.in-Ok-Some.field-0-is at c.in-Ok.ensures.items) (rw c.in-Ok-Some.field-0-is at c.in-Ok.ensures.waiting) (rw c.in-Ok-Some.field-0-is at c.time_out_at-time_out_then.ensures) (rw c.in-Ok-Some.field-0-is at c.took.ensures.value)

pub returns-in-Err-hand_on-clause-told : goal.returns-in-Err-hand_on-clause-told
returns-in-Err-hand_on-clause-told g c =
    let front = rw c.in-Ok-Some.field-0-is at c.in-Ok-Some.ensures in
    step_refused (g.P.Port.items c.args.port.now) (g.P.Port.items c.hand_on.new.port) c.args.reader.now c.args.output.now c.hand_on.new.output c.args.time_out.now
    c.in-Ok-Some.step.event c.in-Ok-Some.step.octets.now c.in-Err-hand_on.fault front.0 front.1 c.in-Err-hand_on.ensures.untold (rw c.in-Ok-Some.field-0-is at c.in-Err-hand_on.ensures.refused)

pub returns-in-Err-clause-told : goal.returns-in-Err-clause-told
returns-in-Err-clause-told g c =
    fault_stopped (g.P.Port.items c.args.port.now) (g.P.Port.items c.tell_fault.new.port) c.args.reader.now c.args.output.now c.tell_fault.new.output c.args.time_out.now c.in-Err.fault c.tell_fault.result
    c.in-Err.ensures (rw c.phase-phase.ensures at c.tell_fault.ensures.told)
