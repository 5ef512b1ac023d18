use Rattle.std.proofs.Common.{sym, ap, ◌∙◌, ℕ, List, [], Option, None, Result, Ok, Err}
use Rattle.std.proofs.lemmas.List.{append-nil}
use Rattle.amqp_perf.specs.declared.fault.PerfFault.{PerfFault}
use Rattle.amqp_perf.specs.Meaning.{Meaning, ADisposition, state_told}
use Rattle.amqp_perf.specs.Nested.{StateFields}
use Rattle.due_outcomes.proofs.state.state_told.Goals as goal

abbrev state_read : Result (Meaning × List ℕ) PerfFault → Option StateFields
state_read (Ok x) = state_told x.0
state_read (Err fault) = None

pub returns-in-Ok : goal.returns-in-Ok
returns-in-Ok c = λ fields is.
    c.state_in.ensures ∙ sym (ap state_read (c.in-Ok.ensures.only (ADisposition fields) [] (record { front = c.args.octets.now; parts = sym (append-nil c.args.octets.now); is = is })))

pub returns-in-Err : goal.returns-in-Err
returns-in-Err c = λ fields is.
    let never = c.in-Err.ensures.only (ADisposition fields) [] (record { front = c.args.octets.now; parts = sym (append-nil c.args.octets.now); is = is }) in
    absurd cc
