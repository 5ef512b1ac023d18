use Rattle.std.proofs.Common.{◌≡◌, option_map}
use Rattle.amqp_perf.specs.View.{disposition_fields}
use Rattle.trace_events.specs.Words.{or_else}
use Rattle.trace_events.specs.Outgoing.{first_deciding}
use Rattle.trace_law.specs.OnStack.{events}
use Rattle.trace_events.specs.View.{outgoing_view}
use Rattle.trace_law.proofs.past.Past.first_deciding.Given as goal

abbrev pub invariant-loop-rest : goal.invariant-loop-rest
invariant-loop-rest l =
    or_else (first_deciding (outgoing_view l.delivery) (events l.rest)) (option_map disposition_fields l.first)
    ≡ first_deciding (outgoing_view l.delivery) (events l.self)
