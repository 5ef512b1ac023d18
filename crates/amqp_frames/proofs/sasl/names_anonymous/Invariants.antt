use Rattle.std.proofs.Common.{◌≡◌}
use Rattle.amqp_perf.specs.FieldsLeft.{fields_left}
use Rattle.amqp_frames.specs.Sasl.{names_anonymous}
use Rattle.amqp_frames.proofs.sasl.names_anonymous.Given as goal

abbrev pub invariant-loop-mechanism : goal.invariant-loop-mechanism
invariant-loop-mechanism l =
    (goal.iterator-loop-mechanism).can_next l.mechanism-iterator ×
    (goal.iterator-loop-mechanism).is_finite l.mechanism-iterator ×
    (names_anonymous (fields_left l.mechanisms) ≡ names_anonymous (fields_left l.mechanism-iterator))
