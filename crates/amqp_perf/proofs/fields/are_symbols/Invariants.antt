use Rattle.std.proofs.Common.{◌≡◌}
use Rattle.amqp_perf.specs.FieldsLeft.{fields_left}
use Rattle.amqp_perf.specs.Tables.{are_symbols}
use Rattle.amqp_perf.proofs.fields.are_symbols.Given as goal

abbrev pub invariant-loop-value : goal.invariant-loop-value
invariant-loop-value l =
    (goal.iterator-loop-value).can_next l.value-iterator ×
    (goal.iterator-loop-value).is_finite l.value-iterator ×
    (are_symbols (fields_left l.items) ≡ are_symbols (fields_left l.value-iterator))
