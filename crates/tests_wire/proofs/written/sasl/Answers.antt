use Rattle.std.proofs.Common.{true, arith, rules}
use Rattle.amqp_types.specs.Writing.{list_octets, text_octets}
use Rattle.amqp_frames.proofs.SaslWritten.{mechanisms_writable, outcome_writable}
use Rattle.tests_wire.proofs.written.sasl.Goals as goal

pub sasl_write-requires : goal.sasl_write-requires
sasl_write-requires c = mechanisms_writable true

pub sasl_write-requires-in-init : goal.sasl_write-requires-in-init
unfolding text_octets list_octets
sasl_write-requires-in-init c = record { texts = search rules; few = omega arith; fits = omega arith }

pub sasl_write-requires-in-outcome : goal.sasl_write-requires-in-outcome
sasl_write-requires-in-outcome c = outcome_writable 0
