use Rattle.std.proofs.Common.{arith}
use Rattle.flow_counts.specs.declared.profile.TheConstants.{MAX_DEPTH}
use Rattle.amqp_types.specs.View.{part_of}
use Rattle.amqp_types.proofs.Values.{data_shorter}
use Rattle.amqp_types.proofs.known.known_value.Goals as goal

pub slice_bounds-raw-count : goal.slice_bounds-raw-count
slice_bounds-raw-count c =
    let shorter = data_shorter MAX_DEPTH c.in-Some-of.code 0 c.in-Some.behind.now (part_of c.known_data.result.0, c.known_data.result.1.now) c.known_data.ensures in
    omega (arith, shorter, c.in-Some.ensures.cases.1)
