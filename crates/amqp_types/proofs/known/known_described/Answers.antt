use Rattle.std.proofs.Common.{arith}
use Rattle.flow_counts.specs.declared.profile.TheConstants.{MAX_DEPTH}
use Rattle.amqp_types.proofs.PassedOver.{value_shorter, front_held}
use Rattle.amqp_types.proofs.ReadBefore.{known_descriptor, known_described, parts_passed}
use Rattle.amqp_types.proofs.known.known_described.Goals as goal

pub known_behind-described-requires : goal.known_behind-described-requires
known_behind-described-requires c = known_descriptor c.args.bytes.now c.requires

pub slice_bounds-descriptor-count : goal.slice_bounds-descriptor-count
slice_bounds-descriptor-count c = value_shorter MAX_DEPTH 0 c.args.bytes.now c.known_behind-described.result.now c.known_behind-described.ensures

pub known_behind-rest-requires : goal.known_behind-rest-requires
known_behind-rest-requires c = known_described c.args.bytes.now c.known_behind-described.result.now c.requires c.known_behind-described.ensures

pub slice_bounds-value-count : goal.slice_bounds-value-count
slice_bounds-value-count c = value_shorter MAX_DEPTH 0 c.known_behind-described.result.now c.known_behind-rest.result.now c.known_behind-rest.ensures

pub invariant_of-result : goal.invariant_of-result
invariant_of-result c = record {
  descriptor_read = front_held MAX_DEPTH 0 c.args.bytes.now c.known_behind-described.result.now (omega arith) c.known_behind-described.ensures;
  value_read = front_held MAX_DEPTH 0 c.known_behind-described.result.now c.known_behind-rest.result.now (omega arith) c.known_behind-rest.ensures;
}

pub returns : goal.returns
returns c = parts_passed c.args.bytes.now c.known_behind-described.result.now c.known_behind-rest.result.now c.requires c.known_behind-described.ensures c.known_behind-rest.ensures
