use Rattle.due_outcomes.proofs.StateOctets.{slots-can, slots-few}
use Rattle.due_outcomes.proofs.state.put_disposition.Goals as goal

pub put_fields-requires-clause-fields : goal.put_fields-requires-clause-fields
put_fields-requires-clause-fields c = slots-can c.args.octets.now c.requires

pub put_fields-requires-clause-few : goal.put_fields-requires-clause-few
put_fields-requires-clause-few c = slots-few c.args.octets.now c.requires
