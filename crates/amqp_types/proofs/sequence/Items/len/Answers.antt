use Rattle.std.proofs.Common.{sym}
use Rattle.amqp_types.specs.Form.{kept_form}
use Rattle.amqp_types.proofs.Held.{are_items_of}
use Rattle.amqp_types.proofs.sequence.Items.len.Goals as goal

pub returns : goal.returns
returns c = sym (are_items_of (kept_form c.args.self.now.form) c.args.self.now.left c.args.self.now.rest.now c.args.self.now.filled).count
