use Rattle.std.proofs.Common.{List, ℕ, subst}
use Rattle.amqp_types.specs.Part.{Seen}
use Rattle.flow_counts.specs.Words.{Gives}
use Rattle.amqp_types.specs.View.{view}
use Rattle.amqp_types.proofs.Front.{is_found, front_read}
use Rattle.amqp_types.proofs.value.Value.read.Goals as goal

pub returns-clause-found : goal.returns-clause-found
returns-clause-found c = is_found c.args.bytes.now c.read_value.result c.read_value.ensures

pub returns-clause-only : goal.returns-clause-only
returns-clause-only c =
    λ value rest front. subst (Gives {Y = Seen × List ℕ} (λ x. (view x.0, x.1.now)) c.read_value.result) (front_read c.args.bytes.now value rest front) c.read_value.ensures
