use Rattle.std.proofs.Common.{subst}
use Rattle.flow_counts.specs.Words.{Gives}
use Rattle.amqp_frames.specs.SaslView.{sasl_view}
use Rattle.amqp_frames.proofs.SaslSpoken.{is_found, sasl_again}
use Rattle.amqp_frames.proofs.sasl.sasl_read.Goals as goal

pub returns-clause-found : goal.returns-clause-found
returns-clause-found c = is_found c.args.body.now c.read_front.result c.read_front.ensures

pub returns-clause-only : goal.returns-clause-only
returns-clause-only c = λ saying front. subst (λ read. Gives sasl_view c.read_front.result read) (sasl_again c.args.body.now saying front) c.read_front.ensures
