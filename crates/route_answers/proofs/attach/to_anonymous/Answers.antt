use Rattle.amqp_perf.specs.View.{attach_fields}
use Rattle.route_answers.proofs.Attaches.{anonymous_writable}
use Rattle.route_answers.proofs.attach.to_anonymous.Goals as goal

pub returns-clause-writable : goal.returns-clause-writable
returns-clause-writable c = anonymous_writable (attach_fields c.args.theirs)
