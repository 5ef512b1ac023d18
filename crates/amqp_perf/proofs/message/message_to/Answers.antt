use Rattle.std.proofs.Common.{◌∙◌}
use Rattle.amqp_perf.proofs.Messages.{is_for, for_it}
use Rattle.amqp_perf.proofs.message.message_to.Goals as goal

pub returns-clause-found : goal.returns-clause-found
returns-clause-found c = is_for c.args.payload.now c.find_address.result c.find_address.ensures

pub returns-clause-only : goal.returns-clause-only
returns-clause-only c = λ to is. c.find_address.ensures ∙ for_it c.args.payload.now to is
