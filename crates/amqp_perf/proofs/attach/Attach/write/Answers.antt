use Rattle.std.proofs.Common.{rules}
use Rattle.amqp_perf.specs.View.{attach_fields}
use Rattle.amqp_perf.proofs.NestedAgain.{attach_read_again}
use Rattle.amqp_perf.proofs.attach.Attach.write.Goals as goal

pub returns-in_err-put_source-clause-again : goal.returns-in_err-put_source-clause-again
returns-in_err-put_source-clause-again c = attach_read_again (attach_fields c.args.self) (search rules) (search rules) (search rules) (search rules) c.requires

pub returns-in_err-put_target-clause-again : goal.returns-in_err-put_target-clause-again
returns-in_err-put_target-clause-again c = attach_read_again (attach_fields c.args.self) (search rules) (search rules) (search rules) (search rules) c.requires

pub returns-clause-again : goal.returns-clause-again
returns-clause-again c = attach_read_again (attach_fields c.args.self) (search rules) (search rules) (search rules) (search rules) c.requires
