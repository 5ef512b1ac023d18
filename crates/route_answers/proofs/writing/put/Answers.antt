use Rattle.amqp_perf.specs.View.{view}
use Rattle.trace_events.specs.Written.{says}
use Rattle.route_answers.proofs.Again.{body_short, body_fits, reads_back}
use Rattle.route_answers.proofs.writing.put.Goals as goal

pub put_frame-requires-clause-fits : goal.put_frame-requires-clause-fits
put_frame-requires-clause-fits c = body_fits c.args.channel (view c.args.performative.now) c.requires.short

pub returns-clause-again : goal.returns-clause-again
returns-clause-again c =
    reads_back (says c.args.channel (view c.args.performative.now))
    (c.put_frame.ensures.framed 16384 (body_short c.args.channel (view c.args.performative.now) c.requires.short)) c.put_frame.ensures.again
