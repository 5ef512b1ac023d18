use Rattle.amqp_perf.specs.View.{view}
use Rattle.route_dues.specs.Writing.{spoken_with}
use Rattle.route_dues.proofs.Again.{read_again}
use Rattle.route_dues.proofs.Lengths.{body_counted, body_within}
use Rattle.route_dues.proofs.frame.put_spoken.Goals as goal

pub put_frame-requires-clause-fits : goal.put_frame-requires-clause-fits
put_frame-requires-clause-fits c = body_counted (spoken_with c.args.channel (view c.args.performative.now) c.args.payload.now) c.requires.fits

pub returns-clause-again : goal.returns-clause-again
returns-clause-again c = λ fits.
    let spoken = spoken_with c.args.channel (view c.args.performative.now) c.args.payload.now in
    read_again spoken (c.put_frame.ensures.framed 16384 (body_within spoken fits)) c.put_frame.ensures.again
