use Rattle.std.proofs.Common.{subst}
use Rattle.amqp_perf.specs.Meaning.{ADisposition}
use Rattle.amqp_perf.specs.Router.{settling}
use Rattle.amqp_perf.proofs.Writable.{settling_writable}
use Rattle.trace_events.specs.Written.{written_settling}
use Rattle.route_dues.specs.Writing.{IsReadAgain}
use Rattle.route_dues.proofs.Lengths.{settling_short, short_within}
use Rattle.std.proofs.Common.{None}
use Rattle.route_dues.proofs.dispositions.put_settling.Goals as goal

pub returns-clause-again : goal.returns-clause-again
returns-clause-again c =
    let channel = c.args.delivery.now.link.session.channel in
    let id = c.unwrap_or-id.result in
    subst (λ n. IsReadAgain (written_settling channel n)) c.unwrap_or-id.ensures
    (c.put_decided.ensures.again None (settling_writable id) (short_within channel (ADisposition (settling id)) (settling_short id)))
