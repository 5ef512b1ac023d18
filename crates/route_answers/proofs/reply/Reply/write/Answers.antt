use Rattle.std.proofs.Common.{subst}
use Rattle.std.specs.Option.{option_copied}
use Rattle.amqp_perf.specs.View.{attach_fields, detach_fields}
use Rattle.route_answers.specs.Replies.{CanBeSaid}
use Rattle.route_answers.proofs.Short.{close_short, end_short, detach_short, producer_short, anonymous_short, refused_short, close_can, end_can}
use Rattle.route_answers.proofs.reply.Reply.write.Goals as goal

pub put-requires-in-Close-clause-writable : goal.put-requires-in-Close-clause-writable
put-requires-in-Close-clause-writable c = close_can (option_copied c.name_of.result) c.in-Close.condition c.name_of.ensures

pub put-requires-in-Close-clause-short : goal.put-requires-in-Close-clause-short
put-requires-in-Close-clause-short c = close_short c.args.self.now.channel (option_copied c.name_of.result) c.in-Close.condition c.name_of.ensures

pub put-requires-in-End-clause-writable : goal.put-requires-in-End-clause-writable
put-requires-in-End-clause-writable c = end_can (option_copied c.name_of-in-End.result) c.in-End.condition c.name_of-in-End.ensures

pub put-requires-in-End-clause-short : goal.put-requires-in-End-clause-short
put-requires-in-End-clause-short c = end_short c.args.self.now.channel (option_copied c.name_of-in-End.result) c.in-End.condition c.name_of-in-End.ensures

pub put-requires-in-ToProducer-clause-short : goal.put-requires-in-ToProducer-clause-short
put-requires-in-ToProducer-clause-short c =
    let can = subst CanBeSaid c.in-ToProducer.is c.requires in
    producer_short c.args.self.now.channel (attach_fields c.to_producer-attach.result) (attach_fields c.in-ToProducer.theirs) c.in-ToProducer.address.now c.to_producer-attach.ensures.says can.0 can.1

pub put-requires-in-ToAnonymous-clause-short : goal.put-requires-in-ToAnonymous-clause-short
put-requires-in-ToAnonymous-clause-short c =
    anonymous_short c.args.self.now.channel (attach_fields c.to_anonymous.result) (attach_fields c.in-ToAnonymous.theirs) c.to_anonymous.ensures.says
    (subst CanBeSaid c.in-ToAnonymous.is c.requires)

pub put-requires-in-Refused-clause-short : goal.put-requires-in-Refused-clause-short
put-requires-in-Refused-clause-short c =
    refused_short c.args.self.now.channel (attach_fields c.refused.result) (attach_fields c.in-Refused.theirs) c.refused.ensures.says (subst CanBeSaid c.in-Refused.is c.requires)

pub put-requires-in-Detach-clause-short : goal.put-requires-in-Detach-clause-short
put-requires-in-Detach-clause-short c =
    detach_short c.args.self.now.channel (detach_fields c.with-detach.result) c.in-Detach.handle c.in-Detach.closed c.in-Detach.condition c.with-detach.ensures.says
