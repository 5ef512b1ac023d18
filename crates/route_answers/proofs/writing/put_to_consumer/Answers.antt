use Rattle.std.proofs.Common.{sym, subst, ◌∙◌, ◌≤◌, length, true, false}
use Rattle.flow_counts.specs.declared.profile.TheConstants.{MAX_ADDRESS}
use Rattle.amqp_perf.specs.View.{attach_fields}
use Rattle.route_answers.specs.Replies.{source_text}
use Rattle.route_answers.proofs.Short.{consumer_short}
use Rattle.route_answers.proofs.writing.put_to_consumer.Goals as goal

pub put-requires-clause-short : goal.put-requires-clause-short
put-requires-clause-short c =
    consumer_short c.args.channel (attach_fields c.to_consumer-attach.result) (attach_fields c.args.theirs) c.in-Given.address.now false c.args.mode c.to_consumer-attach.ensures.says
    c.requires.named (subst (λ s. length (source_text s) ≤ MAX_ADDRESS) c.in-Given.is c.requires.short)

pub put-requires-in-Made-clause-short : goal.put-requires-in-Made-clause-short
put-requires-in-Made-clause-short c =
    consumer_short c.args.channel (attach_fields c.to_consumer-attach-in-Made.result) (attach_fields c.args.theirs) c.deref.result.now true c.args.mode c.to_consumer-attach-in-Made.ensures.says
    c.requires.named
    (subst (λ xs. length xs ≤ MAX_ADDRESS) (sym (c.deref.ensures ∙ c.in_ok-address-in-Made.ensures.ok)) (subst (λ s. length (source_text s) ≤ MAX_ADDRESS) c.in-Made.is c.requires.short))
