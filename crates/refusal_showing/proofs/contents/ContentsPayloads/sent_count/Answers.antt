use Rattle.std.proofs.Common.{◌∙◌}
use Rattle.trace_events.specs.View.{outgoing_view}
use Rattle.refusal_showing.proofs.SentCounts.{count_known}
use Rattle.refusal_showing.proofs.contents.ContentsPayloads.sent_count.Goals as goal

pub returns : goal.returns
returns c = λ rules history tells knows.
    let contents = c.args.self.now in
    c.sent_count.ensures ∙ count_known rules history contents.deliveries.now contents.sent.now tells (outgoing_view c.args.delivery.now) knows
