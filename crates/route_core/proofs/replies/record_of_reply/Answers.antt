use Rattle.std.proofs.Common.{ap, ◌∙◌, ◌++◌}
use Rattle.trace_events.specs.Written.{spoken_octets}
use Rattle.route_answers.specs.Replies.{reply_view}
use Rattle.route_core.proofs.ShortReplies.{within_frame}
use Rattle.route_core.proofs.replies.record_of_reply.Goals as goal

pub from_octets-requires : goal.from_octets-requires
from_octets-requires c =
    within_frame c.args.reply.now c.requires.can c.write.new.out.items
    (c.in_ok-write.ensures.appended ∙ ap (λ xs. xs ++ spoken_octets (reply_view c.args.reply.now)) c.new-octets.ensures.items)
