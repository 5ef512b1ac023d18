use Rattle.std.proofs.Common.{◌∙◌, ◌∷◌, ◌++◌, [], ap, rules, Some}
use Rattle.number_groups.proofs.Octets.{changed}
use Rattle.due_lists.specs.Queues.{queued}
use Rattle.due_lists.proofs.QueueMoves.{pushed}
use Rattle.due_lists.proofs.queues.Queues.push.Goals as goal

pub returns : goal.returns
returns c =
    let key = c.args.address.now in
    let m = c.args.self.now.entries in
    let n = c.get_mut.follows.lender c.push_back.new.self in
    pushed m n key (Some c.push_back.new.self) c.args.number (changed m n key (Some c.push_back.new.self) ((c.get_mut.follows.holds c.push_back.new.self).3 (search rules)))
    (c.in_ok-push_back.ensures.items ∙ ap (λ o. queued o ++ c.args.number ∷ []) c.in-Some.ensures.value)
