use Rattle.std.proofs.Common.{◌≡◌, ◌∙◌, ◌∷◌, ◌++◌, [], ap, sym, rules, Some}
use Rattle.number_groups.proofs.Octets.{changed_owned}
use Rattle.due_lists.specs.Queues.{queued}
use Rattle.due_lists.proofs.QueueMoves.{pushed}
use Rattle.due_lists.proofs.queues.Queues.push_first.Goals as goal

pub returns : goal.returns
returns c =
    let key = c.args.address.now in
    let m = c.args.self.now.entries in
    let n = c.insert.new.self in
    let kept : c.in_ok-key.key.items ≡ key = search rules in
    record {
      pushed = pushed m n key (Some c.push_back.new.self) c.args.number (changed_owned m n c.in_ok-key.key key kept (Some c.push_back.new.self) c.in_ok-insert.ensures.updates)
          (c.in_ok-push_back.ensures.items ∙ (ap (λ xs. xs ++ c.args.number ∷ []) c.new-queue.ensures.items ∙ ap (λ o. queued o ++ c.args.number ∷ []) (sym c.requires.new)));
    }
