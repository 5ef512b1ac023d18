use Rattle.std.proofs.Common.{subst, [], ◌∷◌}
use Rattle.route_core.specs.Replies.{replies_of}
use Rattle.route_core.specs.Drafts.{IsAnswered}
use Rattle.route_core.proofs.Outputs.{none-added, then-added}
use Rattle.route_core.proofs.Replied.{nothing-left}
use Rattle.route_core.proofs.group.reply.Goals as goal

pub returns-in-Nothing-clause-draft : goal.returns-in-Nothing-clause-draft
returns-in-Nothing-clause-draft g c =
    nothing-left g.D.Dues.has_all c.args.capture.now c.args.state.now c.args.group.now.items
    (subst (λ replies. IsAnswered g.D.Dues.has_all c.args.capture.now c.args.state.now c.args.group.now.items (replies_of replies)) c.in-Nothing.is c.requires.answered)

pub returns-in-Nothing-clause-outputs : goal.returns-in-Nothing-clause-outputs
returns-in-Nothing-clause-outputs g c = none-added c.args.group.now.items

pub returns-in_ok-enter_reply-in-One-clause-draft : goal.returns-in_ok-enter_reply-in-One-clause-draft
returns-in_ok-enter_reply-in-One-clause-draft g c =
    let told = subst (λ replies. IsAnswered g.D.Dues.has_all c.args.capture.now c.args.state.now c.args.group.now.items (replies_of replies)) c.in-One.is c.requires.answered in
    nothing-left g.D.Dues.has_all c.args.capture.now c.enter_reply.new.state c.enter_reply.new.group.items (c.in_ok-enter_reply-in-One.ensures.answered [] told)

pub returns-in_ok-enter_reply-in-One-clause-outputs : goal.returns-in_ok-enter_reply-in-One-clause-outputs
returns-in_ok-enter_reply-in-One-clause-outputs g c =
    c.in_ok-enter_reply-in-One.ensures.outputs []
    (subst (λ replies. IsAnswered g.D.Dues.has_all c.args.capture.now c.args.state.now c.args.group.now.items (replies_of replies)) c.in-One.is c.requires.answered)

pub returns-in_ok-enter_reply-in-Two-2-clause-draft : goal.returns-in_ok-enter_reply-in-Two-2-clause-draft
returns-in_ok-enter_reply-in-Two-2-clause-draft g c =
    let told = subst (λ replies. IsAnswered g.D.Dues.has_all c.args.capture.now c.args.state.now c.args.group.now.items (replies_of replies)) c.in-Two.is c.requires.answered in
    nothing-left g.D.Dues.has_all c.args.capture.now c.enter_reply-in-Two-2.new.state c.enter_reply-in-Two-2.new.group.items
    (c.in_ok-enter_reply-in-Two-2.ensures.answered [] (c.in_ok-enter_reply-in-Two.ensures.answered (c.in-Two.second ∷ []) told))

pub returns-in_ok-enter_reply-in-Two-2-clause-outputs : goal.returns-in_ok-enter_reply-in-Two-2-clause-outputs
returns-in_ok-enter_reply-in-Two-2-clause-outputs g c =
    let told = subst (λ replies. IsAnswered g.D.Dues.has_all c.args.capture.now c.args.state.now c.args.group.now.items (replies_of replies)) c.in-Two.is c.requires.answered in
    then-added c.args.group.now.items c.enter_reply-in-Two.new.group.items c.enter_reply-in-Two-2.new.group.items
    (c.in_ok-enter_reply-in-Two.ensures.outputs (c.in-Two.second ∷ []) told)
    (c.in_ok-enter_reply-in-Two-2.ensures.outputs [] (c.in_ok-enter_reply-in-Two.ensures.answered (c.in-Two.second ∷ []) told))
