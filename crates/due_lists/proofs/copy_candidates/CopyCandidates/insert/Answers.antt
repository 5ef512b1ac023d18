use Rattle.std.proofs.Common.{ap, ◌∙◌, true, ◌==◌, ◌&&◌}
use Rattle.std.specs.Prelude.{cond}
use Rattle.due_lists.specs.CopyCandidates.{has}
use Rattle.due_lists.proofs.Pairs.{tied-pairs, or-there}
use Rattle.due_lists.proofs.copy_candidates.CopyCandidates.insert.Goals as goal

pub returns : goal.returns
returns c = λ completion link.
    c.in_ok-insert.ensures.updates.0 (completion, link)
    ∙ (ap (λ t. cond t true (has c.args.self.now completion link)) (tied-pairs c.args.completion c.args.link completion link)
    ∙ or-there (c.args.completion == completion && (c.args.link == link)) (has c.args.self.now completion link))
