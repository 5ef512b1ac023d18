use Rattle.std.proofs.Common.{ap, ◌∙◌, false, ◌==◌, ◌&&◌}
use Rattle.std.specs.Prelude.{cond}
use Rattle.due_lists.specs.CopyCandidates.{has}
use Rattle.due_lists.proofs.Pairs.{tied-pairs, and-elsewhere}
use Rattle.due_lists.proofs.copy_candidates.CopyCandidates.remove.Goals as goal

pub returns-clause-removed : goal.returns-clause-removed
returns-clause-removed c = λ completion link.
    c.remove.ensures.updates.0 (completion, link)
    ∙ (ap (λ t. cond t false (has c.args.self.now completion link)) (tied-pairs c.args.completion c.args.link completion link)
    ∙ and-elsewhere (c.args.completion == completion && (c.args.link == link)) (has c.args.self.now completion link))
