use Rattle.std.proofs.Common.{◌∙◌, ap}
use Rattle.flow_counts.specs.Covers.{without}
use Rattle.unsettled.proofs.Entries.{remove_entry-without}
use Rattle.unsettled.proofs.outstanding.Outstanding.remove.Goals as goal

pub returns : goal.returns
returns c = λ past is.
    c.remove.ensures.entries ∙ remove_entry-without c.args.number c.self.inside.ids.entries ∙ ap (without c.args.number) (c.self.view_is ∙ is)
