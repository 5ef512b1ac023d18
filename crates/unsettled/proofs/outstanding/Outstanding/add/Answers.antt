use Rattle.std.proofs.Common.{◌∙◌, ap}
use Rattle.flow_counts.specs.Covers.{put}
use Rattle.unsettled.proofs.Entries.{insert_entry-put}
use Rattle.unsettled.proofs.outstanding.Outstanding.add.Goals as goal

pub returns-clause-counted : goal.returns-clause-counted
returns-clause-counted c = λ past is.
    c.in_ok-insert.ensures.entries ∙ insert_entry-put c.self.inside.ids.entries c.args.number c.args.id ∙ ap (put c.args.number c.args.id) (c.self.view_is ∙ is)
