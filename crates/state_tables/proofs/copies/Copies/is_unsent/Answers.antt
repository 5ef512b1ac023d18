use Rattle.std.proofs.Common.{◌∙◌}
use Rattle.trace_events.specs.History.{history}
use Rattle.trace_events.proofs.Judged.{history-judged}
use Rattle.trace_events.specs.View.{incoming_view, link_view}
use Rattle.state_tables.proofs.CopiesKnown.{unsent-is}
use Rattle.state_tables.proofs.copies.Copies.is_unsent.Goals as goal

pub returns : goal.returns
returns c = λ rules records are live at.
    c.has.ensures
    ∙ (are c.args.link.now.number c.args.delivery.now.number
    ∙ unsent-is rules (history rules records) (history-judged rules records) (link_view c.args.link.now) live (incoming_view c.args.delivery.now) at)
