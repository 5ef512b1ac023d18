use Rattle.std.proofs.Common.{refl, sym, ◌∙◌}
use Rattle.trace_events.specs.View.{incoming_view}
use Rattle.trace_judge.proofs.FirstRows.{none-applies, anycast-untold, whole-untold}
use Rattle.trace_judge.proofs.outcome.first_row.Goals as goal

pub returns-in-None-3-clause-none : goal.returns-in-None-3-clause-none
returns-in-None-3-clause-none g c = λ history stands knows none.
    let rules = c.args.rules.now in let d = incoming_view c.args.delivery.now in
    none-applies rules d history
    (λ why asks. c.in-None.ensures.none history rules stands knows (c.is_of_multicast-is_multicast.ensures history stands knows) refl why asks)
    (c.if-is_gone.ensures history stands knows) (anycast-untold rules d history (sym c.if-is_multicast.false ∙ c.is_of_multicast-is_multicast.ensures history stands knows))
