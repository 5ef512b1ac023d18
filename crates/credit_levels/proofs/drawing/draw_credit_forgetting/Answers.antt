use Rattle.std.proofs.Common.{sym, subst}
use Rattle.std.specs.Prelude.{option_map}
use Rattle.std.specs.String.{string_bytes}
use Rattle.trace_events.specs.History.{history}
use Rattle.credit_levels.specs.Levels.{AreOf}
use Rattle.credit_levels.specs.Taken.{HasTaken}
use Rattle.credit_levels.specs.Drawn.{DrawsRecords}
use Rattle.credit_levels.proofs.SeenAs.{known_so}
use Rattle.credit_levels.proofs.drawing.draw_credit_forgetting.Goals as goal

pub returns-clause-curves : goal.returns-clause-curves
returns-clause-curves g c =
    let pick = c.args.pick in
    let first = c.new-watching.result in
    let watching = c.audit_watched_forgetting.new.watcher in
    known_so (HasTaken first) (λ w rules records entry. HasTaken first w rules records) (DrawsRecords c.args.title.now pick) watching (option_map string_bytes c.in_ok-text.text)
    (λ rules records has. c.in_ok-text.ensures.curves pick rules (history rules records) (subst (λ l. AreOf pick rules l (history rules records)) (sym c.levels.ensures) (has pick (c.new-watching.ensures rules))))
    (λ rules records entry has. c.in_ok-text.ensures.curves pick rules (history rules records) (subst (λ l. AreOf pick rules l (history rules records)) (sym c.levels.ensures) (has pick (c.new-watching.ensures rules))))
    (g.R.Read.remaining c.args.input) c.in-Some.verdict (c.in-Some.ensures.watched (λ rules pick' begins. begins))
