use Rattle.std.proofs.Common.{sym, ap, subst, ◌∙◌}
use Rattle.std.specs.Prelude.{IfSome, ◌==◌}
use Rattle.trace_events.specs.Words.{where_passes}
use Rattle.trace_events.specs.Event.{Link}
use Rattle.trace_events.specs.Link.{IsLiveLink}
use Rattle.credit_levels.proofs.Places.{passes_so}
use Rattle.credit_levels.proofs.asking.link_at.Goals as goal

pub returns-clause-value : goal.returns-clause-value
returns-clause-value g c = λ rules past stands.
    c.of_number.ensures ∙ ap (where_passes (λ (l : Link). l.number == c.args.place.number)) (c.link_on.ensures.value rules past stands)

pub returns-clause-live : goal.returns-clause-live
returns-clause-live g c = λ rules past stands.
    subst (λ o. IfSome o (λ l. IsLiveLink l past)) (sym c.of_number.ensures)
    (passes_so (λ l. IsLiveLink l past) (λ (l : Link). l.number == c.args.place.number) _ (c.link_on.ensures.live rules past stands))
