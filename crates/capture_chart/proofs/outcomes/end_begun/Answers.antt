use Rattle.std.proofs.Common.{rules, ap, not, ◌∙◌}
use Rattle.std.specs.Map.{lookup}
use Rattle.std.proofs.lemmas.Map.Made.{filter_same_pairs}
use Rattle.std.proofs.lemmas.Map.Entries.{lookup-filter-keys}
use Rattle.capture_chart.specs.Outcomes.{is_delivery, is_over}
use Rattle.capture_chart.proofs.DeliveryKeys.{over_same, turned}
use Rattle.capture_chart.proofs.outcomes.end_begun.Goals as goal

pub returns : goal.returns
returns c =
    let ended = c.args.ended in
    let kept = filter_same_pairs _ (λ e. not (is_over ended e.0.connection e.0.channel)) _ (λ k v b w f' t. search rules) _ _ c.retain.ensures.filtered in
    λ key. ap (lookup (is_delivery key)) kept
    ∙ lookup-filter-keys (is_delivery key) (λ k. not (is_over ended k.connection k.channel)) (not (is_over ended key.connection key.channel)) (over_same ended key) c.args.begun.now.entries
    ∙ turned (is_over ended key.connection key.channel) _
