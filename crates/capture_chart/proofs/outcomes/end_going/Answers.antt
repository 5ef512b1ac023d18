use Rattle.std.proofs.Common.{rules, ap, not, ◌∙◌}
use Rattle.std.specs.Set.{is_member}
use Rattle.std.proofs.lemmas.Fn.{filter_same}
use Rattle.std.proofs.lemmas.Map.Made.{is_member-filter}
use Rattle.capture_view.specs.Named.{is_link}
use Rattle.capture_chart.specs.Outcomes.{is_over}
use Rattle.capture_chart.proofs.DeliveryKeys.{over_link, link_laws}
use Rattle.capture_chart.proofs.outcomes.end_going.Goals as goal

pub returns : goal.returns
returns c =
    let ended = c.args.ended in
    let kept = filter_same _ (λ k. not (is_over ended k.connection k.channel)) _ (λ k b f' t. search rules) _ _ c.retain.ensures.filtered in
    λ link. ap (λ ks. is_member is_link ks link) kept
    ∙ is_member-filter link_laws (λ k. not (is_over ended k.connection k.channel)) link (over_link ended link) c.args.going.now.keys
