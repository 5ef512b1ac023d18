use Rattle.std.proofs.Common.{◌*◌, ◌+◌, ◌<◌, ◌∙◌, ap, get_or, length, None, rules}
use Rattle.std.proofs.lemmas.List.{length-set}
use Rattle.credit_chart.proofs.Places.{joined_more, others_more}
use Rattle.credit_chart.proofs.thinned.join_first.Goals as goal

pub loop-place-preserved : goal.loop-place-preserved
loop-place-preserved c =
    let old = c.args.columns.now.items in
    let now = c.loop-place.columns.items in
    let place = c.loop-place.place in
    let kept = c.loop-place.invariant in
    let below : place < length now = search rules in
    let first = c.at-first.ensures ∙ ap (λ t. get_or t (place * 2) None) c.deref.ensures.value in
    let second = c.at-second.ensures ∙ ap (λ t. get_or t (place * 2 + 1) None) c.deref-in-loop-place.ensures.value in
    record {
      long = length-set now place c.joined.result ∙ kept.long;
      joined = joined_more old now place kept.joined kept.others c.at-first.result c.at-second.result c.joined.result below first second c.joined.ensures;
      others = others_more old now place kept.joined kept.others c.at-first.result c.at-second.result c.joined.result below first second c.joined.ensures;
    }
