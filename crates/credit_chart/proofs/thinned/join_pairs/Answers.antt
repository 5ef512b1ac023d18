use Rattle.std.proofs.Common.{◌≡◌, ◌∙◌, ◌-◌, ◌/◌, ◌*◌, ap, length, rules}
use Rattle.credit_chart.specs.Thinning.{extent_place}
use Rattle.credit_chart.proofs.Places.{half_long, joined_all}
use Rattle.credit_chart.proofs.thinned.join_pairs.Goals as goal

pub returns-clause-half : goal.returns-clause-half
returns-clause-half c =
    let old = c.args.columns.now.items in
    let half = c.len-count.result - c.len-count.result / 2 in
    let count : c.len-count.result ≡ length old = search rules in
    ap (λ t. length t * 2) c.truncate.ensures.items
    ∙ half_long old c.join_first.new.columns.items half c.join_first.ensures.long (ap (λ n. n - n / 2) count)

pub returns-clause-joined : goal.returns-clause-joined
returns-clause-joined c = λ quantity place.
    let old = c.args.columns.now.items in
    let half = c.len-count.result - c.len-count.result / 2 in
    let count : c.len-count.result ≡ length old = search rules in
    ap (λ t. extent_place quantity t place) c.truncate.ensures.items
    ∙ joined_all old c.join_first.new.columns.items half c.join_first.ensures.long (ap (λ n. n - n / 2) count) c.join_first.ensures.joined quantity place
