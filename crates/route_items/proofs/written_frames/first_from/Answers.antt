use Rattle.std.proofs.Common.{rules, of_calls, ◌∙◌, nat_lt}
use Rattle.std.proofs.lemmas.Fn.{always_returns_same}
use Rattle.route_items.proofs.Found.{looked-up, partitioned}
use Rattle.route_items.proofs.written_frames.first_from.Goals as goal

pub returns : goal.returns
returns c = λ rising.
    let ns = c.args.numbers.now in
    let from = c.args.from in
    let point = c.partition_point-at.ensures.partitioned (λ t. nat_lt t from) (always_returns_same _ _ _ (λ a r f k. search (rules, of_calls))) (partitioned ns from rising) in
    c.number_at.ensures ∙ looked-up ns from c.partition_point-at.result c.partition_point-at.ensures.bound point
