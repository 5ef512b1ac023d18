use Rattle.std.proofs.Common.{◌≡◌, ◌<◌, ◌^◌, ◌*◌, ◌∙◌, rules, subst, sym, arith}
use Rattle.credit_chart.specs.Thinned.{AreColumns}
use Rattle.credit_chart.proofs.PutColumns.{columns_twice, span_next, twice-small, widened_same}
use Rattle.credit_chart.proofs.thinned.Thinned.widen.Goals as goal

pub returns-then-self : goal.returns-then-self
returns-then-self c = λ many levels counts are.
    let old = c.args.self.now in
    let fits : old.records < 2 ^ 64 = search rules in
    let small = twice-small many levels old counts fits are c.if-self.true in
    let span : c.saturating_mul-self.result ≡ old.span * 2 = let capped = c.saturating_mul-self.ensures in omega (arith, capped, small) in
    record {
      counted = are.counted;
      span = span ∙ span_next many levels old counts fits are c.if-self.true;
      columns = subst (λ n. AreColumns levels n old.room c.join_pairs.new.columns.items) (sym span)
          (columns_twice many levels old counts fits are c.if-self.true c.join_pairs.new.columns.items c.join_pairs.ensures.half c.join_pairs.ensures.joined);
      all = are.all;
    }

pub returns-else-self : goal.returns-else-self
returns-else-self c = λ many levels counts are. let fits : c.args.self.now.records < 2 ^ 64 = search rules in widened_same many levels c.args.self.now counts fits are c.if-self.false
