use Rattle.std.proofs.Common.{◌≡◌, ◌<◌, ◌^◌, ◌∙◌, ◌++◌, ◌∷◌, ◌+◌, [], List, Option, ap, arith, length, sym, rules}
use Rattle.std.proofs.lemmas.List.{length-append}
use Rattle.credit_chart.specs.declared.level.Level.{Level}
use Rattle.credit_chart.specs.Thinning.{both, extent_in, extent_of, values_of}
use Rattle.credit_chart.specs.Thinned.{AreThinned}
use Rattle.credit_chart.proofs.Extents.{levels_both}
use Rattle.credit_chart.proofs.PutColumns.{few_columns}
use Rattle.credit_chart.proofs.thinned.Thinned.push.Goals as goal

taken : (c : goal.After-widen) (levels : List (Option Level)) → AreThinned levels c.args.self.now → AreThinned (levels ++ c.args.found ∷ []) c.widen.new.self
taken c levels are =
    let found = c.args.found in
    let long : length (levels ++ found ∷ []) ≡ length levels + 1 = length-append levels (found ∷ []) in
    let counts : c.in-Some.records ≡ c.args.self.now.records + 1 = search rules in
    c.widen.ensures (length levels) (levels ++ found ∷ []) long (record {
      counted = counts ∙ (ap (λ n. n + 1) are.counted ∙ sym long);
      span = are.span;
      columns = c.in_ok-self.ensures.placed levels found c.column_of-column.ensures are.columns;
      all = λ quantity.
          c.joined-self.ensures quantity
          ∙ (ap (λ o. both o (extent_in quantity c.column_of-column.result)) (are.all quantity)
          ∙ (ap (both (extent_of (values_of quantity levels))) (c.column_of-column.ensures quantity) ∙ sym (levels_both quantity levels (found ∷ []))));
    })

pub returns-clause-taken : goal.returns-clause-taken
returns-clause-taken c = taken c

pub returns-clause-few : goal.returns-clause-few
returns-clause-few c = λ levels are.
    let found = c.args.found in
    let long : length (levels ++ found ∷ []) ≡ length levels + 1 = length-append levels (found ∷ []) in
    let counts : c.in-Some.records ≡ c.args.self.now.records + 1 = search rules in
    let fits : c.in-Some.records < 2 ^ 64 = search rules in
    let small : length (levels ++ found ∷ []) < 2 ^ 64 = let is = are.counted in omega (arith, long, counts, fits, is) in
    few_columns (levels ++ found ∷ []) c.widen.new.self small (taken c levels are)
