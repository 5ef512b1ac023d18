use Rattle.std.proofs.Common.{◌≡◌, List, Option}
use Rattle.std.specs.String.{string_bytes}
use Rattle.credit_chart.specs.declared.level.Level.{Level}
use Rattle.credit_chart.specs.Paths.{comes_to, path_text}
use Rattle.credit_chart.specs.Thinned.{AreThinned}
use Rattle.credit_chart.proofs.path.path_of.Given as goal

abbrev pub invariant-loop-column : goal.invariant-loop-column
invariant-loop-column l = record {
  text : (levels : List (Option Level)) → AreThinned levels l.thinned → l.scale.span ≡ l.thinned.span → string_bytes l.text ≡ path_text l.quantity levels l.scale l.top l.column;
  down : (levels : List (Option Level)) → AreThinned levels l.thinned → l.scale.span ≡ l.thinned.span → l.is_down ≡ comes_to l.quantity levels l.scale l.column;
}
