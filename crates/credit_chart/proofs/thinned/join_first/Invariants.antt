use Rattle.std.proofs.Common.{◌≡◌, ◌<◌, ◌≤◌, ◌+◌, ◌*◌, ℕ, length}
use Rattle.credit_chart.specs.declared.level.Quantity.{Quantity}
use Rattle.credit_chart.specs.Thinning.{both, extent_place}
use Rattle.credit_chart.proofs.thinned.join_first.Given as goal

abbrev pub invariant-loop-place : goal.invariant-loop-place
invariant-loop-place l = record {
  long : length l.columns.items ≡ length l.initial.columns.items;
  joined : (quantity : Quantity) (k : ℕ) → k < l.place → extent_place quantity l.columns.items k ≡ both (extent_place quantity l.initial.columns.items (k * 2)) (extent_place quantity l.initial.columns.items (k * 2 + 1));
  others : (quantity : Quantity) (k : ℕ) → l.place ≤ k → extent_place quantity l.columns.items k ≡ extent_place quantity l.initial.columns.items k;
}
