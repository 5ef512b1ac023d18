use Rattle.std.proofs.Common.{refl, subst, sym}
use Rattle.std.specs.Int.Count.{count_leading_zeros}
use Rattle.credit_chart.specs.Thinned.{AreColumns}
use Rattle.credit_chart.proofs.PutColumns.{none-are}
use Rattle.credit_chart.proofs.thinned.Thinned.new.Goals as goal

pub returns : goal.returns
unfolding count_leading_zeros
returns c = record { counted = refl; span = refl; columns = subst (AreColumns _ 1 0) (sym c.new.ensures.items) none-are; all = λ quantity. refl }
