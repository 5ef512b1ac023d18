use Rattle.std.proofs.Common.{refl}
use Rattle.show_program.proofs.charted.Charted.new.Goals as goal

pub returns : goal.returns
returns c = record {
  names = c.new-asked.ensures.names;
  outcomes = c.new-outcomes.ensures;
  asks = c.new-asked.ensures.choice;
  draws = refl;
  arrows = λ few. c.new-chart.ensures;
}
