use Rattle.std.proofs.Common.{◌∙◌}
use Rattle.state_answers.proofs.effects.EventEffects.of.Goals as goal

pub returns : goal.returns
returns c = λ rules records r next tell. record {
  ended = c.in_ok-ended.ensures rules records r next.0 tell.1.1.0;
  spoken = λ j has opens says.
      c.in_ok-spoken.ensures.same j.number ∙ c.in_ok-found.ensures.known rules records tell.1.1.1.1.1.1.1.1.0 j has opens says;
  distinct = c.in_ok-spoken.ensures.distinct;
}
