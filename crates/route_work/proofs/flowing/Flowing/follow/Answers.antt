use Rattle.route_work.proofs.flowing.Flowing.follow.Goals as goal

pub returns : goal.returns
returns c = λ rules records r next tell does has. record {
  drains = c.in_ok-follow.ensures rules records r next does has.drains;
  credits = c.in_ok-follow-2.ensures rules records r next tell does has.credits;
  windows = c.in_ok-follow-3.ensures rules records r next tell has.windows;
}
