use Rattle.route_work.proofs.work.WorkDues.follow.Goals as goal

pub returns : goal.returns
returns c = λ records r next addressed tell does has. record {
  telling = c.in_ok-follow.ensures records r next tell does has.telling;
  sending = c.in_ok-follow-2.ensures records r next addressed tell does has.sending;
  flowing = c.in_ok-follow-3.ensures c.args.rules.now records r next tell does has.flowing;
}
