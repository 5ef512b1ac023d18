use Rattle.route_work.proofs.sending.Sending.follow.Goals as goal

pub returns : goal.returns
returns c = λ records r next addressed tell does has. record {
  parts = c.in_ok-follow.ensures c.args.rules.now records r next does has.parts;
  waiting = c.in_ok-follow-2.ensures records r next addressed tell does has.waiting;
  copies = c.in_ok-follow-3.ensures records r next addressed tell does has.copies;
}
