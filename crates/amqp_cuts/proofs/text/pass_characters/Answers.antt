use Rattle.std.proofs.Common.{take, arith}
use Rattle.amqp_cuts.proofs.Characters.{across_none}
use Rattle.amqp_cuts.proofs.text.pass_characters.Goals as goal

pub returns-else-across-gt0-clause-none : goal.returns-else-across-gt0-clause-none
returns-else-across-gt0-clause-none g c = λ none.
    let four = c.four_octets-count in
    across_none (g.C.Cuts.octets c.args.payload.now) (take four.result.1 four.result.0) c.args.at c.args.to four.result.1 c.requires.order c.requires.room
    four.ensures.count four.ensures.exact
    (λ k some le is. c.valid_front-across.ensures.longest k (omega (arith, some, c.if-across-gt0.false)) le is)
