use Rattle.std.proofs.Common.{refl}
use Rattle.state_ledger.proofs.ledger.Ledger.made.Goals as goal

pub returns-clause-stand : goal.returns-clause-stand
returns-clause-stand c = λ rules. (c.new.ensures.stand rules, (refl, ((λ keeps. c.new.ensures.whole), c.new.ensures.last)))
