-- they are alike so far, as far as both go
use Rattle.refusal_facts.specs.PayloadFacts.{AreAlikeBelow}
use Rattle.refusal_facts.proofs.payload.first_unlike.Given as goal

abbrev pub invariant-loop-place : goal.invariant-loop-place
invariant-loop-place l = AreAlikeBelow l.place l.due l.said
