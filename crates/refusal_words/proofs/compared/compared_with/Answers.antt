use Rattle.refusal_words.proofs.compared.compared_with.Goals as goal

pub returns : goal.returns
returns c = record { named = (c.granting_in-granting.result, c.named_in.ensures) }
