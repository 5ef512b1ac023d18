use Rattle.refusal_showing.proofs.contents.ContentsPayloads.address.Goals as goal

pub returns : goal.returns
returns c = λ rules history tells knows. c.address.ensures rules history tells.held knows
