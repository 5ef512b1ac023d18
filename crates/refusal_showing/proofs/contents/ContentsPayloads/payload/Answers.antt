use Rattle.refusal_showing.proofs.contents.ContentsPayloads.payload.Goals as goal

pub returns : goal.returns
returns c = λ rules history tells knows. c.payload.ensures rules history tells.held knows
