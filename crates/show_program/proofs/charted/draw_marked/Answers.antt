use Rattle.show_program.proofs.charted.draw_marked.Goals as goal

pub returns-clause-arrows : goal.returns-clause-arrows
returns-clause-arrows g c = c.draw_read.ensures.arrows c.args.choice c.args.also.now c.new-charted.ensures
