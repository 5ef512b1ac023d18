use Rattle.show_program.proofs.credits.write_credit_of_file.Goals as goal

pub returns-clause-explained : goal.returns-clause-explained
returns-clause-explained g c = λ written named drawn.
    let told = c.tell_credit.ensures.explained written named drawn in
    (told.0, told.2, told.3)
