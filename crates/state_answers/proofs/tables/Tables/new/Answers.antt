use Rattle.std.proofs.Common.{refl, sym, ◌∙◌, []}
use Rattle.state_answers.proofs.tables.Tables.new.Goals as goal

pub returns-clause-stand : goal.returns-clause-stand
returns-clause-stand c = λ rules.
    (([], refl), (c.new.ensures.kept, (c.new-2.ensures, (c.new-3.ensures, (c.new-4.ensures.table rules, (c.new-5.ensures, (c.new-6.ensures rules, (refl, (c.new-7.ensures.table, (c.new-8.ensures.table rules, (c.new-7.ensures.gone ∙ sym c.new-4.ensures.gone, c.new-8.ensures.gone ∙ sym c.new-4.ensures.gone)))))))))))
