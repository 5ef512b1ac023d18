use Rattle.route_work.proofs.work.WorkDues.new.Goals as goal

pub returns : goal.returns
returns c = λ rules. record { telling = c.new-telling.ensures rules; sending = c.new-sending.ensures rules; flowing = c.new-flowing.ensures rules }
