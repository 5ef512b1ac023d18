use Rattle.route_work.proofs.sending.Sending.new.Goals as goal

pub returns : goal.returns
returns c = λ rules. record { parts = c.new-parts.ensures; waiting = c.new-waiting.ensures rules; copies = c.new-copies.ensures rules }
