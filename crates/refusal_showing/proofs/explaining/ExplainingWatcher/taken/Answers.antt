use Rattle.refusal_showing.proofs.Seeing.{seen}
use Rattle.refusal_showing.proofs.explaining.ExplainingWatcher.taken.Goals as goal

pub returns : goal.returns
returns c = λ first records stands known few.
    seen c.args.self.now c.take.new.self c.take-2.new.self c.saturating_add-self.result c.args.entry.now _ c.view_of-view.ensures c.in_ok-take.ensures c.in_ok-take-2.ensures c.saturating_add-self.ensures records known few
