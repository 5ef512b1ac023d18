use Rattle.std.proofs.Common.{ap, ◌∙◌, ◌++◌, List, ℕ, Some}
use Rattle.unsettled.specs.Cuts.{octets_of}
use Rattle.unsettled.proofs.partial.Partial.begin.Goals as goal

pub returns-clause-begun : goal.returns-clause-begun
returns-clause-begun c =
    c.in_ok-join.ensures.joined 0
    ∙ ap (λ (cuts : List (List ℕ)). record { number = c.args.number; id = Some c.args.id; payload = octets_of cuts ++ c.args.payload }) c.new.ensures.items
