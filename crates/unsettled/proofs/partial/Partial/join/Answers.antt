use Rattle.std.proofs.Common.{rules, ap, ◌∙◌, ◌++◌, List, ℕ, Some}
use Rattle.flow_counts.specs.Parts.{Partial as Part}
use Rattle.unsettled.proofs.Cuts.{octets_of-push, count_of-push, AreFilled-push}
use Rattle.unsettled.proofs.partial.Partial.join.Goals as goal

pub invariant_of-self-2 : goal.invariant_of-self-2
invariant_of-self-2 c =
    let count = count_of-push c.self.inside.cuts.items c.push.new.self.items c.args.payload c.in_ok-push.ensures.items in
    (search rules, AreFilled-push _ _ c.args.payload c.in_ok-push.ensures.items c.self.invariant.1 (search rules))

pub returns-clause-joined : goal.returns-clause-joined
returns-clause-joined c = λ _.
    ap (λ (payload : List ℕ). record { number = c.self.inside.number; id = Some c.self.inside.id; payload = payload })
    (octets_of-push c.self.inside.cuts.items c.push.new.self.items c.args.payload c.in_ok-push.ensures.items)
    ∙ ap (λ (earlier : Part). record earlier { payload = earlier.payload ++ c.args.payload }) c.self.view_is
