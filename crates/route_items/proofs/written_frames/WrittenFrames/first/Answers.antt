use Rattle.std.proofs.Common.{◌∙◌, ap, subst, sym, List, ℕ, nat_le}
use Rattle.std.specs.List.{find}
use Rattle.std.specs.List.Sorted.{IsNonDecreasing}
use Rattle.route_items.specs.WrittenFrames.{numbers_from}
use Rattle.route_items.proofs.Numbers.{numbers-rise}
use Rattle.route_items.proofs.written_frames.WrittenFrames.first.Goals as goal

pub returns : goal.returns
returns c = λ records are.
    let same = c.numbers.ensures ∙ are c.args.connection in
    c.first_from.ensures (subst (λ (ns : List ℕ). IsNonDecreasing ns) (sym same) (numbers-rise c.args.connection 0 records)) ∙ ap (λ ns. find (nat_le c.args.from) ns) same
