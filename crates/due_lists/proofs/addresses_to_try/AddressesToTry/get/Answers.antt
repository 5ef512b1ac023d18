use Rattle.std.proofs.Common.{sym, ap, ◌∙◌, ◌||◌, ℕ, List, bytes_eq}
use Rattle.due_lists.specs.AddressesToTry.{is_among_first}
use Rattle.due_lists.proofs.AwakeMoves.{first-more}
use Rattle.due_lists.proofs.addresses_to_try.AddressesToTry.get.Goals as goal

pub returns-in-Some-clause-more : goal.returns-in-Some-clause-more
returns-in-Some-clause-more c = λ at.
    first-more c.args.self.now.addresses.keys c.args.index c.in-Some.address.now (sym c.in-Some.ensures.key) at
    ∙ ap (λ (octets : List ℕ). is_among_first c.args.self.now c.args.index at || bytes_eq at octets) (sym c.deref.ensures.value)
