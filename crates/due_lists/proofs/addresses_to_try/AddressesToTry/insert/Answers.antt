use Rattle.std.proofs.Common.{◌≡◌, rules}
use Rattle.due_lists.proofs.AwakeMoves.{came}
use Rattle.due_lists.proofs.addresses_to_try.AddressesToTry.insert.Goals as goal

pub returns : goal.returns
returns c =
    let kept : c.in_ok-own.own.items ≡ c.args.address.now = search rules in
    came c.args.self.now.addresses c.insert.new.self c.in_ok-own.own c.args.address.now kept c.in_ok-insert.ensures.updates
