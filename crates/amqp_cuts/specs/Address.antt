-- The octets of an address.
use Rattle.std.specs.Prelude.{ℕ, List, take}
use Rattle.amqp_cuts.specs.declared.address.Address.{Address}

-- as many of those that it owns as it has
abbrev pub address_octets : Address → List ℕ
address_octets address = take address.len address.octets
