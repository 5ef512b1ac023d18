-- The octets of an address for which an attach asks.
use Rattle.std.specs.Prelude.{ℕ, List, ◌++◌, codes, decimal}
use Rattle.state_tables.specs.declared.held_attach.HeldAddress.{HeldAddress}
use Rattle.state_tables.specs.declared.held_attach.HeldAddress.TheVariants.{Given, Made}

abbrev pub asked_octets : HeldAddress → List ℕ
asked_octets (Given octets) = octets.items
asked_octets (Made number) = codes "dyn/" ++ decimal number
