-- Which octets an entry has of its own.
use Rattle.std.specs.Prelude.{ℕ, List}
use Rattle.state_tables.specs.declared.own_octets.OwnOctets.{OwnOctets}
use Rattle.state_tables.specs.declared.own_octets.OwnOctets.TheVariants.{Few, Many}

abbrev pub octets_in : OwnOctets → List ℕ
octets_in (Few own) = own
octets_in (Many own) = own.items
