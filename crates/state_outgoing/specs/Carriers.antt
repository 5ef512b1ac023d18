-- The numbers of the deliveries to clients that carry the same one from a client, as the code keeps them.
use Rattle.std.specs.Prelude.{ℕ, List, [], ◌∷◌, reverse, Option, Some, None, nat_eq}
use Rattle.indexmap.specs.IndexMap.{get}
use Rattle.state_outgoing.specs.declared.begun.LastNumbers.{LastNumbers}
use Rattle.state_outgoing.specs.declared.carriers.Carriers.{Carriers}

-- the last one first
abbrev pub numbers_of : Carriers → List ℕ
numbers_of carriers = carriers.last ∷ reverse carriers.earlier.items

-- none, where none is listed
abbrev pub listed : Option Carriers → List ℕ
listed None = []
listed (Some carriers) = numbers_of carriers

-- of those that carry the delivery of this number
abbrev pub carriers_in : LastNumbers → ℕ → List ℕ
carriers_in begun n = listed (get nat_eq begun.carriers n)
