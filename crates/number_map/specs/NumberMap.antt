-- What a contract sees of a `NumberMap`: the map of its entries.
use Rattle.indexmap.specs.IndexMap.{IndexMap}

abbrev pub NumberMap : Type 0 → Type 0 → Type 0 → Type 0
NumberMap K V S = IndexMap K V S
