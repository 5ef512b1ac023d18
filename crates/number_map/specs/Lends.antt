-- What a `NumberMap` ends as, once a `&mut` into it has ended.
use Rattle.std.specs.Prelude.{◌≡◌, ℕ, Bool, Option}
use Rattle.std.specs.Borrow.{Fml, RattleType, MutBor, Lends, LendsSo}
use Rattle.std.specs.HashMap.Lent.{HashMembers}
use Rattle.std.specs.declared.hash.Hasher as hasher
use Rattle.std.specs.declared.hash.BuildHasher as builder
use Rattle.indexmap.specs.IndexMap.{WritesThrough, with_value_at}
use Rattle.number_map.specs.NumberMap.{NumberMap}
use Rattle.number_map.specs.contracts.map.NumberMap.{the_row}

module _ (K V S H : RattleType) (key : HashMembers K.Denot) (build : builder.Ghosts S.Denot H.Denot) (hash : hasher.Ghosts H.Denot) where
  -- the map's type, as the logic holds it
  abbrev pub map_row : RattleType
  map_row = the_row K V S H (record { eq = key.eq }) (record { hash_input = key.hash_input }) build hash

  module _ (m : MutBor (NumberMap K.Denot V.Denot S.Denot)) where
    -- the index has the last value written through r
    abbrev pub lends_index : ℕ → MutBor V.Denot → Fml
    lends_index i r = Lends map_row V m r (with_value_at m.now i)

    -- the key that passes the test has the last value written through r, and at `None` the map stays as it is
    abbrev pub lends_get : (K.Denot → Bool) → Option (MutBor V.Denot) → Fml
    lends_get test r = LendsSo map_row V m r (λ n w. WritesThrough key.eq test m.now w n) (λ n. n ≡ m.now)
