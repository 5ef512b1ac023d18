-- Where empty frames may stand, and where they may not.
use Rattle.std.proofs.Common.{◌≡◌, ℕ, Bool, true, false, List, [], ◌∷◌, nat_eq, refl}
use Rattle.conn_engine.specs.Lacing.{AFrame, AnEmpty, empties, frames_put, octets_put, rests_by}

-- here a frame that begins with 1 opens, and one that begins with 9 closes
abbrev begins_with : ℕ → List ℕ → Bool
begins_with code [] = false
begins_with code (first ∷ octets) = nat_eq first code

behind_the_open : rests_by (begins_with 1) (begins_with 9) (AnEmpty ∷ AFrame (1 ∷ []) ∷ []) ≡ true
behind_the_open = refl

-- two of them, and frames around them
between_frames : rests_by (begins_with 1) (begins_with 9) (AFrame (9 ∷ []) ∷ AnEmpty ∷ AFrame (5 ∷ []) ∷ AnEmpty ∷ AnEmpty ∷ AFrame (1 ∷ []) ∷ []) ≡ true
between_frames = refl

in_octets : octets_put (AFrame (3 ∷ 4 ∷ []) ∷ AnEmpty ∷ AFrame (1 ∷ 2 ∷ []) ∷ []) ≡ 1 ∷ 2 ∷ 0 ∷ 0 ∷ 0 ∷ 8 ∷ 2 ∷ 0 ∷ 0 ∷ 0 ∷ 3 ∷ 4 ∷ []
in_octets = refl

in_frames : frames_put (AFrame (3 ∷ 4 ∷ []) ∷ AnEmpty ∷ AFrame (1 ∷ 2 ∷ []) ∷ []) ≡ (1 ∷ 2 ∷ []) ∷ (3 ∷ 4 ∷ []) ∷ []
in_frames = refl

counted : empties (AnEmpty ∷ AFrame (3 ∷ 4 ∷ []) ∷ AnEmpty ∷ AFrame (1 ∷ 2 ∷ []) ∷ []) ≡ 2
counted = refl

-- none before the open, none behind the close
not_first : rests_by (begins_with 1) (begins_with 9) (AFrame (1 ∷ []) ∷ AnEmpty ∷ []) ≡ false
not_first = refl

not_behind_the_close : rests_by (begins_with 1) (begins_with 9) (AnEmpty ∷ AFrame (9 ∷ []) ∷ AFrame (1 ∷ []) ∷ []) ≡ false
not_behind_the_close = refl

-- another frame is no open
not_behind_another : rests_by (begins_with 1) (begins_with 9) (AnEmpty ∷ AFrame (5 ∷ []) ∷ []) ≡ false
not_behind_another = refl
