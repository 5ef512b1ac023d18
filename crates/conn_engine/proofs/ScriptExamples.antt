-- What scripts stand for, and what they do not.
use Rattle.std.proofs.Common.{◌≡◌, ℕ, List, [], ◌∷◌, ◌++◌, refl}
use Rattle.conn_engine.specs.declared.script.Own.{Own}
use Rattle.conn_engine.specs.declared.script.Script.{Script}
use Rattle.conn_engine.specs.Silence.{empty_frame}
use Rattle.conn_engine.specs.Scripts.{StandsFor, empty_frames, laced, octets_taken, own_octets}

-- octets with two empty frames behind them
module _ (own : Own) (octets : own.octets.items ≡ 1 ∷ 2 ∷ []) (signs : own.empties ≡ 2) where
  two_behind : own_octets own ≡ 1 ∷ 2 ∷ (empty_frame ++ empty_frame)
  unfolding own_octets empty_frames
  two_behind = rw (octets, signs) refl

  -- not one
  not_one : own_octets own ≡ 1 ∷ 2 ∷ empty_frame → ⊥
  unfolding own_octets empty_frames
  not_one is = let wrong : ◌≡◌ {A = List ℕ} (1 ∷ 2 ∷ (empty_frame ++ empty_frame)) (1 ∷ 2 ∷ empty_frame) = rw (octets, signs) at is in cc

-- a header's answer, 1 2, in front of all frames, and an empty frame behind the first three octets of frames
module _ (header empty : Own) (in_front : header.behind ≡ 0) (answer : header.octets.items ≡ 1 ∷ 2 ∷ []) (alone : header.empties ≡ 0) (later : empty.behind ≡ 3) (nothing : empty.octets.items ≡ []) (sign : empty.empties ≡ 1) where
  between_frames : laced (header ∷ empty ∷ []) (7 ∷ 8 ∷ 9 ∷ 5 ∷ []) ≡ 1 ∷ 2 ∷ 7 ∷ 8 ∷ 9 ∷ (empty_frame ++ 5 ∷ [])
  unfolding own_octets empty_frames
  between_frames = rw (in_front, answer, alone, later, nothing, sign) refl

  -- it is not the same with the empty one an octet later
  not_later : laced (header ∷ empty ∷ []) (7 ∷ 8 ∷ 9 ∷ 5 ∷ []) ≡ 1 ∷ 2 ∷ 7 ∷ 8 ∷ 9 ∷ 5 ∷ empty_frame → ⊥
  unfolding own_octets empty_frames
  not_later is = let wrong : ◌≡◌ {A = List ℕ} (1 ∷ 2 ∷ 7 ∷ 8 ∷ 9 ∷ (empty_frame ++ 5 ∷ [])) (1 ∷ 2 ∷ 7 ∷ 8 ∷ 9 ∷ 5 ∷ empty_frame) = rw (in_front, answer, alone, later, nothing, sign) at is in cc

  module _ (script : Script) (owns : script.owns.items ≡ header ∷ empty ∷ []) where
    -- a gate took the first six octets of them, in two frames
    six_taken : script.taken ≡ 6 → octets_taken script ((7 ∷ 8 ∷ 9 ∷ []) ∷ (5 ∷ []) ∷ []) ≡ 1 ∷ 2 ∷ 7 ∷ 8 ∷ 9 ∷ 0 ∷ []
    unfolding octets_taken own_octets empty_frames
    six_taken count = rw (count, owns, in_front, answer, alone, later, nothing, sign) refl

    stands : script.taken ≡ 6 → script.behind ≡ 1 → StandsFor script (7 ∷ 8 ∷ 9 ∷ 5 ∷ []) (1 ∷ 2 ∷ 7 ∷ 8 ∷ 9 ∷ 0 ∷ []) (0 ∷ 0 ∷ 8 ∷ 2 ∷ 0 ∷ 0 ∷ 0 ∷ 5 ∷ [])
    unfolding own_octets empty_frames
    stands count behind = record {
      all = rw (owns, in_front, answer, alone, later, nothing, sign) refl;
      count = count;
      behind = rw (owns, in_front, later, behind) refl;
    }

    -- not for what was not put
    not_another : StandsFor script (7 ∷ 8 ∷ 9 ∷ 5 ∷ []) (1 ∷ 2 ∷ 7 ∷ 8 ∷ 9 ∷ 0 ∷ []) (0 ∷ 0 ∷ 8 ∷ 2 ∷ 0 ∷ 0 ∷ 0 ∷ 6 ∷ []) → ⊥
    unfolding own_octets empty_frames
    not_another is = let wrong : ◌≡◌ {A = List ℕ} (1 ∷ 2 ∷ 7 ∷ 8 ∷ 9 ∷ (empty_frame ++ 5 ∷ [])) (1 ∷ 2 ∷ 7 ∷ 8 ∷ 9 ∷ (empty_frame ++ 6 ∷ [])) = rw (owns, in_front, answer, alone, later, nothing, sign) at is.all in cc

    -- not where less was counted
    not_uncounted : script.taken ≡ 5 → StandsFor script (7 ∷ 8 ∷ 9 ∷ 5 ∷ []) (1 ∷ 2 ∷ 7 ∷ 8 ∷ 9 ∷ 0 ∷ []) (0 ∷ 0 ∷ 8 ∷ 2 ∷ 0 ∷ 0 ∷ 0 ∷ 5 ∷ []) → ⊥
    not_uncounted count is = let wrong : ◌≡◌ {A = ℕ} 5 6 = rw count at is.count in cc

    -- not where the frames behind the last piece were not
    not_unplaced : script.behind ≡ 0 → StandsFor script (7 ∷ 8 ∷ 9 ∷ 5 ∷ []) (1 ∷ 2 ∷ 7 ∷ 8 ∷ 9 ∷ 0 ∷ []) (0 ∷ 0 ∷ 8 ∷ 2 ∷ 0 ∷ 0 ∷ 0 ∷ 5 ∷ []) → ⊥
    not_unplaced behind is = let wrong : ◌≡◌ {A = ℕ} 3 4 = rw (owns, in_front, later, behind) at is.behind in cc
