-- What an engine puts behind its answers: the frames of its port, and empty frames between them, one for each tick that
-- placed one.
use Rattle.std.specs.Prelude.{◌≡◌, ℕ, ◌+◌, ◌⊎◌, Bool, true, ◌&&◌, not, List, [], ◌∷◌, ◌++◌}
use Rattle.std.specs.List.{list_any}
use Rattle.conn_engine.specs.declared.frame_ends.FrameEnds.{FrameEnds}
use Rattle.conn_engine.specs.FrameEnds.{AreFrameEnds}
use Rattle.conn_engine.specs.Said.{is_open, is_close}
use Rattle.conn_engine.specs.Silence.{empty_frame, is_asked}

-- a frame of the port, or an empty one
pub data Put : Type 0 where
  AFrame : List ℕ → Put
  AnEmpty : Put

-- What was put, the newest first. In octets:
abbrev pub octets_put : List Put → List ℕ
octets_put [] = []
octets_put (AFrame frame ∷ line) = octets_put line ++ frame
octets_put (AnEmpty ∷ line) = octets_put line ++ empty_frame

-- the frames of the port among it, in their order
abbrev pub frames_put : List Put → List (List ℕ)
frames_put [] = []
frames_put (AFrame frame ∷ line) = frames_put line ++ frame ∷ []
frames_put (AnEmpty ∷ line) = frames_put line

-- how many empty ones
abbrev pub empties : List Put → ℕ
empties [] = 0
empties (AFrame frame ∷ line) = empties line
empties (AnEmpty ∷ line) = empties line + 1

-- an empty one may stand behind these frames: one that opens is among them, and none that closes
abbrev pub may_rest : (opens closes : List ℕ → Bool) → List (List ℕ) → Bool
may_rest opens closes frames = list_any opens frames && not (list_any closes frames)

-- each empty one stands where it may
abbrev pub rests_by : (opens closes : List ℕ → Bool) → List Put → Bool
rests_by opens closes [] = true
rests_by opens closes (AFrame frame ∷ line) = rests_by opens closes line
rests_by opens closes (AnEmpty ∷ line) = may_rest opens closes (frames_put line) && rests_by opens closes line

-- behind an open, and not behind a close
abbrev pub is_laced : List Put → Bool
is_laced line = rests_by is_open is_close line

-- the octets are those of the frames, in order and each once, and of so many empty ones between them, each behind an open and
-- none behind a close
pub record IsLaced (frames : List (List ℕ)) (count : ℕ) (octets : List ℕ) : Type 0 where
  pub line : List Put
  pub octets_are : octets_put line ≡ octets
  pub frames_are : frames_put line ≡ frames
  pub count_is : empties line ≡ count
  pub stand : is_laced line ≡ true

-- what was put so far, where so many ticks placed an empty frame: none did unless the client asks for them
pub record IsPut (frames : List (List ℕ)) (frame_ends : FrameEnds) (asked : Bool) (ticks : ℕ) (octets : List ℕ) : Type 0 where
  pub laced : IsLaced frames ticks octets
  pub ends_are : AreFrameEnds frame_ends frames
  pub quiet : (ticks ≡ 0) ⊎ (asked ≡ true)
