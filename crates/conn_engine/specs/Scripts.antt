-- What a script tells of the octets that a gate took of an engine.
use Rattle.std.specs.Prelude.{◌≡◌, ℕ, zero, suc, ◌+◌, List, [], ◌∷◌, ◌++◌, length, take, drop}
use Rattle.std.specs.List.{concat}
use Rattle.conn_engine.specs.Silence.{empty_frame}
use Rattle.conn_engine.specs.declared.script.Own.{Own}
use Rattle.conn_engine.specs.declared.script.Script.{Script}

-- the octets of so many empty frames
unfoldable pub empty_frames : ℕ → List ℕ
empty_frames zero = []
empty_frames (suc n) = empty_frames n ++ empty_frame

-- what a piece has: octets, and the empty frames behind them
unfoldable pub own_octets : Own → List ℕ
own_octets own = own.octets.items ++ empty_frames own.empties

-- octets of frames, and own ones between them: each piece of these stands behind so many of the frames, counted from the piece
-- in front of it
abbrev pub laced : List Own → List ℕ → List ℕ
laced [] framed = framed
laced (own ∷ owns) framed = take own.behind framed ++ own_octets own ++ laced owns (drop own.behind framed)

-- how many octets of frames stand in front of the last piece
abbrev pub frames_before : List Own → ℕ
frames_before [] = 0
frames_before (own ∷ owns) = own.behind + frames_before owns

-- the octets that a gate took, by a script and the frames of the port
unfoldable pub octets_taken : Script → List (List ℕ) → List ℕ
octets_taken script frames = take script.taken (laced script.owns.items (concat frames))

-- The frames of a port have these octets, a gate took these of its engine, and these wait: the script tells which are the
-- engine's own, how many were taken, and how many of the frames stand behind the last piece.
pub record StandsFor (script : Script) (framed taken waiting : List ℕ) : Type 0 where
  pub all : laced script.owns.items framed ≡ taken ++ waiting
  pub count : script.taken ≡ length taken
  pub behind : frames_before script.owns.items + script.behind ≡ length framed
