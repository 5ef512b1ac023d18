-- Where the first open and the first close of the router end among the octets that wait.
use Rattle.std.specs.Prelude.{◌≡◌, ℕ, ◌+◌, ◌-◌, Bool, List, [], ◌∷◌, length, Option, Some, None, is_some, if◌then◌else◌}
use Rattle.std.specs.List.{list_any}
use Rattle.conn_engine.specs.declared.frame_ends.FrameEnds.{FrameEnds}
use Rattle.conn_engine.specs.Said.{is_open, is_close}

-- how many octets are up to the end of the first such frame, where a frame was put behind so many
abbrev pub first_at : (List ℕ → Bool) → Option ℕ → ℕ → List ℕ → Option ℕ
first_at is (Some end) before frame = Some end
first_at is None before frame = if is frame then Some (before + length frame) else None

-- where the first octets were given
abbrev pub left_of : Option ℕ → ℕ → Option ℕ
left_of None n = None
left_of (Some end) n = Some (end - n)

-- neither was taken
abbrev pub no_frame_ends : FrameEnds
no_frame_ends = record { opened = None; closed = None }

-- where a frame was put behind so many octets
abbrev pub frame_ends_at : FrameEnds → ℕ → List ℕ → FrameEnds
frame_ends_at frame_ends before frame = record { opened = first_at is_open frame_ends.opened before frame; closed = first_at is_close frame_ends.closed before frame }

-- where frames were put
abbrev pub frame_ends_after : FrameEnds → ℕ → List (List ℕ) → FrameEnds
frame_ends_after frame_ends before [] = frame_ends
frame_ends_after frame_ends before (frame ∷ frames) = frame_ends_after (frame_ends_at frame_ends before frame) (before + length frame) frames

-- where the first octets were given
abbrev pub frame_ends_left : FrameEnds → ℕ → FrameEnds
frame_ends_left frame_ends n = record { opened = left_of frame_ends.opened n; closed = left_of frame_ends.closed n }

-- they are those of frames: an end stands where there is such a frame, and nowhere else
pub record AreFrameEnds (frame_ends : FrameEnds) (frames : List (List ℕ)) : Type 0 where
  pub opened : is_some frame_ends.opened ≡ list_any is_open frames
  pub closed : is_some frame_ends.closed ≡ list_any is_close frames
