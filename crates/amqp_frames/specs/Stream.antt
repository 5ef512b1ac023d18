-- The frames of a stream, and what a splitter knows of it.
use Rattle.std.specs.Prelude.{◌≡◌, ℕ, List, [], ◌∷◌, ◌++◌, length, drop, All, Option, Some, None, Result, Ok, Err}
use Rattle.std.specs.List.{concat}
use Rattle.flow_counts.specs.declared.profile.TheConstants.{MAX_FRAME_SIZE}
use Rattle.amqp_frames.specs.declared.fault.FrameFault.{FrameFault}
use Rattle.amqp_frames.specs.Frame.{Frame, IsFrame, IsFault, IsPartial}
use Rattle.amqp_frames.specs.Reading.{ReadFrame, frame_at}

-- all octets of a frame
abbrev pub IsWhole : ℕ → List ℕ → Type 0
IsWhole limit octets = (frame : Frame) × (frame.octets ≡ octets) × IsFrame limit frame

-- what is after the last frame of a stream: less than a frame, or a fault
abbrev pub IsEnd : ℕ → List ℕ → Option FrameFault → Type 0
IsEnd limit rest None = IsPartial limit rest
IsEnd limit rest (Some fault) = IsFault limit rest fault

-- a stream is these frames, one after the other (part 2, 2.3), and then less than a frame, or this fault
pub record AreFramesOf (limit : ℕ) (stream : List ℕ) (frames : List (List ℕ)) (fault : Option FrameFault) : Type 0 where
  pub rest : List ℕ
  pub parts : stream ≡ concat frames ++ rest
  pub each : All (IsWhole limit) frames
  pub end : IsEnd limit rest fault

-- what a splitter has ahead: octets that it has not given, or a fault for good
pub data Ahead : Type 0 where
  Octets : List ℕ → Ahead
  Broken : FrameFault → Ahead

-- a fault is ahead, for good
abbrev pub IsBroken : Ahead → Type 0
IsBroken (Octets octets) = ⊥
IsBroken (Broken fault) = Unit {0}

-- what is ahead, by what was not given
abbrev pub IsAhead : List ℕ → Ahead → Type 0
IsAhead rest (Octets octets) = rest ≡ octets
IsAhead rest (Broken fault) = IsFault MAX_FRAME_SIZE rest fault

-- a splitter was fed this stream, has given these frames, and has this ahead
pub record IsAfter (stream : List ℕ) (given : List (List ℕ)) (ahead : Ahead) : Type 0 where
  pub rest : List ℕ
  pub parts : stream ≡ concat given ++ rest
  pub each : All (IsWhole MAX_FRAME_SIZE) given
  pub left : IsAhead rest ahead

-- what is ahead once a piece was fed: behind a fault nothing is kept
abbrev pub fed : Ahead → List ℕ → Ahead
fed (Octets octets) piece = Octets (octets ++ piece)
fed (Broken fault) piece = Broken fault

-- a frame's octets, none, or a fault
abbrev pub answer_of : ReadFrame → Result (Option (List ℕ)) FrameFault
answer_of (Ok None) = Ok None
answer_of (Ok (Some frame)) = Ok (Some frame.octets)
answer_of (Err fault) = Err fault

-- what is behind what was read
abbrev pub behind : List ℕ → ReadFrame → Ahead
behind octets (Ok None) = Octets octets
behind octets (Ok (Some frame)) = Octets (drop (length frame.octets) octets)
behind octets (Err fault) = Broken fault

-- what is given next
abbrev pub next_answer : Ahead → Result (Option (List ℕ)) FrameFault
next_answer (Octets octets) = answer_of (frame_at MAX_FRAME_SIZE octets)
next_answer (Broken fault) = Err fault

-- what is ahead then
abbrev pub next_ahead : Ahead → Ahead
next_ahead (Octets octets) = behind octets (frame_at MAX_FRAME_SIZE octets)
next_ahead (Broken fault) = Broken fault

-- what an answer says of the stream: one more of its frames, or that there is none, or a fault that ends it
abbrev pub Tells : List ℕ → List (List ℕ) → Result (Option (List ℕ)) FrameFault → Ahead → Type 0
Tells stream given (Ok (Some frame)) ahead = IsAfter stream (given ++ frame ∷ []) ahead
Tells stream given (Ok None) ahead = IsAfter stream given ahead × AreFramesOf MAX_FRAME_SIZE stream given None
Tells stream given (Err fault) ahead = IsAfter stream given ahead × AreFramesOf MAX_FRAME_SIZE stream given (Some fault)
