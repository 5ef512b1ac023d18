-- What a frame is, and what octets are that begin none (part 2 of the standard, section 2.3).
use Rattle.std.specs.Prelude.{◌≡◌, ℕ, ◌+◌, ◌*◌, ◌<◌, ◌≤◌, ◌⊎◌, List, ◌∷◌, [], ◌++◌, length, slice_index}
use Rattle.byteorder.specs.Endian.{big_number}
use Rattle.amqp_types.specs.Grammar.{IsNumber}
use Rattle.amqp_frames.specs.declared.fault.FrameFault.{FrameFault}
use Rattle.amqp_frames.specs.declared.fault.FrameFault.TheVariants.{TooSmall, TooLarge, BadOffset, WrongType}
use Rattle.amqp_frames.specs.declared.frame.FrameKind.{FrameKind}
use Rattle.amqp_frames.specs.declared.frame.FrameKind.TheVariants.{Amqp, Sasl}

-- a frame: what it belongs to, its channel, what stands behind its header, and all its octets
pub record Frame : Type 0 where
  pub kind : FrameKind
  pub channel : ℕ
  pub body : List ℕ
  pub octets : List ℕ

-- the octet that names a frame's type (part 2, 2.3.1; part 5, 5.3.1)
abbrev pub code_of : FrameKind → ℕ
code_of Amqp = 0
code_of Sasl = 1

-- The octets of a frame are its size, which counts all of them and is no more than the limit; the data offset, which
-- counts words of four octets up to the body; its type and channel; an extended header, of which nothing is said; and
-- its body (part 2, 2.3.1).
pub record IsFrame (limit : ℕ) (frame : Frame) : Type 0 where
  pub size : List ℕ
  pub offset : ℕ
  pub channel : List ℕ
  pub extended : List ℕ
  pub parts : frame.octets ≡ size ++ (offset ∷ code_of frame.kind ∷ []) ++ channel ++ extended ++ frame.body
  pub size_says : IsNumber 4 size (length frame.octets)
  pub channel_says : IsNumber 2 channel frame.channel
  pub body_start : 4 * offset ≡ 8 + length extended
  pub within : length frame.octets ≤ limit

-- a frame at the front of the octets, and what is behind it
pub record IsFront (limit : ℕ) (octets : List ℕ) (frame : Frame) (rest : List ℕ) : Type 0 where
  pub parts : octets ≡ frame.octets ++ rest
  pub is : IsFrame limit frame

-- the size that the first four octets state (part 2, 2.3.1)
abbrev pub stated_size : List ℕ → ℕ
stated_size octets = big_number 4 octets

-- where the body starts, by the octet of the data offset, which counts words of four octets (part 2, 2.3.1)
abbrev pub stated_start : List ℕ → ℕ
stated_start octets = 4 * slice_index octets 4

-- the octet of the type (part 2, 2.3.1)
abbrev pub stated_type : List ℕ → ℕ
stated_type octets = slice_index octets 5

-- the header is there, and its size may be a frame's
pub record HasHeader (limit : ℕ) (octets : List ℕ) : Type 0 where
  pub there : 8 ≤ length octets
  pub large : 8 ≤ stated_size octets
  pub within : stated_size octets ≤ limit

-- what is wrong with the frame at the front, once the octets that show it are there (part 2, 2.3.1; which fault has
-- which name, and their order, are own rules)
abbrev pub IsFault : ℕ → List ℕ → FrameFault → Type 0
IsFault limit octets TooSmall = (4 ≤ length octets) × (stated_size octets < 8)
IsFault limit octets TooLarge = (4 ≤ length octets) × (8 ≤ stated_size octets) × (limit < stated_size octets)
IsFault limit octets BadOffset = HasHeader limit octets × ((stated_start octets < 8) ⊎ (stated_size octets < stated_start octets))
IsFault limit octets WrongType = HasHeader limit octets × (8 ≤ stated_start octets) × (stated_start octets ≤ stated_size octets) × (1 < stated_type octets)

-- no fault stands yet, and not all octets are there: not those of the size, or not as many as it says
pub record IsPartial (limit : ℕ) (octets : List ℕ) : Type 0 where
  pub faultless : (fault : FrameFault) → ¬ IsFault limit octets fault
  pub short : 4 ≤ length octets → length octets < stated_size octets
