-- What a frame of the code stands for.
use Rattle.std.specs.Prelude.{◌≡◌, ℕ, drop, length, List, Option, Some, None, Result, Ok, Err}
use Rattle.amqp_frames.specs.declared.fault.FrameFault.{FrameFault}
use Rattle.amqp_frames.specs.declared.frame.FrameView.{FrameView}
use Rattle.amqp_frames.specs.Frame.{Frame, IsFront}
use Rattle.amqp_frames.specs.Reading.{ReadFrame}

-- a frame, apart from where it lies in memory
abbrev pub view : FrameView → Frame
view frame = record { kind = frame.kind; channel = frame.channel; body = frame.body.now; octets = frame.octets.now }

-- what was read: a frame with its length, none yet, or a fault
abbrev pub FrameRead : Type 0
FrameRead = Result (Option (FrameView × ℕ)) FrameFault

-- what a function returned is what reading gives
abbrev pub Gives : FrameRead → ReadFrame → Type 0
Gives (Ok None) read = read ≡ Ok None
Gives (Ok (Some x)) read = (read ≡ Ok (Some (view x.0))) × (x.1 ≡ length (view x.0).octets)
Gives (Err fault) read = read ≡ Err fault

-- a frame at the front of the octets, and its length
abbrev pub IsFoundAt : ℕ → List ℕ → FrameView × ℕ → Type 0
IsFoundAt limit octets x = IsFront limit octets (view x.0) (drop x.1 octets) × (x.1 ≡ length (view x.0).octets)

-- a fact where nothing was read
abbrev pub IfMissing : Type 0 → Option (FrameView × ℕ) → Type 0
IfMissing P None = P
IfMissing P (Some x) = Unit {0}
