-- The kinds of fault of octets that begin no frame.
use Rattle.std.specs.Prelude.{ℕ}
use Rattle.amqp_frames.specs.declared.fault.FrameFault.{FrameFault}
use Rattle.amqp_frames.specs.declared.fault.FrameFault.TheVariants.{TooSmall, TooLarge, BadOffset, WrongType}

-- the number of a fault (own format)
abbrev pub number_of : FrameFault → ℕ
number_of TooSmall = 1
number_of TooLarge = 2
number_of BadOffset = 3
number_of WrongType = 4
