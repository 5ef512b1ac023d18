-- How much a call on a socket moves.
use Rattle.std.specs.Prelude.{ℕ, ◌≤◌}
use Rattle.polled_sockets.specs.declared.connection.Moved.{Moved}
use Rattle.polled_sockets.specs.declared.connection.Moved.TheVariants.{Octets, Nothing, End, Fault}

-- no more octets than there were, or than there was room for
abbrev pub IsWithin : Moved → ℕ → Type 0
IsWithin (Octets n) most = n ≤ most
IsWithin Nothing most = Unit {0}
IsWithin End most = Unit {0}
IsWithin Fault most = Unit {0}
