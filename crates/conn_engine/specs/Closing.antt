-- Where an engine is when nothing more is awaited of it: a close was given, or it goes on no more for another reason.
use Rattle.std.specs.Prelude.{ℕ, nat_le, Bool, true, false, Option, Some, None, if◌then◌else◌}
use Rattle.conn_engine.specs.declared.engine_state.Loss.TheVariants.{Untold}
use Rattle.conn_engine.specs.declared.engine_state.EngineState.{EngineState}
use Rattle.conn_engine.specs.declared.engine_state.EngineState.TheVariants.{Reading, Closing, Over}

-- where an engine is that goes on no more
abbrev pub over_of : EngineState → EngineState
over_of Reading = Over Untold
over_of Closing = Over Untold
over_of (Over loss) = Over loss

-- where it is when the first octets were given, of which so many are up to the end of a close: over where they have it
abbrev pub place_given : EngineState → Option ℕ → ℕ → EngineState
place_given place None n = place
place_given place (Some end) n = if nat_le end n then over_of place else place

-- nothing more is awaited
abbrev pub is_over : EngineState → Bool
is_over Reading = false
is_over Closing = false
is_over (Over loss) = true
