-- What a tick does.
use Rattle.std.specs.Prelude.{◌≡◌, ℕ, Bool, true, false, ◌+◌, ◌&&◌, List, [], ◌++◌, length, nat_eq, is_none, not, Option, Some, None, Result, Ok, Err, if◌then◌else◌}
use Rattle.conn_engine.specs.Closing.{is_over}
use Rattle.conn_engine.specs.Serving.{Connection}
use Rattle.conn_engine.specs.Silence.{empty_frame, is_due, patience, silence_after}

-- all octets up to the end of an open were given
abbrev pub is_given : Option ℕ → Bool
is_given None = false
is_given (Some left) = nat_eq left 0

-- the silence that the client bears, where an open was given, no close was taken, and the engine is not over
abbrev pub patience_of : Connection → Option ℕ
patience_of c = if is_given c.frame_ends.opened && is_none c.frame_ends.closed && not (is_over c.place) then patience c.time_out else None

-- nothing waits
abbrev pub is_clear : List ℕ → Bool
is_clear waiting = nat_eq (length waiting) 0

-- what is placed
abbrev pub placed : Bool → List ℕ
placed true = empty_frame
placed false = []

-- an empty frame is due
abbrev pub is_due_at : ℕ → ℕ → Connection → Bool
is_due_at bears moment c = is_due c.silence (is_clear c.waiting) bears moment

-- behind a tick that placed one, or did not
abbrev pub ticked : Bool → ℕ → Connection → Connection
ticked is_placed moment c = record c { waiting = c.waiting ++ placed is_placed; silence = silence_after c.silence is_placed moment }

-- what a tick did, by the silence that the client bears: it placed an empty frame where one was due, or was refused the memory for
-- it and changed nothing
abbrev pub AfterTick : {E : Type 0} → Option ℕ → ℕ → Connection → Connection → Result Bool E → Type 0
AfterTick None moment before after result = (result ≡ Ok false) × (after ≡ before)
AfterTick (Some bears) moment before after (Ok is_placed) = (is_placed ≡ is_due_at bears moment before) × (after ≡ ticked is_placed moment before)
AfterTick (Some bears) moment before after (Err fault) = (is_due_at bears moment before ≡ true) × (after ≡ before)

-- how many ticks have placed one, behind one more
abbrev pub and_tick : {E : Type 0} → Result Bool E → ℕ → ℕ
and_tick (Ok true) ticks = ticks + 1
and_tick (Ok false) ticks = ticks
and_tick (Err fault) ticks = ticks
