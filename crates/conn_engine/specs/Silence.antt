-- When a client is to hear an empty frame, because nothing else was given for a while (part 2 of the standard, section
-- 2.4.5).
use Rattle.std.specs.Prelude.{ℕ, ◌-◌, ◌/◌, max, nat_le, nat_lt, Bool, true, false, ◌&&◌, ◌||◌, List, [], ◌∷◌, Option, Some, None, is_some, if◌then◌else◌}
use Rattle.stream_reading.specs.declared.step.Event.{Event}
use Rattle.stream_reading.specs.declared.step.Event.TheVariants.{SaslHeader, AnonymousInit, AmqpHeader, AmqpFrame}
use Rattle.stream_reading.specs.Steps.{StepText}
use Rattle.conn_engine.specs.declared.silence.Silence.{Silence}
use Rattle.conn_engine.specs.Said.{time_out_in}

-- a frame without a body, on channel 0
abbrev pub empty_frame : List ℕ
empty_frame = 0 ∷ 0 ∷ 0 ∷ 8 ∷ 2 ∷ 0 ∷ 0 ∷ 0 ∷ []

-- ---- what the client asks for

-- the idle-time-out of the client's open, if a step is one
abbrev pub time_out_step : Event → List ℕ → Option ℕ
time_out_step SaslHeader octets = None
time_out_step AnonymousInit octets = None
time_out_step AmqpHeader octets = None
time_out_step AmqpFrame octets = time_out_in octets

-- that of the first open, behind a step more
abbrev pub time_out_at : Option ℕ → Event → List ℕ → Option ℕ
time_out_at (Some time_out) event octets = Some time_out
time_out_at None event octets = time_out_step event octets

-- behind steps more
abbrev pub time_out_after : Option ℕ → List StepText → Option ℕ
time_out_after time_out [] = time_out
time_out_after time_out (step ∷ steps) = time_out_after (time_out_at time_out step.event step.octets) steps

-- after how many milliseconds of silence it is to hear something: half of its idle-time-out, and one at least; none where it
-- has not said, or asks for none
abbrev pub patience : Option ℕ → Option ℕ
patience None = None
patience (Some time_out) = if nat_lt 0 time_out then Some (max 1 (time_out / 2)) else None

-- it asks for signs of life
abbrev pub is_asked : Option ℕ → Bool
is_asked time_out = is_some (patience time_out)

-- ---- moments

-- an empty frame is due at a moment, by the moment from which on the silence is counted, if there is one, by whether it was
-- broken since the call before, and by whether nothing waits: the silence has lasted as long as the client bears
abbrev pub is_due_since : Option ℕ → (is_broken is_clear : Bool) → (bears moment : ℕ) → Bool
is_due_since None is_broken is_clear bears moment = false
is_due_since (Some since) true is_clear bears moment = false
is_due_since (Some since) false is_clear bears moment = is_clear && nat_le bears (moment - since)

abbrev pub is_due : Silence → Bool → ℕ → ℕ → Bool
is_due silence is_clear bears moment = is_due_since silence.since silence.is_broken is_clear bears moment

-- from which moment on it is counted: from this one where it begins anew, or there was none. A moment before the one that was
-- kept counts as that one.
abbrev pub since_after : Option ℕ → (is_anew : Bool) → ℕ → ℕ
since_after None is_anew moment = moment
since_after (Some since) true moment = max since moment
since_after (Some since) false moment = since

-- behind a call, which may have placed an empty frame
abbrev pub silence_after : Silence → (is_placed : Bool) → ℕ → Silence
silence_after silence is_placed moment = record { since = Some (since_after silence.since (silence.is_broken || is_placed) moment); is_broken = false }

-- where so many octets were given
abbrev pub silence_given : Silence → ℕ → Silence
silence_given silence n = record { since = silence.since; is_broken = silence.is_broken || nat_lt 0 n }

-- no call has come
abbrev pub no_silence : Silence
no_silence = record { since = None; is_broken = false }
