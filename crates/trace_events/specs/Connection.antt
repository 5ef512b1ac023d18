-- A connection's opening and end, and the longest frame that is written on it (part 2 of the standard, section 2.4).
use Rattle.std.specs.Prelude.{ℕ, min, max, Bool, true, false, ◌&&◌, ◌||◌, List, [], ◌∷◌, Option, None, option_map, unwrap_or, is_some, ◌==◌, if◌then◌else◌}
use Rattle.std.specs.List.{list_any}
use Rattle.amqp_perf.specs.Meaning.{OpenFields}
use Rattle.amqp_perf.specs.Meaning as meanings
use Rattle.flow_counts.specs.declared.profile.TheConstants.{MIN_MAX_FRAME_SIZE, MAX_FRAME_SIZE}
use Rattle.trace_events.specs.Words.{is_some_and, or_else}
use Rattle.trace_events.specs.Frame.{Frame, spoken_in}
use Rattle.trace_events.specs.Event.{Event, Moment, Opened, In, Out, Lost, Broken, is_opened, is_lost, is_broken, is_out}
use Rattle.trace_events.specs.Said.{is_close, is_in_close, is_out_close, in_open, out_open}

-- one of the connection's events passes
abbrev pub has_event : ℕ → (Event → Bool) → List Event → Bool
has_event c test past = list_any (λ e. test e && (e.connection == c)) past

abbrev pub says_close : Frame → Bool
says_close frame = is_some_and (spoken_in frame.body) (λ spoken. is_close spoken.meaning)

-- a close in either direction, the end of the device, or octets that stopped being frames
abbrev pub is_final : Moment → Bool
is_final (In frame) = says_close frame
is_final (Out frame) = says_close frame
is_final Lost = true
is_final Broken = true
is_final Opened = false

-- the connection is over
abbrev pub is_over : ℕ → List Event → Bool
is_over c past = has_event c (λ e. is_final e.moment) past

-- the client's AMQP header was accepted
abbrev pub was_opened : ℕ → List Event → Bool
was_opened c past = has_event c (λ e. is_opened e.moment) past

-- an open of the client stands, heard or not
abbrev pub has_in_open : ℕ → List Event → Bool
has_in_open c past = has_event c (λ e. is_some (in_open e)) past

-- an open was written; so was a close
abbrev pub has_out_open : ℕ → List Event → Bool
has_out_open c past = has_event c (λ e. is_some (out_open e)) past

abbrev pub has_out_close : ℕ → List Event → Bool
has_out_close c past = has_event c is_out_close past

-- the client's first open
abbrev pub first_open : ℕ → List Event → Option OpenFields
first_open c [] = None
first_open c (e ∷ past) =
    let earlier = first_open c past in or_else earlier (if e.connection == c then in_open e else None)

-- what an open says, within what this router writes (own rule)
abbrev pub bounded_limit : OpenFields → ℕ
bounded_limit fields = max MIN_MAX_FRAME_SIZE (min MAX_FRAME_SIZE (meanings.frame_limit fields))

-- the longest frame that may be written, in octets: by the client's first open, and the least before it
abbrev pub frame_limit : ℕ → List Event → ℕ
frame_limit c past = unwrap_or (option_map bounded_limit (first_open c past)) MIN_MAX_FRAME_SIZE

-- the device was lost, or a close was written
abbrev pub was_finished : ℕ → List Event → Bool
was_finished c past = has_event c (λ e. is_lost e.moment || is_out_close e) past

-- the client closed, or its octets stopped being frames
abbrev pub was_stopped : ℕ → List Event → Bool
was_stopped c past = has_event c (λ e. is_broken e.moment || is_in_close e) past

-- a frame was written
abbrev pub has_out_frame : ℕ → List Event → Bool
has_out_frame c past = has_event c (λ e. is_out e.moment) past
