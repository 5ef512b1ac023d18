-- Which link, and where it stands (own rules).
use Rattle.std.specs.Prelude.{ℕ, Bool, ◌&&◌, ◌==◌, List, Option, Some, None, option_and_then, if◌then◌else◌, bytes_eq}
use Rattle.amqp_perf.specs.Meaning.{Meaning, AnAttach}
use Rattle.trace_events.specs.Words.{is_none_or}
use Rattle.trace_events.specs.Frame.{Spoken, spoken_in}
use Rattle.trace_events.specs.Event.{Moment, Out}
use Rattle.credit_levels.specs.declared.pick.Pick.{Pick}
use Rattle.credit_levels.specs.declared.pick.PickedLink.{PickedLink}

-- a link of this name on this connection is picked
abbrev pub picks : Pick → ℕ → List ℕ → Bool
picks pick connection name = is_none_or pick.connection (λ asked. asked == connection) && is_none_or pick.name (λ asked. bytes_eq asked.now name)

-- where the link stands that an attach of the router's asks for in the record of this number, if it is picked
abbrev pub attached_at : Pick → ℕ → ℕ → ℕ → Meaning → Option PickedLink
attached_at pick number connection channel (AnAttach fields) =
    if picks pick connection fields.name then Some (record { number = number; connection = connection; channel = channel; handle = fields.handle }) else None
attached_at pick number connection channel _ = None

abbrev pub attached_by : Pick → ℕ → ℕ → Spoken → Option PickedLink
attached_by pick number connection spoken = attached_at pick number connection spoken.channel spoken.meaning

abbrev pub attached : Pick → ℕ → ℕ → Moment → Option PickedLink
attached pick number connection (Out frame) = option_and_then (attached_by pick number connection) (spoken_in frame.body)
attached pick number connection _ = None
