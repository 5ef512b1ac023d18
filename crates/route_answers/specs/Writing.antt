-- Frames that the router writes, as the next events of a history.
use Rattle.std.specs.Prelude.{ℕ, List, [], ◌∷◌}
use Rattle.pairing_cert.specs.declared.note.Note.TheVariants as notes
use Rattle.capture_form.specs.Rules.{RuleSet}
use Rattle.trace_events.specs.Frame.{Frame, Says, Spoken}
use Rattle.trace_events.specs.Event.{Event, Out}
use Rattle.trace_events.specs.History.{judge_moment}
use Rattle.trace_events.specs.Written.{spoken_octets}

-- a frame in the octets in which it is written
abbrev pub frame_of : Spoken → Frame
frame_of spoken = record { octets = spoken_octets spoken; body = Says spoken }

-- it is written on this connection, without a note
abbrev pub writing : RuleSet → ℕ → List Event → Spoken → Event
writing rules c past spoken = judge_moment rules past c (Out (frame_of spoken)) notes.None

-- what stands where these are written, one after the other
abbrev pub behind : RuleSet → ℕ → List Spoken → List Event → List Event
behind rules c [] past = past
behind rules c (spoken ∷ more) past = behind rules c more (writing rules c past spoken ∷ past)
