-- What the list of sessions that lack window has.
use Rattle.std.specs.Prelude.{◌≡◌, List, Some}
use Rattle.trace_events.specs.Event.{Event}
use Rattle.trace_events.specs.declared.session.Session.{Session}
use Rattle.due_lists.specs.Candidates.{value_of}
use Rattle.due_lists.specs.Lacking.{IsLacking}
use Rattle.due_lists.specs.declared.windows.Windows.{Windows}

-- each that lacks window is a candidate, under its number
abbrev pub HasLacking : Windows → List Event → Type 0
HasLacking windows past = (s : Session) → IsLacking s past → value_of windows.sessions s.number ≡ Some s
