-- What the events on the stack stand for.
use Rattle.std.specs.Prelude.{List, [], ◌∷◌}
use Rattle.trace_events.specs.Event as law
use Rattle.trace_events.specs.View.{event_view}
use Rattle.trace_law.specs.declared.past.Past.{Past}
use Rattle.trace_law.specs.declared.past.Past.TheVariants.{Start, After'}

-- the events, the newest first
abbrev pub events : Past → List law.Event
events Start = []
events (After' event earlier rest) = event_view event ∷ events rest
