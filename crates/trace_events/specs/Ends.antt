-- What ends a session or a link (part 2 of the standard, sections 2.5 and 2.6).
use Rattle.std.specs.Prelude.{Bool, ◌&&◌, ◌||◌, is_some, ◌==◌}
use Rattle.trace_events.specs.Words.{where_passes}
use Rattle.trace_events.specs.Event.{Event, Link}
use Rattle.trace_events.specs.declared.session.Session.{Session}
use Rattle.trace_events.specs.Said.{out_attach}
use Rattle.trace_events.specs.Connection.{is_final}
use Rattle.trace_events.specs.Session.{begins_out, ends_in, ends_out}
use Rattle.trace_events.specs.Link.{attaches_out, detaches_in, detaches_out, opens_link}

-- the end of its connection, an end of its channel, or an Out begin there, which begins another
abbrev pub ends_session : Session → Event → Bool
ends_session s e =
    is_final e.moment && (e.connection == s.connection) || (ends_in s.connection s.channel e || ends_out s.connection s.channel e)
    || begins_out s.connection s.channel e

-- an Out attach of its handle that opens another
abbrev pub replaces_link : Link → Event → Bool
replaces_link l e = attaches_out l.session l.handle e && is_some (where_passes opens_link (out_attach e))

-- the end of its session, a detach of its handle, or such an attach
abbrev pub ends_link : Link → Event → Bool
ends_link l e =
    ends_session l.session e || (detaches_in l.session l.handle e || detaches_out l.session l.handle e) || replaces_link l e
