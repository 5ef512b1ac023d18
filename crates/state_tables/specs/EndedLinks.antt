-- The links of live sessions that an event ends.
use Rattle.std.specs.Prelude.{◌≡◌, ◌↔◌, ℕ, Bool, true, ◌&&◌, ◌||◌, List, Option, Some, None, is_some, map, option_and_then, if◌then◌else◌}
use Rattle.std.specs.List.{Contains, filter_map, flat_map}
use Rattle.indexmap.specs.IndexMap.{values}
use Rattle.trace_events.specs.Words.{is_number}
use Rattle.trace_events.specs.Event as law
use Rattle.trace_events.specs.Event.{Event, channel_of}
use Rattle.trace_events.specs.Connection.{is_final}
use Rattle.trace_events.specs.Ends.{ends_link}
use Rattle.trace_events.specs.Link.{IsLiveLink}
use Rattle.trace_events.specs.Said.{is_in_end, is_out_end, in_detach, out_attach, out_begin, out_detach}
use Rattle.trace_events.specs.View.{Events, link_view}
use Rattle.trace_events.specs.declared.event.Link.{Link}
use Rattle.state_tables.specs.Links.{attaches_out, detaches_in, detaches_out, handle_of, link_of}
use Rattle.state_tables.specs.LinkTables.{standing_of, standing_on}
use Rattle.state_tables.specs.declared.handles.Handles.{Handles}
use Rattle.state_tables.specs.declared.channels.Channels.{Channels}

-- ---- what an event ends, as far as its kind tells

-- a session of its channel ends, or another begins there (part 2 of the standard, section 2.5)
abbrev pub ends_channel : Event → Bool
ends_channel e = is_in_end e || is_out_end e || is_some (out_begin e)

-- the handle is detached, or the router attaches it and opens another link (2.6)
abbrev pub ends_handle : ℕ → Event → Bool
ends_handle handle e = detaches_in handle e || detaches_out handle e || attaches_out handle e && is_some e.link

-- it does so to the handle that it names
abbrev pub ends_named : Event → Bool
ends_named e = is_some (in_detach e) || is_some (out_detach e) || is_some (out_attach e) && is_some e.link

-- an event of the channel ends the link of the handle
abbrev pub ends_on : ℕ → Event → Bool
ends_on handle e = ends_channel e || is_some e.session && ends_handle handle e

-- an event of the connection ends the link of the handle of the channel: the connection's end does (2.4)
abbrev pub ends_at : ℕ → ℕ → Event → Bool
ends_at channel handle e = is_final e.moment || is_number (channel_of e.moment) channel && ends_on handle e

-- it may end links of some channel and handle
abbrev pub may_end : Event → Bool
may_end e = is_final e.moment || ends_channel e || ends_named e

-- ---- the links of the tables

abbrev pub views : List Link → List law.Link
views links = map link_view links

abbrev pub links_on : Handles → List law.Link
links_on x = filter_map link_of (values x.entries)

abbrev pub links_of : Channels → List law.Link
links_of x = flat_map links_on (values x.entries)

-- it stands on a handle of the session, and the event ends it
abbrev pub IsEndedOn : Event → Handles → law.Link → Type 0
IsEndedOn e x l = (handle : ℕ) × ((link_of (standing_on x handle) ≡ Some l) × (ends_on handle e ≡ true))

-- the link of the handle that the event names on its session, if the event ends it
abbrev pub link_named : Event → Handles → Option law.Link
link_named e x = if is_some e.session && ends_named e then option_and_then (λ handle. link_of (standing_on x handle)) (handle_of e) else None

-- it stands on a handle of a channel of the connection, and the event ends it
abbrev pub IsEndedOf : Event → Channels → law.Link → Type 0
IsEndedOf e x l = (channel : ℕ) × ((handle : ℕ) × ((link_of (standing_of x channel handle) ≡ Some l) × (ends_at channel handle e ≡ true)))

-- ---- the links that the event ends

-- just these live behind the history and are ended by the event
abbrev pub AreEnded : Event → Events → List law.Link → Type 0
AreEnded e history links = (l : law.Link) → Contains links l ↔ IsLiveLink l history × (ends_link l e ≡ true)
