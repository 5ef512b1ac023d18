-- How many entries the tables have: a connection of which a record stands, where of neighbours of which nothing more is to come
-- and that came to the same all are one; a session that is live or awaits its end; a link that is live or awaits its detach; and
-- each begin, attach, detach or end of a client that is still to be answered (own rules).
use Rattle.std.specs.Prelude.{ℕ, ◌+◌, ◌-◌, ◌^◌, min, Bool, length, is_some, option_map, unwrap_or, if◌then◌else◌}
use Rattle.std.specs.List.{sum_by}
use Rattle.indexmap.specs.IndexMap.{values}
use Rattle.state_tables.specs.Links.{HandleState}
use Rattle.state_tables.specs.declared.unanswered.Unanswered.{Unanswered}
use Rattle.state_tables.specs.declared.on_channels.OnChannels.{OnChannels}
use Rattle.state_tables.specs.declared.connection.Connection.{Connection}
use Rattle.state_tables.specs.declared.connections.Connections.{Connections}
use Rattle.state_tables.specs.declared.handles.Handles.{Handles}
use Rattle.state_tables.specs.declared.channels.Channels.{Channels}
use Rattle.state_tables.specs.declared.links.Links.{Links}

-- a number, or the greatest of 64 bits where it is greater
abbrev pub capped : ℕ → ℕ
capped n = min n (2 ^ 64 - 1)

abbrev pub one_if : Bool → ℕ
one_if b = if b then 1 else 0

-- of a channel, beside its live session: a begin and an end that are to be answered, and an end that is awaited
abbrev pub entries_unanswered : Unanswered → ℕ
entries_unanswered x = one_if (is_some x.begin) + one_if x.owes_end + one_if x.awaits_end

-- of the channels of a connection: its live sessions, and what is to be answered
abbrev pub entries_among : OnChannels → ℕ
entries_among x = length x.sessions.entries + sum_by entries_unanswered (values x.unanswered)

-- of a connection, as far as its sessions go
abbrev pub entries_of_connection : Connection → ℕ
entries_of_connection x = 1 + unwrap_or (option_map (λ b. entries_among b.value) x.channels) 0

abbrev pub entries_of_connections : Connections → ℕ
entries_of_connections table = length table.over + sum_by entries_of_connection (values table.entries)

-- of a handle: its link, an attach and a detach that are to be answered, and a detach that is awaited
abbrev pub entries_of_handle : HandleState → ℕ
entries_of_handle x = one_if (is_some x.link) + one_if (is_some x.asked) + one_if x.owes_detach + one_if x.awaits_detach

abbrev pub entries_of_session : Handles → ℕ
entries_of_session x = sum_by entries_of_handle (values x.entries)

abbrev pub entries_of_channels : Channels → ℕ
entries_of_channels x = sum_by entries_of_session (values x.entries)

abbrev pub entries_of_links : Links → ℕ
entries_of_links table = sum_by entries_of_channels (values table.entries)
