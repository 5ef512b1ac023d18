-- The link that an attach of the router opens in answer to one of the client.
use Rattle.std.specs.Prelude.{ℕ, Option, None, option_and_then, option_map, unwrap_or}
use Rattle.amqp_perf.specs.Meaning.{AttachFields}
use Rattle.trace_events.specs.Event.{Event, Link}
use Rattle.trace_events.specs.declared.session.Session.{Session}
use Rattle.trace_events.specs.Said.{in_attach}
use Rattle.trace_events.specs.Link.{first_count, new_link}

-- the initial-delivery-count of the client's attach that an event is, 0 where there is none
abbrev pub their_first_count : Option Event → ℕ
their_first_count theirs = unwrap_or (option_map first_count (option_and_then in_attach theirs)) 0

-- the link that an Out attach, in this record, opens in answer to one of this initial-delivery-count
abbrev pub link_answering : ℕ → Session → AttachFields → ℕ → Link
link_answering number s ours count = record (new_link number s ours None) { their_first_count = count }
