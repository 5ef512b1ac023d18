-- What an event is apart from its moment, and what the code's copy of it says (own rules).
use Rattle.std.specs.Prelude.{Bool, ◌||◌, Option, is_some, option_map}
use Rattle.trace_events.specs.Event.{Event, Link, Incoming, Outgoing, Moment}
use Rattle.state_tables.specs.HeldViews.{held_link_view}
use Rattle.state_ledger.specs.declared.held_parts.HeldIncoming.{HeldIncoming}
use Rattle.state_ledger.specs.declared.held_parts.HeldOutgoing.{HeldOutgoing}
use Rattle.state_ledger.specs.declared.held_parts.HeldParts.{HeldParts}
use Rattle.state_ledger.specs.declared.held_event.HeldFacts.{HeldFacts}
use Rattle.state_ledger.specs.declared.held_event.HeldEvent.{HeldEvent}

-- ---- its parts

-- its link, and the deliveries that its transfer begins or goes on with
pub record EventParts : Type 0 where
  pub link : Option Link
  pub incoming : Option Incoming
  pub outgoing : Option Outgoing

-- there is any of them
abbrev pub has_parts : EventParts → Bool
has_parts parts = is_some parts.link || is_some parts.incoming || is_some parts.outgoing

abbrev pub parts_of : Event → EventParts
parts_of e = record { link = e.link; incoming = e.incoming; outgoing = e.outgoing }

abbrev pub held_incoming_view : HeldIncoming → Incoming
held_incoming_view d = record { number = d.number; link = held_link_view d.link; id = d.id; format = d.format }

abbrev pub held_outgoing_view : HeldOutgoing → Outgoing
held_outgoing_view j = record { number = j.number; link = held_link_view j.link; id = j.id; is_settled = j.is_settled; note = j.note }

abbrev pub held_parts_view : HeldParts → EventParts
held_parts_view parts = record {
  link = option_map held_link_view parts.link;
  incoming = option_map held_incoming_view parts.incoming;
  outgoing = option_map held_outgoing_view parts.outgoing;
}

-- ---- all else, and the event of both

abbrev pub facts_of : Event → HeldFacts
facts_of e = record {
  number = e.number;
  connection = e.connection;
  note = e.note;
  session = e.session;
  told = e.told;
  settled = e.settled;
  is_heard = e.is_heard;
  fault = e.fault;
}

abbrev pub event_of : HeldFacts → EventParts → Moment → Event
event_of facts parts moment = record {
  number = facts.number;
  connection = facts.connection;
  moment = moment;
  note = facts.note;
  session = facts.session;
  link = parts.link;
  incoming = parts.incoming;
  outgoing = parts.outgoing;
  told = facts.told;
  settled = facts.settled;
  is_heard = facts.is_heard;
  fault = facts.fault;
}

-- the event that is kept, at this moment
abbrev pub held_event_view : HeldEvent → Moment → Event
held_event_view own moment = event_of own.facts (held_parts_view own.parts) moment
