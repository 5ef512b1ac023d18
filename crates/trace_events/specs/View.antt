-- What the code's events stand for.
use Rattle.std.specs.Prelude.{ℕ, List, ◌++◌, Option, Some, None, option_map, codes, decimal}
use Rattle.amqp_perf.specs.Nested.{StateFields}
use Rattle.amqp_perf.specs.View as performatives
use Rattle.trace_events.specs.declared.disposition.Decision.{Decision}
use Rattle.trace_events.specs.declared.disposition.Decision.TheVariants as decisions
use Rattle.trace_events.specs.declared.frame.Frame.{Frame}
use Rattle.trace_events.specs.declared.frame.Spoken.{Spoken}
use Rattle.trace_events.specs.declared.frame.Body.{Body}
use Rattle.trace_events.specs.declared.frame.Body.TheVariants as bodies
use Rattle.trace_events.specs.declared.event.Link.{Link}
use Rattle.trace_events.specs.declared.event.Incoming.{Incoming}
use Rattle.trace_events.specs.declared.event.Outgoing.{Outgoing}
use Rattle.trace_events.specs.declared.event.Moment.{Moment}
use Rattle.trace_events.specs.declared.event.Moment.TheVariants as moments
use Rattle.trace_events.specs.declared.event.Event.{Event}
use Rattle.trace_events.specs.declared.asking.AskedAddress.{AskedAddress}
use Rattle.trace_events.specs.declared.asking.AskedAddress.TheVariants as addresses
use Rattle.trace_events.specs.declared.asking.Asking.{Asking}
use Rattle.trace_events.specs.LinkClause as clauses
use Rattle.trace_events.specs.Frame as frames
use Rattle.trace_events.specs.Event as law

abbrev pub spoken_view : Spoken → frames.Spoken
spoken_view spoken = record {
  channel = spoken.channel;
  meaning = performatives.view spoken.performative;
  payload = spoken.payload.now;
}

abbrev pub body_view : Body → frames.Body
body_view bodies.NoFrame = frames.NoFrame
body_view (bodies.Empty channel) = frames.Empty channel
body_view (bodies.NoPerformative channel) = frames.NoPerformative channel
body_view (bodies.Says spoken) = frames.Says (spoken_view spoken)

abbrev pub frame_view : Frame → frames.Frame
frame_view frame = record { octets = frame.octets.now; body = body_view frame.body }

abbrev pub moment_view : Moment → law.Moment
moment_view moments.Opened = law.Opened
moment_view (moments.In frame) = law.In (frame_view frame)
moment_view (moments.Out frame) = law.Out (frame_view frame)
moment_view moments.Lost = law.Lost
moment_view moments.Broken = law.Broken

abbrev pub link_view : Link → law.Link
link_view l = record {
  number = l.number;
  session = l.session;
  handle = l.handle;
  role = l.role;
  address = l.address.now;
  is_pre_settled = l.is_pre_settled;
  our_first_count = l.our_first_count;
  their_first_count = l.their_first_count;
}

abbrev pub incoming_view : Incoming → law.Incoming
incoming_view d = record { number = d.number; link = link_view d.link; id = d.id; format = d.format }

abbrev pub outgoing_view : Outgoing → law.Outgoing
outgoing_view j = record { number = j.number; link = link_view j.link; id = j.id; is_settled = j.is_settled; note = j.note }

abbrev pub event_view : Event → law.Event
event_view e = record {
  number = e.number;
  connection = e.connection;
  moment = moment_view e.moment.now;
  note = e.note;
  session = e.session;
  link = option_map link_view e.link;
  incoming = option_map incoming_view e.incoming;
  outgoing = option_map outgoing_view e.outgoing;
  told = e.told;
  settled = e.settled;
  is_heard = e.is_heard;
  fault = e.fault;
}

abbrev pub address_view : AskedAddress → List ℕ
address_view (addresses.Given octets) = octets.now
address_view (addresses.Made number) = codes "dyn/" ++ decimal number

abbrev pub asking_view : Asking → clauses.Asking
asking_view asked = record {
  name = asked.name.now;
  role = asked.role;
  sender_mode = asked.sender_mode;
  receiver_mode = asked.receiver_mode;
  address = address_view asked.address;
  fault = asked.fault;
}

-- the terminal state that a decision tells
abbrev pub decision_view : Decision → Option StateFields
decision_view decisions.Settled = None
decision_view (decisions.Terminal outcome octets) = Some (record { octets = octets.now; outcome = Some outcome })

-- those before a record, the newest first
abbrev pub Events : Type 0
Events = List law.Event
