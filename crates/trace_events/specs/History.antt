-- The events of a capture: each record in its place, by those before it.
use Rattle.std.specs.Prelude.{◌≡◌, ℕ, Bool, false, ◌&&◌, List, [], ◌∷◌, length, Option, Some, None, is_none, option_and_then, option_map, unwrap_or, if◌then◌else◌}
use Rattle.amqp_perf.specs.declared.attach.Role.{Role}
use Rattle.amqp_perf.specs.declared.attach.Role.TheVariants.{Sender, Receiver}
use Rattle.amqp_perf.specs.Meaning.{Meaning, ATransfer, ADisposition, TransferFields, flag}
use Rattle.pairing_cert.specs.declared.note.Note.{Note}
use Rattle.capture_form.specs.declared.records.Record.{Record}
use Rattle.capture_form.specs.declared.records.What.{What}
use Rattle.capture_form.specs.declared.records.What.TheVariants as whats
use Rattle.capture_form.specs.Rules.{RuleSet}
use Rattle.trace_events.specs.declared.fault.Fault.{Fault}
use Rattle.trace_events.specs.Words.{or_else, where_passes}
use Rattle.trace_events.specs.Frame.{frame_read, spoken_in}
use Rattle.trace_events.specs.Event.{Event, Link, Incoming, Outgoing, Moment, Opened, In, Out, Lost, Broken, spoken_of}
use Rattle.trace_events.specs.declared.session.Session.{Session}
use Rattle.trace_events.specs.Said.{handle_in, out_spoken, out_attach}
use Rattle.trace_events.specs.Session.{live_session, session_begun}
use Rattle.trace_events.specs.Link.{session_link, link_opened, is_producer, is_consumer}
use Rattle.trace_events.specs.Incoming as incoming
use Rattle.trace_events.specs.Outgoing as outgoing
use Rattle.trace_events.specs.Settling.{to_tell, to_settle}
use Rattle.trace_events.specs.Heard.{is_heard_body}
use Rattle.trace_events.specs.Fault.{body_fault}

-- ---- what happened, with the octets read, once

abbrev pub moment_of : What → Moment
moment_of whats.Opened = Opened
moment_of (whats.In octets) = In (frame_read octets)
moment_of (whats.Out octets) = Out (frame_read octets)
moment_of whats.Lost = Lost
moment_of whats.Broken = Broken

-- ---- where it stands

-- the live session of a frame's channel
abbrev pub session_of : ℕ → Moment → List Event → Option Session
session_of c moment past = option_and_then (λ spoken. live_session c spoken.channel past) (spoken_of moment)

-- the live link of the handle that a flow, transfer or detach names
abbrev pub named_link : Session → Meaning → List Event → Option Link
named_link s meaning past = option_and_then (λ handle. session_link s handle past) (handle_in meaning)

abbrev pub link_of : Moment → List Event → Option Session → Option Link
link_of moment past session = option_and_then (λ s. option_and_then (λ spoken. named_link s spoken.meaning past) (spoken_of moment)) session

-- ---- whether it is heard, and its fault

abbrev pub heard_by : Event → Moment → List Event → Bool
heard_by e (In frame) past = is_heard_body e frame.body past
heard_by e _ past = false

abbrev pub fault_by : RuleSet → Event → Moment → List Event → Option Fault
fault_by rules e (In frame) past = if e.is_heard then body_fault rules e frame.body past else None
fault_by rules e _ past = None

-- ---- the delivery

abbrev pub new_incoming : ℕ → TransferFields → Link → Incoming
new_incoming number fields l =
    record { number = number; link = l; id = fields.delivery_id; format = unwrap_or fields.message_format 0 }

abbrev pub new_outgoing : ℕ → Note → TransferFields → Link → Outgoing
new_outgoing number note fields l =
    record { number = number; link = l; id = fields.delivery_id; is_settled = flag fields.settled; note = note }

-- the delivery in progress on a producer's link, or one that begins
abbrev pub incoming_part : Event → Meaning → List Event → Option Incoming
incoming_part e (ATransfer fields) past =
    option_and_then (λ l. or_else (incoming.in_progress l past) (Some (new_incoming e.number fields l))) (where_passes is_producer e.link)
incoming_part e _ past = None

-- of a transfer that is heard and without fault
abbrev pub incoming_by : Event → Moment → List Event → Option Incoming
incoming_by e (In frame) past =
    if e.is_heard && is_none e.fault then option_and_then (λ spoken. incoming_part e spoken.meaning past) (spoken_in frame.body) else None
incoming_by e _ past = None

-- the delivery in progress on a consumer's link, or one that begins
abbrev pub outgoing_part : Event → Meaning → List Event → Option Outgoing
outgoing_part e (ATransfer fields) past =
    option_and_then (λ l. or_else (outgoing.in_progress l past) (Some (new_outgoing e.number e.note fields l))) (where_passes is_consumer e.link)
outgoing_part e _ past = None

abbrev pub outgoing_by : Event → Moment → List Event → Option Outgoing
outgoing_by e (Out frame) past = option_and_then (λ spoken. outgoing_part e spoken.meaning past) (spoken_in frame.body)
outgoing_by e _ past = None

-- ---- what a disposition that the router writes tells or settles, by its first id

abbrev pub told_by_role : RuleSet → Session → ℕ → Role → List Event → Option ℕ
told_by_role rules s first Receiver past = option_map (λ d. d.number) (to_tell rules s first past)
told_by_role rules s first Sender past = None

abbrev pub settled_by_role : Session → ℕ → Role → List Event → Option ℕ
settled_by_role s first Sender past = option_map (λ j. j.number) (to_settle s first past)
settled_by_role s first Receiver past = None

abbrev pub told_part : RuleSet → Event → Meaning → List Event → Option ℕ
told_part rules e (ADisposition fields) past = option_and_then (λ s. told_by_role rules s fields.first fields.role past) e.session
told_part rules e _ past = None

abbrev pub settled_part : Event → Meaning → List Event → Option ℕ
settled_part e (ADisposition fields) past = option_and_then (λ s. settled_by_role s fields.first fields.role past) e.session
settled_part e _ past = None

abbrev pub told_by : RuleSet → Event → Moment → List Event → Option ℕ
told_by rules e (Out frame) past = option_and_then (λ spoken. told_part rules e spoken.meaning past) (spoken_in frame.body)
told_by rules e _ past = None

abbrev pub settled_by : Event → Moment → List Event → Option ℕ
settled_by e (Out frame) past = option_and_then (λ spoken. settled_part e spoken.meaning past) (spoken_in frame.body)
settled_by e _ past = None

-- ---- what the router opens

-- the session that an Out begin begins
abbrev pub opened_session : Event → List Event → Option Session
opened_session e past = option_and_then (λ spoken. session_begun e.connection spoken.channel e past) (out_spoken e)

-- the link that an Out attach with source and target opens on a live session
abbrev pub opened_link : Event → List Event → Option Link
opened_link e past = option_and_then (λ fields. option_and_then (λ s. link_opened s fields.handle e past) e.session) (out_attach e)

-- ---- in five steps: where the record stands, whether it is heard, its fault, the deliveries that it is of, and what it opens

abbrev pub placed : List Event → ℕ → Moment → Note → Event
placed past c moment note =
    let s = session_of c moment past in
    record {
      number = length past;
      connection = c;
      moment = moment;
      note = note;
      session = s;
      link = link_of moment past s;
      incoming = None;
      outgoing = None;
      told = None;
      settled = None;
      is_heard = false;
      fault = None;
    }

abbrev pub heard : List Event → Event → Event
heard past e = record e { is_heard = heard_by e e.moment past }

abbrev pub faulted : RuleSet → List Event → Event → Event
faulted rules past e = record e { fault = fault_by rules e e.moment past }

abbrev pub delivered : RuleSet → List Event → Event → Event
delivered rules past e = record e {
  incoming = incoming_by e e.moment past;
  outgoing = outgoing_by e e.moment past;
  told = told_by rules e e.moment past;
  settled = settled_by e e.moment past;
}

-- an Out begin stands on its own session, and an Out attach names its own link; any other event stays as it was
abbrev pub opened : List Event → Event → Event
opened past e = record e { session = or_else (opened_session e past) e.session; link = or_else (opened_link e past) e.link }

-- before the last step: the law can be asked there, since no clause reads what a begin or an attach opens
abbrev pub judge_unopened : RuleSet → List Event → ℕ → Moment → Note → Event
judge_unopened rules past c moment note = delivered rules past (faulted rules past (heard past (placed past c moment note)))

-- a moment of a connection, with its note, in its place
abbrev pub judge_moment : RuleSet → List Event → ℕ → Moment → Note → Event
judge_moment rules past c moment note = opened past (judge_unopened rules past c moment note)

-- a record in its place
abbrev pub judge : RuleSet → List Event → Record → Event
judge rules past r = judge_moment rules past r.connection (moment_of r.what) r.note

-- the events after these records, which follow those of past
abbrev pub continued : RuleSet → List Event → List Record → List Event
continued rules past [] = past
continued rules past (r ∷ rs) = continued rules (judge rules past r ∷ past) rs

-- the events of a capture's records, the newest first
abbrev pub history : RuleSet → List Record → List Event
history rules records = continued rules [] records

-- the events are those of some records
abbrev pub IsHistory : RuleSet → List Event → Type 0
IsHistory rules past = (records : List Record) × (past ≡ history rules records)
