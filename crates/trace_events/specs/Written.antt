-- The frames that the router writes, as octets: each has the fields that are named here and no other, in shortest form
-- (part 2 of the standard, sections 2.3 and 2.7; which fields are written is an own rule).
use Rattle.std.specs.Prelude.{ℕ, Bool, false, List, [], ◌++◌, Option, Some, None}
use Rattle.std.specs.Int.{w32, to_be_bytes}
use Rattle.amqp_perf.specs.declared.condition.ErrorCondition.{ErrorCondition}
use Rattle.amqp_perf.specs.declared.flow.Flow.{Flow}
use Rattle.amqp_perf.specs.Conditions.{condition_name}
use Rattle.amqp_perf.specs.Nested.{StateFields}
use Rattle.amqp_perf.specs.Meaning.{Meaning, AnOpen, ABegin, AFlow, ATransfer, ADisposition, ADetach, AnEnd, AClose, TransferFields}
use Rattle.amqp_perf.specs.Router.{router_open, begin_answer, detach_with, session_flow, link_flow, first_transfer, later_transfer, outcome_told, settling}
use Rattle.amqp_perf.specs.Writing.{performative_octets}
use Rattle.amqp_frames.specs.declared.frame.FrameKind.TheVariants as kinds
use Rattle.amqp_frames.specs.Writing.{frame_octets}
use Rattle.trace_events.specs.Frame.{Spoken}
use Rattle.trace_events.specs.Event.{Event, Link}
use Rattle.trace_events.specs.declared.session.Session.{Session}
use Rattle.trace_events.specs.Window.{next_outgoing_id, next_incoming_id}
use Rattle.trace_events.specs.Credit.{is_draining, received_count}

-- a performative as a frame
unfoldable pub spoken_octets : Spoken → List ℕ
spoken_octets spoken = frame_octets kinds.Amqp spoken.channel (performative_octets spoken.meaning ++ spoken.payload)

-- a performative without payload
abbrev pub says : ℕ → Meaning → Spoken
says channel meaning = record { channel = channel; meaning = meaning; payload = [] }

-- ---- the connection: on channel 0

abbrev pub written_open : Spoken
written_open = says 0 (AnOpen router_open)

-- an error's condition, alone
abbrev pub error_of : Option ErrorCondition → Option (List ℕ)
error_of None = None
error_of (Some condition) = Some (condition_name condition)

abbrev pub written_close : Option ErrorCondition → Spoken
written_close condition = says 0 (AClose (error_of condition))

-- ---- the session

abbrev pub written_begin : ℕ → Spoken
written_begin channel = says channel (ABegin (begin_answer channel))

abbrev pub written_end : ℕ → Option ErrorCondition → Spoken
written_end channel condition = says channel (AnEnd (error_of condition))

-- ---- the link: attaches are those of `amqp_perf`

abbrev pub written_detach : ℕ → ℕ → Bool → Option ErrorCondition → Spoken
written_detach channel handle closed condition = says channel (ADetach (detach_with handle closed condition))

-- ---- flows: the session's numbers, and those of a link

abbrev pub session_numbers : Session → List Event → Flow
session_numbers s past = session_flow (next_incoming_id s past) (next_outgoing_id s past)

abbrev pub link_numbers : Link → ℕ → ℕ → Bool → List Event → Flow
link_numbers l count credit drains past = link_flow (session_numbers l.session past) l.handle count credit drains

abbrev pub written_session_flow : Session → List Event → Spoken
written_session_flow s past = says s.channel (AFlow (session_numbers s past))

-- to a producer, with this credit
abbrev pub written_credit : Link → ℕ → List Event → Spoken
written_credit l credit past = says l.session.channel (AFlow (link_numbers l (received_count l past) credit false past))

-- to a consumer, with this delivery-count and link-credit; drain where the link is draining
abbrev pub written_count : Link → ℕ → ℕ → List Event → Spoken
written_count l count credit past = says l.session.channel (AFlow (link_numbers l count credit (is_draining l past) past))

-- ---- transfers

-- the tag of a delivery is its id in four octets
abbrev pub first_part : Link → ℕ → ℕ → Bool → TransferFields
first_part l id format more = first_transfer l.handle id (to_be_bytes w32 id) format l.is_pre_settled more

abbrev pub next_part : Link → Bool → TransferFields
next_part l more = later_transfer l.handle more

abbrev pub written_transfer : Link → TransferFields → List ℕ → Spoken
written_transfer l fields octets = record { channel = l.session.channel; meaning = ATransfer fields; payload = octets }

-- ---- dispositions

-- a state that is written has its octets alone
abbrev pub state_of : Option (List ℕ) → Option StateFields
state_of None = None
state_of (Some octets) = Some (record { octets = octets; outcome = None })

-- the outcome of the delivery of this id
abbrev pub written_outcome : ℕ → ℕ → Option (List ℕ) → Spoken
written_outcome channel id state = says channel (ADisposition (outcome_told id (state_of state)))

-- the settling of the delivery of this id
abbrev pub written_settling : ℕ → ℕ → Spoken
written_settling channel id = says channel (ADisposition (settling id))
