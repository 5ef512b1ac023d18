-- The direct answer to what a client does: the frames that are written first (own rules, by part 2 of the standard).
use Rattle.std.specs.Prelude.{ℕ, true, List, [], ◌∷◌, Option, Some, None, unwrap_or, if◌then◌else◌}
use Rattle.amqp_perf.specs.declared.attach.Role.{Role}
use Rattle.amqp_perf.specs.declared.attach.Role.TheVariants.{Sender, Receiver}
use Rattle.amqp_perf.specs.declared.condition.ErrorCondition.{ErrorCondition}
use Rattle.amqp_perf.specs.declared.condition.ErrorCondition.TheVariants.{FramingError}
use Rattle.amqp_perf.specs.declared.flow.Flow.{Flow}
use Rattle.amqp_perf.specs.Meaning.{Meaning, AnOpen, ABegin, AnAttach, AFlow, ATransfer, ADisposition, ADetach, AnEnd, AClose, AttachFields, flag, sender_mode}
use Rattle.amqp_perf.specs.Nested.{ATerminus}
use Rattle.amqp_perf.specs.Router.{bare_terminus, attach_to_producer, attach_to_consumer, attach_refused}
use Rattle.capture_form.specs.Rules.{RuleSet}
use Rattle.trace_events.specs.declared.fault.Fault.{Fault}
use Rattle.trace_events.specs.declared.fault.Fault.TheVariants.{Close, End, Refuse, Detach}
use Rattle.trace_events.specs.Words.{is_some_and}
use Rattle.trace_events.specs.Frame.{Body, Says, Spoken}
use Rattle.trace_events.specs.Event.{Event, Link, Moment, In, Broken}
use Rattle.trace_events.specs.declared.session.Session.{Session}
use Rattle.trace_events.specs.Said.{handle_in}
use Rattle.trace_events.specs.Connection.{has_out_open, has_out_close}
use Rattle.trace_events.specs.Link.{is_consumer}
use Rattle.trace_events.specs.Credit.{delivery_count, link_credit, given_credit}
use Rattle.trace_events.specs.Written.{says, written_open, written_close, written_begin, written_end, written_detach, written_session_flow, written_credit, written_count}
use Rattle.trace_events.specs.LinkClause.{has_dynamic_source, is_without_address, asked_address}

-- `past` has the event that is answered at its head.

-- a close, behind an open where none was written yet (part 2, section 2.4.3)
abbrev pub closing : ℕ → Option ErrorCondition → List Event → List Spoken
closing c condition past =
    if has_out_open c past then written_close condition ∷ [] else written_open ∷ written_close condition ∷ []

-- ---- of a frame without fault

-- to an anonymous sender: as to any producer, with a target without address
abbrev pub attach_to_anonymous : AttachFields → AttachFields
attach_to_anonymous theirs = record (attach_to_producer theirs []) { target = Some (ATerminus bare_terminus) }

abbrev pub attach_answer : ℕ → AttachFields → Role → AttachFields
attach_answer number theirs Sender =
    if is_some_and theirs.target is_without_address then attach_to_anonymous theirs else attach_to_producer theirs (asked_address number theirs)
attach_answer number theirs Receiver =
    attach_to_consumer theirs (asked_address number theirs) (has_dynamic_source theirs) (sender_mode theirs)

-- the numbers of a live link
abbrev pub link_flow : Link → List Event → Spoken
link_flow l past =
    if is_consumer l then written_count l (delivery_count l past) (link_credit l past) past else written_credit l (given_credit l past) past

-- a flow with echo is answered by the link's numbers, or by the session's alone (2.7.4)
abbrev pub flow_on : Session → Option Link → List Event → Spoken
flow_on s (Some l) past = link_flow l past
flow_on s None past = written_session_flow s past

abbrev pub echo_on : Option Session → Option Link → Flow → List Event → List Spoken
echo_on None l flow past = []
echo_on (Some s) l flow past = if flag flow.echo then flow_on s l past ∷ [] else []

abbrev pub plain_answer : RuleSet → Event → ℕ → Meaning → List Event → List Spoken
plain_answer rules e channel (AnOpen fields) past = written_open ∷ []
plain_answer rules e channel (ABegin begin) past = written_begin channel ∷ []
plain_answer rules e channel (AnAttach fields) past = says channel (AnAttach (attach_answer e.number fields fields.role)) ∷ []
plain_answer rules e channel (AFlow flow) past = echo_on e.session e.link flow past
plain_answer rules e channel (ATransfer fields) past = []
plain_answer rules e channel (ADisposition fields) past = []
plain_answer rules e channel (ADetach fields) past = written_detach channel fields.handle (flag fields.closed) None ∷ []
plain_answer rules e channel (AnEnd error) past = written_end channel None ∷ []
plain_answer rules e channel (AClose error) past = closing e.connection None past

-- ---- of a fault

abbrev pub refusal : ℕ → ErrorCondition → Meaning → List Spoken
refusal channel condition (AnAttach fields) =
    says channel (AnAttach (attach_refused fields)) ∷ written_detach channel fields.handle true (Some condition) ∷ []
refusal channel condition _ = []

abbrev pub fault_answer : Event → ℕ → Meaning → Fault → List Event → List Spoken
fault_answer e channel meaning (Close condition) past = closing e.connection (Some condition) past
fault_answer e channel meaning (End condition) past = written_end channel (Some condition) ∷ []
fault_answer e channel meaning (Refuse condition) past = refusal channel condition meaning
fault_answer e channel meaning (Detach condition) past =
    written_detach channel (unwrap_or (handle_in meaning) 0) true (Some condition) ∷ []

abbrev pub heard_answer : RuleSet → Event → ℕ → Meaning → Option Fault → List Event → List Spoken
heard_answer rules e channel meaning None past = plain_answer rules e channel meaning past
heard_answer rules e channel meaning (Some fault) past = fault_answer e channel meaning fault past

-- of a frame that is passed over: the echo of a flow on a handle whose detach is awaited, which has no link
abbrev pub passed_answer : Event → Meaning → List Event → List Spoken
passed_answer e (AFlow flow) past = echo_on e.session e.link flow past
passed_answer e _ past = []

-- of octets that are no frame, or begin with no performative
abbrev pub unread_answer : Event → Option Fault → List Event → List Spoken
unread_answer e (Some (Close condition)) past = closing e.connection (Some condition) past
unread_answer e _ past = []

abbrev pub body_answer : RuleSet → Event → Body → List Event → List Spoken
body_answer rules e (Says spoken) past =
    if e.is_heard then heard_answer rules e spoken.channel spoken.meaning e.fault past else passed_answer e spoken.meaning past
body_answer rules e _ past = unread_answer e e.fault past

abbrev pub moment_answer : RuleSet → Event → Moment → List Event → List Spoken
moment_answer rules e (In frame) past = body_answer rules e frame.body past
moment_answer rules e Broken past =
    if has_out_close e.connection past then [] else closing e.connection (Some FramingError) past
moment_answer rules e _ past = []

-- the frames, in order, on the event's connection
abbrev pub answer : RuleSet → Event → List Event → List Spoken
answer rules e past = moment_answer rules e e.moment past
