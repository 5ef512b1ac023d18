-- A direct answer has no transfer, and a frame that is none begins no delivery.
use Rattle.std.proofs.Common.{◌≡◌, refl, ℕ, Bool, true, false, List, [], ◌∷◌, Option, Some, None, if◌then◌else◌}
use Rattle.amqp_perf.specs.declared.attach.Role.{Role}
use Rattle.amqp_perf.specs.declared.attach.Role.TheVariants.{Sender, Receiver}
use Rattle.amqp_perf.specs.declared.condition.ErrorCondition.{ErrorCondition}
use Rattle.amqp_perf.specs.declared.condition.ErrorCondition.TheVariants.{FramingError}
use Rattle.amqp_perf.specs.declared.flow.Flow.{Flow}
use Rattle.amqp_perf.specs.Meaning.{Meaning, AnOpen, ABegin, AnAttach, AFlow, ATransfer, ADisposition, ADetach, AnEnd, AClose, flag}
use Rattle.capture_form.specs.Rules.{RuleSet}
use Rattle.trace_events.specs.declared.fault.Fault.{Fault}
use Rattle.trace_events.specs.declared.fault.Fault.TheVariants.{Close, End, Refuse, Detach}
use Rattle.trace_events.specs.declared.session.Session.{Session}
use Rattle.trace_events.specs.Frame.{Body, NoFrame, Empty, NoPerformative, Says, Spoken}
use Rattle.trace_events.specs.Event.{Event, Link, Moment, Opened, In, Out, Lost, Broken}
use Rattle.trace_events.specs.Connection.{has_out_open, has_out_close}
use Rattle.trace_events.specs.Credit.{begins_outgoing, delivery_count, link_credit, given_credit}
use Rattle.trace_events.specs.Written.{written_open, written_close, written_credit, written_count}
use Rattle.trace_events.specs.Link.{is_consumer}
use Rattle.trace_events.specs.Said.{as_transfer}
use Rattle.trace_duties.specs.Answer.{answer, closing, link_flow, flow_on, echo_on, plain_answer, refusal, fault_answer, heard_answer, passed_answer, unread_answer, body_answer, moment_answer}
use Rattle.pairing_cert.specs.declared.note.Note.{Note}
use Rattle.route_dues.specs.Writing.{writing}
use Rattle.route_dues.specs.Steps.{AreNoTransfers}

-- ---- a frame that is no transfer

pub begins_nothing : (rules : RuleSet) (past : List Event) (c : ℕ) (told : Note) (channel : ℕ) (m : Meaning) (payload : List ℕ) → as_transfer m ≡ None
    → begins_outgoing (writing rules past c told (record { channel = channel; meaning = m; payload = payload })) ≡ false
begins_nothing rules past c told channel (ATransfer x) payload none = absurd cc
begins_nothing rules past c told channel (AnOpen x) payload none = refl
begins_nothing rules past c told channel (ABegin x) payload none = refl
begins_nothing rules past c told channel (AnAttach x) payload none = refl
begins_nothing rules past c told channel (AFlow x) payload none = refl
begins_nothing rules past c told channel (ADisposition x) payload none = refl
begins_nothing rules past c told channel (ADetach x) payload none = refl
begins_nothing rules past c told channel (AnEnd x) payload none = refl
begins_nothing rules past c told channel (AClose x) payload none = refl

-- ---- an answer

either : (b : Bool) (xs ys : List Spoken) → AreNoTransfers xs → AreNoTransfers ys → AreNoTransfers (if b then xs else ys)
either true xs ys left right = left
either false xs ys left right = right

plain_either : (b : Bool) (s t : Spoken) → as_transfer s.meaning ≡ None → as_transfer t.meaning ≡ None → as_transfer (if b then s else t).meaning ≡ None
plain_either true s t left right = left
plain_either false s t left right = right

closing_plain : (c : ℕ) (condition : Option ErrorCondition) (past : List Event) → AreNoTransfers (closing c condition past)
closing_plain c condition past =
    either (has_out_open c past) (written_close condition ∷ []) (written_open ∷ written_close condition ∷ []) (refl, tt) (refl, (refl, tt))

flow_plain : (s : Session) (l : Option Link) (past : List Event) → as_transfer (flow_on s l past).meaning ≡ None
flow_plain s None past = refl
flow_plain s (Some l) past =
    plain_either (is_consumer l) (written_count l (delivery_count l past) (link_credit l past) past) (written_credit l (given_credit l past) past) refl refl

echo_plain : (s : Option Session) (l : Option Link) (flow : Flow) (past : List Event) → AreNoTransfers (echo_on s l flow past)
echo_plain None l flow past = tt
echo_plain (Some s) l flow past = either (flag flow.echo) (flow_on s l past ∷ []) [] (flow_plain s l past, tt) tt

plain : (rules : RuleSet) (e : Event) (channel : ℕ) (m : Meaning) (past : List Event) → AreNoTransfers (plain_answer rules e channel m past)
plain rules e channel (AnOpen fields) past = (refl, tt)
plain rules e channel (ABegin begin) past = (refl, tt)
plain rules e channel (AnAttach fields) past = (refl, tt)
plain rules e channel (AFlow flow) past = echo_plain e.session e.link flow past
plain rules e channel (ATransfer fields) past = tt
plain rules e channel (ADisposition fields) past = tt
plain rules e channel (ADetach fields) past = (refl, tt)
plain rules e channel (AnEnd error) past = (refl, tt)
plain rules e channel (AClose error) past = closing_plain e.connection None past

refused : (channel : ℕ) (condition : ErrorCondition) (m : Meaning) → AreNoTransfers (refusal channel condition m)
refused channel condition (AnAttach fields) = (refl, (refl, tt))
refused channel condition (AnOpen fields) = tt
refused channel condition (ABegin begin) = tt
refused channel condition (AFlow flow) = tt
refused channel condition (ATransfer fields) = tt
refused channel condition (ADisposition fields) = tt
refused channel condition (ADetach fields) = tt
refused channel condition (AnEnd error) = tt
refused channel condition (AClose error) = tt

heard : (rules : RuleSet) (e : Event) (channel : ℕ) (m : Meaning) (fault : Option Fault) (past : List Event) → AreNoTransfers (heard_answer rules e channel m fault past)
heard rules e channel m None past = plain rules e channel m past
heard rules e channel m (Some (Close condition)) past = closing_plain e.connection (Some condition) past
heard rules e channel m (Some (End condition)) past = (refl, tt)
heard rules e channel m (Some (Refuse condition)) past = refused channel condition m
heard rules e channel m (Some (Detach condition)) past = (refl, tt)

passed : (e : Event) (m : Meaning) (past : List Event) → AreNoTransfers (passed_answer e m past)
passed e (AFlow flow) past = echo_plain e.session e.link flow past
passed e (AnOpen fields) past = tt
passed e (ABegin begin) past = tt
passed e (AnAttach fields) past = tt
passed e (ATransfer fields) past = tt
passed e (ADisposition fields) past = tt
passed e (ADetach fields) past = tt
passed e (AnEnd error) past = tt
passed e (AClose error) past = tt

unread : (e : Event) (fault : Option Fault) (past : List Event) → AreNoTransfers (unread_answer e fault past)
unread e None past = tt
unread e (Some (Close condition)) past = closing_plain e.connection (Some condition) past
unread e (Some (End condition)) past = tt
unread e (Some (Refuse condition)) past = tt
unread e (Some (Detach condition)) past = tt

in_body : (rules : RuleSet) (e : Event) (body : Body) (past : List Event) → AreNoTransfers (body_answer rules e body past)
in_body rules e (Says spoken) past =
    either e.is_heard (heard_answer rules e spoken.channel spoken.meaning e.fault past) (passed_answer e spoken.meaning past)
    (heard rules e spoken.channel spoken.meaning e.fault past) (passed e spoken.meaning past)
in_body rules e NoFrame past = unread e e.fault past
in_body rules e (Empty channel) past = unread e e.fault past
in_body rules e (NoPerformative channel) past = unread e e.fault past

at_moment : (rules : RuleSet) (e : Event) (m : Moment) (past : List Event) → AreNoTransfers (moment_answer rules e m past)
at_moment rules e (In frame) past = in_body rules e frame.body past
at_moment rules e Broken past = either (has_out_close e.connection past) [] (closing e.connection (Some FramingError) past) tt (closing_plain e.connection (Some FramingError) past)
at_moment rules e Opened past = tt
at_moment rules e (Out frame) past = tt
at_moment rules e Lost past = tt

pub answer_plain : (rules : RuleSet) (e : Event) (past : List Event) → AreNoTransfers (answer rules e past)
answer_plain rules e past = at_moment rules e e.moment past
