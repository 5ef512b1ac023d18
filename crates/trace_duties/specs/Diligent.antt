-- What a router owes (own rules): whenever a client does something, and at the end, nothing is left that could be
-- written; each input is answered; and nothing else is written.
use Rattle.std.specs.Prelude.{ℕ, ◌-◌, Bool, true, false, ◌&&◌, ◌||◌, not, List, [], ◌∷◌, length, take, drop, reverse, is_some, option_map, bytes_eq, nat_lt, ◌==◌, if◌then◌else◌}
use Rattle.std.specs.List.{list_any}
use Rattle.amqp_perf.specs.declared.attach.Role.{Role}
use Rattle.amqp_perf.specs.declared.attach.Role.TheVariants.{Sender, Receiver}
use Rattle.amqp_perf.specs.declared.flow.Flow.{Flow}
use Rattle.amqp_perf.specs.Meaning.{Meaning, AFlow, ATransfer, ADisposition, TransferFields, DispositionFields}
use Rattle.capture_form.specs.declared.records.Record.{Record}
use Rattle.capture_form.specs.Rules.{RuleSet}
use Rattle.trace_events.specs.Words.{is_some_and, is_none_or, is_number}
use Rattle.trace_events.specs.Frame.{Frame, Spoken, spoken_in}
use Rattle.trace_events.specs.Event.{Event, Link, Incoming, Outgoing, Moment, Out, is_out, out_frame}
use Rattle.trace_events.specs.Connection.{frame_limit}
use Rattle.trace_events.specs.Link.{is_consumer}
use Rattle.trace_events.specs.Credit.{begins_outgoing}
use Rattle.trace_events.specs.Incoming as incoming
use Rattle.trace_events.specs.Incoming.{address_of, incoming_deliveries, completed_before}
use Rattle.trace_events.specs.Outgoing as outgoing
use Rattle.trace_events.specs.Outgoing.{outgoing_deliveries, noted, next_delivery_id}
use Rattle.trace_events.specs.Waiting.{is_of_multicast, is_waiting}
use Rattle.trace_events.specs.FlowClause.{may_be_topped_up, full_credit, may_be_drained, drained_count}
use Rattle.trace_duties.specs.Pick.{pick}
use Rattle.trace_events.specs.Written.{spoken_octets, first_part, next_part, written_transfer, written_outcome, written_settling, written_credit, written_count, written_session_flow}
use Rattle.trace_duties.specs.Answer.{answer}
use Rattle.trace_duties.specs.Quiet.{is_quiet, lacks_window}
use Rattle.trace_events.specs.History.{history}

-- ---- the answer to an input comes first

-- what was written since the last input, the newest first
abbrev pub group : List Event → List Event
group [] = []
group (e ∷ past) = let earlier = group past in if is_out e.moment then e ∷ earlier else []

-- the history up to the last input, which stands at its head
abbrev pub up_to_input : List Event → List Event
up_to_input [] = []
up_to_input (e ∷ past) = let earlier = up_to_input past in if is_out e.moment then earlier else e ∷ past

abbrev pub input_answer : RuleSet → List Event → List Spoken
input_answer rules [] = []
input_answer rules (e ∷ past) = answer rules e (e ∷ past)

-- the answer to the last input
abbrev pub last_answer : RuleSet → List Event → List Spoken
last_answer rules past = input_answer rules (up_to_input past)

-- the event writes this frame, octet by octet
abbrev pub writes : Event → Spoken → Bool
writes e spoken = is_some_and (out_frame e.moment) (λ frame. bytes_eq frame.octets (spoken_octets spoken))

abbrev pub is_on_connection_of : List Event → Event → Bool
is_on_connection_of [] e = false
is_on_connection_of (input ∷ past) e = e.connection == input.connection

-- the events begin with these frames, on the connection of the input
abbrev pub begin_with : List Event → List Spoken → List Event → Bool
begin_with from [] events = true
begin_with from (spoken ∷ answer) [] = false
begin_with from (spoken ∷ answer) (e ∷ events) = is_on_connection_of from e && writes e spoken && begin_with from answer events

abbrev pub is_answered : RuleSet → List Event → Bool
is_answered rules past = begin_with (up_to_input past) (last_answer rules past) (reverse (group past))

-- ---- each frame that is written

-- the delivery waits, and no other that was completed before it waits at its address
abbrev pub is_next_waiting : RuleSet → List Event → Incoming → Bool
is_next_waiting rules past d =
    is_waiting rules d past
    && not (list_any (λ other. bytes_eq (address_of other past) (address_of d past) && is_waiting rules other past && completed_before other d past) (incoming_deliveries past))

abbrev pub is_picked_link : RuleSet → List Event → Incoming → Link → Bool
is_picked_link rules past d l = is_number (pick rules (address_of d past) past) l.number

-- an anycast delivery that begins carries the next waiting one of its address, on the link that is picked
abbrev pub is_picked : RuleSet → Event → List Event → Bool
is_picked rules e past =
    not (begins_outgoing e)
    || is_none_or (noted e.note past) (λ d. is_of_multicast rules d past
    || is_next_waiting rules past d && is_some_and e.link (is_picked_link rules past d))

-- what of the incoming delivery is still to be carried
abbrev pub rest : Outgoing → Incoming → List Event → List ℕ
rest j d past = drop (length (outgoing.payload j past)) (incoming.payload d past)

-- a transfer takes as much of the rest as its frame may, and says whether more follows
abbrev pub room : Event → Link → (Bool → TransferFields) → List Event → ℕ
room e l fields past = frame_limit e.connection past - length (spoken_octets (written_transfer l (fields true) []))

abbrev pub filled : Event → Link → (Bool → TransferFields) → List ℕ → List Event → Spoken
filled e l fields octets past =
    written_transfer l (fields (nat_lt (room e l fields past) (length octets))) (take (room e l fields past) octets)

-- the fields of the next transfer of a delivery, but for more
abbrev pub transfer_fields : Event → Link → Incoming → List Event → Bool → TransferFields
transfer_fields e l d past more =
    if begins_outgoing e then first_part l (next_delivery_id l.session past) d.format more else next_part l more

abbrev pub is_filled : Event → List Event → Outgoing → Incoming → Link → Bool
is_filled e past j d l = writes e (filled e l (transfer_fields e l d past) (rest j d past) past)

abbrev pub is_filled_transfer : Event → List Event → Bool
is_filled_transfer e past =
    is_some_and e.outgoing (λ j. is_some_and (noted j.note past) (λ d. is_some_and e.link (is_filled e past j d)))

-- an outcome or a settling has nothing but its own fields
abbrev pub disposition_as_written : ℕ → DispositionFields → Role → Spoken
disposition_as_written channel fields Receiver = written_outcome channel fields.first (option_map (λ state. state.octets) fields.state)
disposition_as_written channel fields Sender = written_settling channel fields.first

-- a flow gives a producer's link its credit, or answers a drain
abbrev pub is_owed_on : RuleSet → Event → List Event → Link → Bool
is_owed_on rules e past l =
    if is_consumer l then may_be_drained rules past l && writes e (written_count l (drained_count past l) 0 past)
    else may_be_topped_up rules past l && writes e (written_credit l (full_credit rules past l) past)

-- or gives a session its window
abbrev pub is_owed_flow : RuleSet → Event → Flow → List Event → Bool
is_owed_flow rules e flow past =
    if is_some flow.handle then is_some_and e.link (is_owed_on rules e past)
    else is_some_and e.session (λ s. lacks_window past s && writes e (written_session_flow s past))

-- an outcome, a settling, a transfer, or a flow that is owed, each as it is to be written
abbrev pub is_called_for : RuleSet → Event → ℕ → List Event → Meaning → Bool
is_called_for rules e channel past (ADisposition fields) = writes e (disposition_as_written channel fields fields.role)
is_called_for rules e channel past (ATransfer fields) = is_filled_transfer e past
is_called_for rules e channel past (AFlow flow) = is_owed_flow rules e flow past
is_called_for rules e channel past _ = false

-- it stands where the answer to the last input does; `is_answered` compares the two
abbrev pub is_of_answer : RuleSet → List Event → Bool
is_of_answer rules past = nat_lt (length (group past)) (length (last_answer rules past))

abbrev pub is_due_frame : RuleSet → Event → Frame → List Event → Bool
is_due_frame rules e frame past =
    is_of_answer rules past
    || is_some_and (spoken_in frame.body) (λ spoken. is_called_for rules e spoken.channel past spoken.meaning)

-- ---- all of it

-- before an input nothing is left, and the last one is answered; a frame that is written is due, and goes where it is to
abbrev pub moment_keeps : RuleSet → Event → List Event → Moment → Bool
moment_keeps rules e past (Out frame) = is_picked rules e past && is_due_frame rules e frame past
moment_keeps rules e past _ = is_quiet rules past && is_answered rules past

abbrev pub all_keep : RuleSet → List Event → Bool
all_keep rules [] = true
all_keep rules (e ∷ past) = let earlier = all_keep rules past in moment_keeps rules e past e.moment && earlier

-- each event keeps this, and nothing is left at the end
abbrev pub is_diligent_history : RuleSet → List Event → Bool
is_diligent_history rules past = all_keep rules past && is_quiet rules past && is_answered rules past

abbrev pub is_diligent : RuleSet → List Record → Bool
is_diligent rules records = is_diligent_history rules (history rules records)
