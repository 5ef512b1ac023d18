-- What an event says: the performative that a frame is, by its kind (part 2 of the standard, section 2.7).
use Rattle.std.specs.Prelude.{ℕ, Bool, true, false, Option, Some, None, option_and_then, option_map}
use Rattle.amqp_perf.specs.declared.begin.Begin.{Begin}
use Rattle.amqp_perf.specs.declared.flow.Flow.{Flow}
use Rattle.amqp_perf.specs.Meaning.{Meaning, AnOpen, ABegin, AnAttach, AFlow, ATransfer, ADisposition, ADetach, AnEnd, AClose, OpenFields, AttachFields, TransferFields, DispositionFields, DetachFields}
use Rattle.trace_events.specs.Words.{is_some_and}
use Rattle.trace_events.specs.Frame.{Spoken, spoken_in}
use Rattle.trace_events.specs.Event.{Event, in_frame, out_frame}

-- ---- performatives in either direction

abbrev pub in_spoken : Event → Option Spoken
in_spoken e = option_and_then (λ frame. spoken_in frame.body) (in_frame e.moment)

abbrev pub out_spoken : Event → Option Spoken
out_spoken e = option_and_then (λ frame. spoken_in frame.body) (out_frame e.moment)

abbrev pub in_meaning : Event → Option Meaning
in_meaning e = option_map (λ spoken. spoken.meaning) (in_spoken e)

abbrev pub out_meaning : Event → Option Meaning
out_meaning e = option_map (λ spoken. spoken.meaning) (out_spoken e)

-- ---- their kinds

abbrev pub as_open : Meaning → Option OpenFields
as_open (AnOpen fields) = Some fields
as_open _ = None

abbrev pub as_begin : Meaning → Option Begin
as_begin (ABegin begin) = Some begin
as_begin _ = None

abbrev pub as_attach : Meaning → Option AttachFields
as_attach (AnAttach fields) = Some fields
as_attach _ = None

abbrev pub as_flow : Meaning → Option Flow
as_flow (AFlow flow) = Some flow
as_flow _ = None

abbrev pub as_transfer : Meaning → Option TransferFields
as_transfer (ATransfer fields) = Some fields
as_transfer _ = None

abbrev pub as_disposition : Meaning → Option DispositionFields
as_disposition (ADisposition fields) = Some fields
as_disposition _ = None

abbrev pub as_detach : Meaning → Option DetachFields
as_detach (ADetach fields) = Some fields
as_detach _ = None

abbrev pub is_end : Meaning → Bool
is_end (AnEnd error) = true
is_end _ = false

abbrev pub is_close : Meaning → Bool
is_close (AClose error) = true
is_close _ = false

abbrev pub in_open : Event → Option OpenFields
in_open e = option_and_then as_open (in_meaning e)

abbrev pub in_begin : Event → Option Begin
in_begin e = option_and_then as_begin (in_meaning e)

abbrev pub in_attach : Event → Option AttachFields
in_attach e = option_and_then as_attach (in_meaning e)

abbrev pub in_flow : Event → Option Flow
in_flow e = option_and_then as_flow (in_meaning e)

abbrev pub in_transfer : Event → Option TransferFields
in_transfer e = option_and_then as_transfer (in_meaning e)

abbrev pub in_disposition : Event → Option DispositionFields
in_disposition e = option_and_then as_disposition (in_meaning e)

abbrev pub in_detach : Event → Option DetachFields
in_detach e = option_and_then as_detach (in_meaning e)

abbrev pub out_open : Event → Option OpenFields
out_open e = option_and_then as_open (out_meaning e)

abbrev pub out_begin : Event → Option Begin
out_begin e = option_and_then as_begin (out_meaning e)

abbrev pub out_attach : Event → Option AttachFields
out_attach e = option_and_then as_attach (out_meaning e)

abbrev pub out_flow : Event → Option Flow
out_flow e = option_and_then as_flow (out_meaning e)

abbrev pub out_transfer : Event → Option TransferFields
out_transfer e = option_and_then as_transfer (out_meaning e)

abbrev pub out_disposition : Event → Option DispositionFields
out_disposition e = option_and_then as_disposition (out_meaning e)

abbrev pub out_detach : Event → Option DetachFields
out_detach e = option_and_then as_detach (out_meaning e)

abbrev pub is_in_end : Event → Bool
is_in_end e = is_some_and (in_meaning e) is_end

abbrev pub is_out_end : Event → Bool
is_out_end e = is_some_and (out_meaning e) is_end

abbrev pub is_in_close : Event → Bool
is_in_close e = is_some_and (in_meaning e) is_close

abbrev pub is_out_close : Event → Bool
is_out_close e = is_some_and (out_meaning e) is_close

-- the handle that a flow, a transfer or a detach names
abbrev pub handle_in : Meaning → Option ℕ
handle_in (AFlow flow) = flow.handle
handle_in (ATransfer fields) = Some fields.handle
handle_in (ADetach fields) = Some fields.handle
handle_in _ = None
