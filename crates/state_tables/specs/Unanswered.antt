-- What of a channel is still to be answered, by the router or by its client.
use Rattle.std.specs.Prelude.{ℕ, Bool, false, ◌&&◌, ◌||◌, not, List, Option, None, is_some, is_none, if◌then◌else◌}
use Rattle.amqp_perf.specs.declared.begin.Begin.{Begin}
use Rattle.trace_events.specs.Event.{Event}
use Rattle.trace_events.specs.Said.{in_begin, out_begin, is_in_end, is_out_end}
use Rattle.trace_events.specs.Session as law
use Rattle.state_tables.specs.declared.unanswered.Unanswered.{Unanswered}

-- no begin, and no end
abbrev pub nothing : Unanswered
nothing = record { begin = None; owes_end = false; awaits_end = false }

abbrev pub is_nothing : Unanswered → Bool
is_nothing x = is_none x.begin && not x.owes_end && not x.awaits_end

-- the client's last begin, where one is still to be answered
abbrev pub begin_to_answer : ℕ → ℕ → List Event → Option Begin
begin_to_answer c channel past = if law.has_unanswered_begin c channel past then law.last_in_begin c channel past else None

-- what the law says of a channel
abbrev pub unanswered_at : ℕ → ℕ → List Event → Unanswered
unanswered_at c channel past = record {
  begin = begin_to_answer c channel past;
  owes_end = law.owes_end c channel past;
  awaits_end = law.awaits_end c channel past;
}

-- A begin without fault is to be answered; behind one any begin counts, whatever its fault.
abbrev pub begin_next : Event → Option Begin → Option Begin
begin_next e earlier =
    if is_some (out_begin e) then None
    else if is_some (in_begin e) && (is_some earlier || e.is_heard && is_none e.fault) then in_begin e else earlier

-- The client's end of a live session is to be answered.
abbrev pub owes_end_next : Event → Bool → Bool
owes_end_next e earlier = if is_out_end e then false else is_in_end e && is_some e.session || earlier

-- The router's end of a live session is to be answered by the client.
abbrev pub awaits_end_next : Event → Bool → Bool
awaits_end_next e earlier = if is_some (out_begin e) || is_in_end e then false else if is_out_end e then is_some e.session else earlier

-- with one more event of the channel
abbrev pub unanswered_next : Event → Unanswered → Unanswered
unanswered_next e x = record {
  begin = begin_next e x.begin;
  owes_end = owes_end_next e x.owes_end;
  awaits_end = awaits_end_next e x.awaits_end;
}
