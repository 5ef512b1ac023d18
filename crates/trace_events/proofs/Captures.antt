-- Captures as literals, and what the law computes of them.
use Rattle.std.specs.Prelude.{ℕ, List, [], ◌∷◌, ◌++◌, replicate, map, find, Bool, false, Option, Some, None, option_map, unwrap_or, Result, ◌==◌}
use Rattle.std.specs.Fmt.{digits}
use Rattle.amqp_perf.proofs.Opened.{read, written}
use Rattle.amqp_frames.specs.Writing.{frame_octets}
use Rattle.amqp_frames.specs.Reading.{whole_frame, frame_at, sized_frame, headed_frame}
use Rattle.pairing_cert.specs.declared.note.Note.TheVariants as notes
use Rattle.pairing_cert.specs.declared.note.Why.{Why}
use Rattle.capture_form.specs.declared.records.Record.{Record}
use Rattle.capture_form.specs.declared.records.What.TheVariants as whats
use Rattle.capture_form.specs.declared.rules.Distribution.{Distribution}
use Rattle.capture_form.specs.declared.rules.Form.TheVariants.{One}
use Rattle.capture_form.specs.Rules.{RuleText, RuleSet}
use Rattle.trace_events.specs.declared.clause.Clause.{Clause}
use Rattle.trace_events.specs.declared.fault.Fault.{Fault}
use Rattle.trace_events.specs.Frame.{frame_read}
use Rattle.trace_events.specs.Words.{is_some_and}
use Rattle.trace_events.specs.Event.{Event, Incoming, Outgoing}
use Rattle.trace_events.specs.Link.{link_at}
use Rattle.trace_events.specs.Incoming.{incoming_at}
use Rattle.trace_events.specs.Outgoing.{outgoing_deliveries}
use Rattle.trace_events.specs.Queue.{pairs, stays, completed_deliveries, waiting_queue}
use Rattle.trace_events.specs.Decided.{decides, decided_count, begins_undecided}
use Rattle.trace_events.specs.Work.{deliveries_to_settle, stands_unsettled, carries_closed, keeps_unsettled, decides_now, closes_incoming, comes_to_settle, unsent_copies, comes_due}
use Rattle.flow_counts.specs.Parts.{PartEvent}
use Rattle.trace_events.specs.declared.session.Session.{Session}
use Rattle.trace_events.specs.Session.{session_at}
use Rattle.trace_events.specs.Parts.{part_events}
use Rattle.trace_events.specs.History.{history, judge}
use Rattle.trace_events.specs.Clauses.{first_broken}
use Rattle.trace_events.specs.Telling.{outcomes_to_tell, is_answered, has_outcome, answers_now, gets_outcome}
use Rattle.trace_events.specs.Written.{spoken_octets}
use Rattle.trace_events.specs.declared.tally.Tally.{Tally}
use Rattle.trace_events.specs.Verdict.{verdict}

abbrev pub rule : Distribution → List ℕ → RuleText
rule distribution prefix = record { distribution = distribution; prefix = prefix }

-- these rules in the form without a mark
abbrev pub unmarked : List RuleText → RuleSet
unmarked list = record { form = One; list = list }

-- ---- records

abbrev pub opened : ℕ → Record
opened c = record { connection = c; what = whats.Opened; note = notes.None }

abbrev pub lost : ℕ → Record
lost c = record { connection = c; what = whats.Lost; note = notes.None }

abbrev pub broken : ℕ → Record
broken c = record { connection = c; what = whats.Broken; note = notes.None }

-- a frame of a client, and what the router writes, alone or with a note
abbrev pub client : ℕ → List ℕ → Record
client c octets = record { connection = c; what = whats.In octets; note = notes.None }

abbrev pub router : ℕ → List ℕ → Record
router c octets = record { connection = c; what = whats.Out octets; note = notes.None }

abbrev pub paired : ℕ → ℕ → List ℕ → Record
paired c n octets = record { connection = c; what = whats.Out octets; note = notes.Pair n }

abbrev pub told : ℕ → Why → List ℕ → Record
told c why octets = record { connection = c; what = whats.Out octets; note = notes.Told why }

-- the fault of the last event
abbrev pub last_fault : List Event → Option Fault
last_fault [] = None
last_fault (e ∷ past) = e.fault

abbrev pub last_heard : List Event → Bool
last_heard [] = false
last_heard (e ∷ past) = e.is_heard

-- the fault of a record behind n events that are all as the first of them
abbrev pub fault_again : RuleSet → ℕ → Record → List Event → Option Fault
fault_again rules n r past = (judge rules (replicate n (judge rules past r) ++ past) r).fault

-- ---- what the law says of them: the reading and the writing of octets are opened here, once

unfoldable pub verdict_of : List RuleText → List Record → Result Tally (ℕ × Clause)
unfolding frame_read whole_frame frame_at sized_frame headed_frame read digits spoken_octets frame_octets written
verdict_of rules records = verdict (unmarked rules) records

unfoldable pub broken_of : List RuleText → List Record → Option (ℕ × Clause)
unfolding frame_read whole_frame frame_at sized_frame headed_frame read digits spoken_octets frame_octets written
broken_of rules records = first_broken (unmarked rules) (history (unmarked rules) records)

unfoldable pub fault_of : List RuleText → List Record → Option Fault
unfolding frame_read whole_frame frame_at sized_frame headed_frame read digits spoken_octets frame_octets written
fault_of rules records = last_fault (history (unmarked rules) records)

unfoldable pub is_last_heard : List RuleText → List Record → Bool
unfolding frame_read whole_frame frame_at sized_frame headed_frame read digits spoken_octets frame_octets written
is_last_heard rules records = last_heard (history (unmarked rules) records)

-- the same of a record behind so many equal ones
unfoldable pub fault_behind : List RuleText → List Record → ℕ → Record → Option Fault
unfolding frame_read whole_frame frame_at sized_frame headed_frame read digits spoken_octets frame_octets written
fault_behind rules records n record_again = fault_again (unmarked rules) n record_again (history (unmarked rules) records)

-- what moved the deliveries of the session that began in this record
abbrev pub parts_of_one : RuleSet → Option Session → List Event → List PartEvent
parts_of_one rules None past = []
parts_of_one rules (Some s) past = part_events rules s past

unfoldable pub parts_in : List RuleText → List Record → ℕ → List PartEvent
unfolding frame_read whole_frame frame_at sized_frame headed_frame read digits spoken_octets frame_octets written
parts_in rules records n = let past = history (unmarked rules) records in parts_of_one (unmarked rules) (session_at n past) past

-- the numbers of deliveries
abbrev pub numbers : List Incoming → List ℕ
numbers ds = map (λ d. d.number) ds

-- those that wait at the address, and all that are complete
unfoldable pub queue_in : List RuleText → List Record → List ℕ → List ℕ
unfolding frame_read whole_frame frame_at sized_frame headed_frame read digits spoken_octets frame_octets written
queue_in rules records address = numbers (waiting_queue (unmarked rules) address (history (unmarked rules) records))

unfoldable pub completed_in : List RuleText → List Record → List ℕ
unfolding frame_read whole_frame frame_at sized_frame headed_frame read digits spoken_octets frame_octets written
completed_in rules records = numbers (completed_deliveries (history (unmarked rules) records))

-- what one more record does: to the delivery of this number, and to those of the link of this number
unfoldable pub is_paired_by : List RuleText → List Record → Record → ℕ → Bool
unfolding frame_read whole_frame frame_at sized_frame headed_frame read digits spoken_octets frame_octets written
is_paired_by rules records r n = let past = history (unmarked rules) records in is_some_and (incoming_at n past) (λ d. pairs d (judge (unmarked rules) past r))

unfoldable pub stays_behind : List RuleText → List Record → Record → ℕ → Bool
unfolding frame_read whole_frame frame_at sized_frame headed_frame read digits spoken_octets frame_octets written
stays_behind rules records r n = let past = history (unmarked rules) records in is_some_and (incoming_at n past) (stays (judge (unmarked rules) past r) past)

unfoldable pub is_decided_by : List RuleText → List Record → Record → ℕ → Bool
unfolding frame_read whole_frame frame_at sized_frame headed_frame read digits spoken_octets frame_octets written
is_decided_by rules records r n = let past = history (unmarked rules) records in is_some_and (incoming_at n past) (decides (unmarked rules) (judge (unmarked rules) past r) past)

unfoldable pub decided_by : List RuleText → List Record → Record → ℕ → Option ℕ
unfolding frame_read whole_frame frame_at sized_frame headed_frame read digits spoken_octets frame_octets written
decided_by rules records r n = let past = history (unmarked rules) records in option_map (λ l. decided_count (unmarked rules) l (judge (unmarked rules) past r) past) (link_at n past)

unfoldable pub begins_by : List RuleText → List Record → Record → ℕ → Bool
unfolding frame_read whole_frame frame_at sized_frame headed_frame read digits spoken_octets frame_octets written
begins_by rules records r n = let past = history (unmarked rules) records in is_some_and (link_at n past) (λ l. begins_undecided (unmarked rules) l (judge (unmarked rules) past r) past)

-- the deliveries to settle by their numbers, and the copies to send on the link of this number by those of their deliveries
unfoldable pub to_settle_in : List RuleText → List Record → List ℕ
unfolding frame_read whole_frame frame_at sized_frame headed_frame read digits spoken_octets frame_octets written
to_settle_in rules records = map (λ j. j.number) (deliveries_to_settle (history (unmarked rules) records))

unfoldable pub unsent_in : List RuleText → List Record → ℕ → List ℕ
unfolding frame_read whole_frame frame_at sized_frame headed_frame read digits spoken_octets frame_octets written
unsent_in rules records n = let past = history (unmarked rules) records in unwrap_or (option_map (λ l. numbers (unsent_copies (unmarked rules) l past)) (link_at n past)) []

-- the delivery to a client that begins in this record
abbrev pub outgoing_of : ℕ → List Event → Option Outgoing
outgoing_of n past = find (λ j. j.number == n) (outgoing_deliveries past)

unfoldable pub is_unsettled_in : List RuleText → List Record → ℕ → Bool
unfolding frame_read whole_frame frame_at sized_frame headed_frame read digits spoken_octets frame_octets written
is_unsettled_in rules records n = let past = history (unmarked rules) records in is_some_and (outgoing_of n past) (stands_unsettled past)

unfoldable pub is_closed_in : List RuleText → List Record → ℕ → Bool
unfolding frame_read whole_frame frame_at sized_frame headed_frame read digits spoken_octets frame_octets written
is_closed_in rules records n = let past = history (unmarked rules) records in is_some_and (outgoing_of n past) (carries_closed past)

-- what one more record does to that delivery, or to one of the producer, or to the copies of the link of this number
unfoldable pub is_kept_by : List RuleText → List Record → Record → ℕ → Bool
unfolding frame_read whole_frame frame_at sized_frame headed_frame read digits spoken_octets frame_octets written
is_kept_by rules records r n = let past = history (unmarked rules) records in is_some_and (outgoing_of n past) (keeps_unsettled (judge (unmarked rules) past r))

unfoldable pub is_answered_by : List RuleText → List Record → Record → ℕ → Bool
unfolding frame_read whole_frame frame_at sized_frame headed_frame read digits spoken_octets frame_octets written
is_answered_by rules records r n = let past = history (unmarked rules) records in is_some_and (outgoing_of n past) (decides_now (judge (unmarked rules) past r))

unfoldable pub is_closed_by : List RuleText → List Record → Record → ℕ → Bool
unfolding frame_read whole_frame frame_at sized_frame headed_frame read digits spoken_octets frame_octets written
is_closed_by rules records r n = let past = history (unmarked rules) records in is_some_and (incoming_at n past) (closes_incoming (judge (unmarked rules) past r))

unfoldable pub comes_by : List RuleText → List Record → Record → ℕ → Bool
unfolding frame_read whole_frame frame_at sized_frame headed_frame read digits spoken_octets frame_octets written
comes_by rules records r n = let past = history (unmarked rules) records in is_some_and (outgoing_of n past) (comes_to_settle (judge (unmarked rules) past r) past)

unfoldable pub comes_due_by : List RuleText → List Record → Record → ℕ → Bool
unfolding frame_read whole_frame frame_at sized_frame headed_frame read digits spoken_octets frame_octets written
comes_due_by rules records r n = let past = history (unmarked rules) records in is_some_and (link_at n past) (λ l. comes_due (unmarked rules) l (judge (unmarked rules) past r) past)

-- the outcomes to tell by the numbers of their deliveries, and whether that delivery has one, or one to a client is answered
unfoldable pub to_tell_in : List RuleText → List Record → List ℕ
unfolding frame_read whole_frame frame_at sized_frame headed_frame read digits spoken_octets frame_octets written
to_tell_in rules records = numbers (outcomes_to_tell (unmarked rules) (history (unmarked rules) records))

unfoldable pub has_outcome_in : List RuleText → List Record → ℕ → Bool
unfolding frame_read whole_frame frame_at sized_frame headed_frame read digits spoken_octets frame_octets written
has_outcome_in rules records n = let past = history (unmarked rules) records in is_some_and (incoming_at n past) (has_outcome (unmarked rules) past)

unfoldable pub is_answered_in : List RuleText → List Record → ℕ → Bool
unfolding frame_read whole_frame frame_at sized_frame headed_frame read digits spoken_octets frame_octets written
is_answered_in rules records n = let past = history (unmarked rules) records in is_some_and (outgoing_of n past) (is_answered past)

-- what one more record answers, or gives an outcome
unfoldable pub answers_by : List RuleText → List Record → Record → ℕ → Bool
unfolding frame_read whole_frame frame_at sized_frame headed_frame read digits spoken_octets frame_octets written
answers_by rules records r n = let past = history (unmarked rules) records in is_some_and (outgoing_of n past) (answers_now (judge (unmarked rules) past r) past)

unfoldable pub gets_by : List RuleText → List Record → Record → ℕ → Bool
unfolding frame_read whole_frame frame_at sized_frame headed_frame read digits spoken_octets frame_octets written
gets_by rules records r n = let past = history (unmarked rules) records in is_some_and (incoming_at n past) (gets_outcome (unmarked rules) (judge (unmarked rules) past r) past)
