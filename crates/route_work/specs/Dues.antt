-- What is due to be written, by the events so far: what each kind asks of them (own rules; part 2 of the standard, sections
-- 2.5.6, 2.6.7, 2.6.12 and 2.7.5).
use Rattle.std.specs.Prelude.{◌≡◌, ◌≤◌, ℕ, Bool, true, ◌&&◌, List, Some, length}
use Rattle.flow_counts.specs.declared.profile.TheConstants.{MAX_FRAME_SIZE}
use Rattle.pairing_cert.specs.declared.note.Note.{Note}
use Rattle.pairing_cert.specs.declared.note.Note.TheVariants as notes
use Rattle.capture_form.specs.declared.records.Record.{Record}
use Rattle.capture_form.specs.declared.records.What.TheVariants as whats
use Rattle.capture_form.specs.Rules.{RuleSet}
use Rattle.trace_events.specs.Frame.{Spoken}
use Rattle.trace_events.specs.Event.{Event, Out}
use Rattle.trace_events.specs.Written.{spoken_octets}
use Rattle.trace_duties.specs.Quiet.{none_is_untold, none_stands_still}
use Rattle.trace_duties.specs.Turn.{is_all_told, is_all_sent, is_all_drained, is_all_credited, is_first_to_begin, stands_in_turn}
use Rattle.trace_judge.specs.Told.{told_view}
use Rattle.trace_events.specs.View.{link_view, incoming_view, outgoing_view}
use Rattle.route_answers.specs.Writing.{frame_of}
use Rattle.route_dues.specs.Writing.{writing, IsReadAgain, IsInOrder, MayFollow}
use Rattle.due_outcomes.specs.DueOutcomes.{IsDueOutcome}
use Rattle.due_outcomes.specs.Settlings.{IsDueSettling}
use Rattle.due_lists.specs.Parts.{IsDuePart}
use Rattle.due_lists.specs.Draining.{IsDrainable}
use Rattle.due_lists.specs.Topping.{IsToppable}
use Rattle.due_lists.specs.Lacking.{IsLacking}
use Rattle.due_lists.specs.Copies.{IsDueCopy}
use Rattle.due_lists.specs.Waiting.{IsDueWaiting}
use Rattle.route_work.specs.declared.due.Due.{Due}
use Rattle.route_work.specs.declared.due.Due.TheVariants as dues

-- it is due, as the list of its kind says it
abbrev pub IsDue : RuleSet → List Event → Due → Type 0
IsDue rules past (dues.Outcome due) = IsDueOutcome rules past (incoming_view due.delivery) due.why (told_view due.told)
IsDue rules past (dues.Settling j) = IsDueSettling past (outgoing_view j)
IsDue rules past (dues.Part due) = IsDuePart due past
IsDue rules past (dues.Waiting due) = IsDueWaiting rules due past
IsDue rules past (dues.Copy due) = IsDueCopy rules due past
IsDue rules past (dues.Drain l) = IsDrainable rules (link_view l) past
IsDue rules past (dues.Credit l) = IsToppable rules (link_view l) past
IsDue rules past (dues.Window s) = IsLacking s past

-- nothing of an earlier place is due, nor of its own in front of it
abbrev pub is_in_turn : RuleSet → List Event → Due → Bool
is_in_turn rules past (dues.Outcome due) = true
is_in_turn rules past (dues.Settling j) = none_is_untold rules past
is_in_turn rules past (dues.Part due) = is_all_told rules past
is_in_turn rules past (dues.Waiting due) = is_all_told rules past && none_stands_still past && is_first_to_begin rules past (incoming_view due.delivery)
is_in_turn rules past (dues.Copy due) = is_all_told rules past && none_stands_still past
is_in_turn rules past (dues.Drain l) = is_all_sent rules past
is_in_turn rules past (dues.Credit l) = is_all_drained rules past
is_in_turn rules past (dues.Window s) = is_all_credited rules past

-- ---- the record of a frame that is due

-- the record writes a frame that may follow, stands in turn, and is read again
pub record IsNextFrame (rules : RuleSet) (past : List Event) (r : Record) : Type 0 where
  pub spoken : Spoken
  pub what : r.what ≡ whats.Out (spoken_octets spoken)
  pub follows : MayFollow rules past r.connection r.note spoken
  pub turn : stands_in_turn rules (writing rules past r.connection r.note spoken) past (Out (frame_of spoken)) ≡ true
  pub again : IsReadAgain spoken
  pub short : length (spoken_octets spoken) ≤ MAX_FRAME_SIZE

-- behind some events that are in order, for which the one who is asked stands, this is due, and nothing in front of it
pub record IsDueBehind (StandsFor : List Event → Type 0) (rules : RuleSet) (due : Due) : Type 0 where
  pub past : List Event
  pub stands : StandsFor past
  pub order : IsInOrder rules past
  pub is_due : IsDue rules past due
  pub turn : is_in_turn rules past due ≡ true

-- ---- where it is written, and what is certified of it

abbrev pub connection_of : Due → ℕ
connection_of (dues.Outcome due) = due.delivery.link.session.connection
connection_of (dues.Settling j) = j.link.session.connection
connection_of (dues.Part due) = due.link.session.connection
connection_of (dues.Waiting due) = due.link.session.connection
connection_of (dues.Copy due) = due.link.session.connection
connection_of (dues.Drain l) = l.session.connection
connection_of (dues.Credit l) = l.session.connection
connection_of (dues.Window s) = s.connection

abbrev pub note_of : Due → Note
note_of (dues.Outcome due) = notes.Told due.why
note_of (dues.Part due) = due.note
note_of (dues.Waiting due) = notes.Pair due.delivery.number
note_of (dues.Copy due) = notes.Pair due.delivery.number
note_of other = notes.None

-- these are the octets of a frame that may follow there, stands in turn, and is read again
pub record IsFrameFor (rules : RuleSet) (past : List Event) (c : ℕ) (note : Note) (octets : List ℕ) : Type 0 where
  pub spoken : Spoken
  pub is : octets ≡ spoken_octets spoken
  pub follows : MayFollow rules past c note spoken
  pub turn : stands_in_turn rules (writing rules past c note spoken) past (Out (frame_of spoken)) ≡ true
  pub again : IsReadAgain spoken
  pub short : length (spoken_octets spoken) ≤ MAX_FRAME_SIZE
