-- A frame that the router writes, as the next event of a history, and what the law asks of it there.
use Rattle.std.specs.Prelude.{◌≡◌, ℕ, true, List, None}
use Rattle.amqp_perf.specs.Meaning.{Meaning}
use Rattle.pairing_cert.specs.declared.note.Note.{Note}
use Rattle.capture_form.specs.declared.records.Record.{Record}
use Rattle.capture_form.specs.Rules.{RuleSet}
use Rattle.trace_events.specs.Frame.{Spoken, frame_read}
use Rattle.trace_events.specs.Event.{Event, Out}
use Rattle.trace_events.specs.History.{judge_moment, history}
use Rattle.trace_events.specs.Clauses.{first_broken, broken_clause}
use Rattle.trace_events.specs.Written.{spoken_octets}
use Rattle.trace_duties.specs.Diligent.{moment_keeps, all_keep}
use Rattle.trace_duties.specs.Order.{CopiesInOrder, is_earliest}
use Rattle.route_answers.specs.Writing.{frame_of}

-- a performative on a channel, with what stands behind it
abbrev pub spoken_with : ℕ → Meaning → List ℕ → Spoken
spoken_with channel meaning payload = record { channel = channel; meaning = meaning; payload = payload }

-- it is written on this connection, with this note
abbrev pub writing : RuleSet → List Event → ℕ → Note → Spoken → Event
writing rules past c note spoken = judge_moment rules past c (Out (frame_of spoken)) note

-- its octets say the same again, where they are read
abbrev pub IsReadAgain : Spoken → Type 0
IsReadAgain spoken = frame_read (spoken_octets spoken) ≡ frame_of spoken

-- the events of a capture, no record of which breaks a clause
pub record IsLawful (rules : RuleSet) (past : List Event) : Type 0 where
  pub records : List Record
  pub is : past ≡ history rules records
  pub unbroken : first_broken rules past ≡ None

-- what a router keeps from event to event: its records are lawful, its duties are kept, and copies are in order
pub record IsInOrder (rules : RuleSet) (past : List Event) : Type 0 where
  pub lawful : IsLawful rules past
  pub keeps : all_keep rules past ≡ true
  pub copies : CopiesInOrder rules past

-- written here, the frame breaks no clause, keeps the duties of a router, and begins nothing in front of an earlier copy
pub record MayFollow (rules : RuleSet) (past : List Event) (c : ℕ) (note : Note) (spoken : Spoken) : Type 0 where
  pub lawful : broken_clause rules (writing rules past c note spoken) past ≡ None
  pub keeps : moment_keeps rules (writing rules past c note spoken) past (Out (frame_of spoken)) ≡ true
  pub earliest : is_earliest rules (writing rules past c note spoken) past ≡ true
