-- A record of a capture as it is looked at.
use Rattle.std.specs.Prelude.{ℕ}
use Rattle.pairing_cert.specs.declared.note.Note.{Note}
use Rattle.capture_form.specs.declared.records.Record.{Record}
use Rattle.capture_form.specs.declared.records.What.{What}
use Rattle.capture_form.specs.declared.records.What.TheVariants as whats
use Rattle.capture_view.specs.declared.view.Happened.{Happened}
use Rattle.capture_view.specs.declared.view.Happened.TheVariants as happens
use Rattle.capture_view.specs.declared.view.RecordView.{RecordView}
use Rattle.capture_view.specs.Saying.{Saying, saying, said_by}

-- what happened: of a frame, what its octets say
pub data Happening : Type 0 where
  Opened : Happening
  In : Saying → Happening
  Out : Saying → Happening
  Lost : Happening
  Broken : Happening

-- a record with its number
pub record Viewed : Type 0 where
  pub number : ℕ
  pub connection : ℕ
  pub happened : Happening
  pub note : Note

-- values of the code, apart from where they lie in memory
abbrev pub happening : Happened → Happening
happening happens.Opened = Opened
happening (happens.In said) = In (saying said)
happening (happens.Out said) = Out (saying said)
happening happens.Lost = Lost
happening happens.Broken = Broken

abbrev pub viewed : RecordView → Viewed
viewed view = record { number = view.number; connection = view.connection; happened = happening view.happened; note = view.note }

-- what happened in a record
abbrev pub happened_in : What → Happening
happened_in whats.Opened = Opened
happened_in (whats.In frame) = In (said_by frame)
happened_in (whats.Out frame) = Out (said_by frame)
happened_in whats.Lost = Lost
happened_in whats.Broken = Broken

-- the record of a number, looked at
abbrev pub view_of : ℕ → Record → Viewed
view_of number entry = record { number = number; connection = entry.connection; happened = happened_in entry.what; note = entry.note }
