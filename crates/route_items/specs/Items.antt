-- What happens to a router from outside, and the records that tell it. Own format.
use Rattle.std.specs.Prelude.{ℕ, ◌≤◌, length}
use Rattle.flow_counts.specs.declared.profile.TheConstants.{MAX_FRAME_SIZE}
use Rattle.pairing_cert.specs.declared.note.Note.TheVariants as notes
use Rattle.capture_form.specs.declared.records.What.{What}
use Rattle.capture_form.specs.declared.records.What.TheVariants as happened
use Rattle.capture_form.specs.declared.records.Record.{Record}
use Rattle.route_items.specs.declared.item.Item.{Item}
use Rattle.route_items.specs.declared.item.Item.TheVariants.{Opened, In, Broken, Lost}
use Rattle.route_items.specs.declared.fault.StepFault.{StepFault}
use Rattle.route_items.specs.declared.fault.StepFault.TheVariants.{Memory, Full, UnknownConn, Failed}

-- the connection to which an item happens
abbrev pub connection_of : Item → ℕ
connection_of (Opened connection) = connection
connection_of (In connection frame) = connection
connection_of (Broken connection) = connection
connection_of (Lost connection) = connection

-- what happens there
abbrev pub what_of : Item → What
what_of (Opened connection) = happened.Opened
what_of (In connection frame) = happened.In frame.now
what_of (Broken connection) = happened.Broken
what_of (Lost connection) = happened.Lost

-- the record that tells an item: it certifies nothing
abbrev pub record_of : Item → Record
record_of item = record { connection = connection_of item; what = what_of item; note = notes.None }

-- an item that a router takes: its frame is none that is too long
abbrev pub IsShort : Item → Type 0
IsShort (Opened connection) = Unit {0}
IsShort (In connection frame) = length frame.now ≤ MAX_FRAME_SIZE
IsShort (Broken connection) = Unit {0}
IsShort (Lost connection) = Unit {0}

-- the number of each fault of a step
abbrev pub fault_number : StepFault → ℕ
fault_number Memory = 1
fault_number Full = 2
fault_number UnknownConn = 3
fault_number Failed = 4
