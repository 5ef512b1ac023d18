-- What steps for the records of an inbox make of a core (own rules).
use Rattle.std.specs.Prelude.{◌≡◌, false, List, ◌++◌}
use Rattle.pairing_cert.specs.declared.note.Note.TheVariants as notes
use Rattle.capture_form.specs.declared.records.Record.{Record}
use Rattle.capture_form.specs.Text.{IsRecord}
use Rattle.capture_journal.specs.Journals.{noted}
use Rattle.route_items.specs.Inputs.{inputs, is_output}
use Rattle.daemon_server.specs.Recordings.{Recording}

-- the record tells an item, which may be taken
pub record IsInput (entry : Record) : Type 0 where
  pub input : is_output entry.what ≡ false
  pub bare : entry.note ≡ notes.None
  pub bounds : IsRecord entry

-- these are the next inputs, in order; the records that were given stand behind those so far, and their text waits
pub record HasStepped (inbox : List Record) (earlier later : Recording) (given : List Record) : Type 0 where
  pub inputs_now : inputs later.journal.records ≡ inputs earlier.journal.records ++ inbox
  pub noted_now : later.journal ≡ noted earlier.journal given
