-- What stands beside a packet in words. Own choice.
use Rattle.std.specs.Prelude.{ℕ, List, [], ◌++◌, codes, decimal}
use Rattle.pairing_cert.specs.declared.note.Why.{Why}
use Rattle.pairing_cert.specs.declared.note.Why.TheVariants.{C, Z, S, L, N, M}
use Rattle.pairing_cert.specs.declared.note.Note.{Note}
use Rattle.pairing_cert.specs.declared.note.Note.TheVariants as notes
use Rattle.capture_form.specs.declared.records.What.{What}
use Rattle.capture_form.specs.declared.records.What.TheVariants.{Opened, In, Out, Lost, Broken}
use Rattle.capture_form.specs.declared.records.Record.{Record}

-- the row of an outcome, in words
abbrev pub why_told : Why → List ℕ
why_told C = codes "C, the consumer's"
why_told Z = codes "Z, the consumer's, shortened"
why_told S = codes "S, sent to a pre-settled link"
why_told L = codes "L, the consumer's link is over"
why_told N = codes "N, no consumer"
why_told M = codes "M, multicast"

-- a note, in words
abbrev pub note_told : Note → List ℕ
note_told notes.None = []
note_told (notes.Pair number) = codes ", carries record " ++ decimal number
note_told (notes.Told why) = codes ", outcome row " ++ why_told why

-- what happened, in words, where the frame does not say it
abbrev pub what_told : What → Note → List ℕ
what_told Opened told = codes ", opened: the client's AMQP header was accepted"
what_told (In frame) told = []
what_told (Out frame) told = note_told told
what_told Lost told = codes ", lost: the device ended or failed"
what_told Broken told = codes ", broken: the client's octets stopped being frames"

-- the comment of the record of this number
unfoldable pub comment_text : ℕ → Record → List ℕ
comment_text number entry = codes "record " ++ (decimal number ++ what_told entry.what entry.note)
