-- The numbers of records that are known.
use Rattle.std.proofs.Common.{◌≡◌, ℕ, List, [], ◌∷◌, refl}
use Rattle.pairing_cert.specs.declared.note.Note.{Note}
use Rattle.pairing_cert.specs.declared.note.Note.TheVariants as notes
use Rattle.pairing_cert.specs.declared.note.Why.TheVariants.{C, Z, S, L, N, M}
use Rattle.capture_view.specs.Saying.{NoBody}
use Rattle.capture_view.specs.Viewed.{Happening, Viewed, Opened, In, Out, Lost, Broken}
use Rattle.capture_view.specs.Numbers.{most}
use Rattle.capture_view.specs.Rows.{counted_by_row, is_row, tells, told, total_told}
use Rattle.capture_view.specs.Shares.{broken, inputs, lost, octets, of_input, opened, outputs, transfers}
use Rattle.capture_view.specs.Totals.{counted, plus, share}

abbrev noted : ℕ → Happening → Note → Viewed
noted number happened note = record { number = number; connection = 0; happened = happened; note = note }

abbrev record_of : ℕ → Happening → Viewed
record_of number happened = noted number happened notes.None

-- a connection is opened, sends an empty frame, is sent one, and is broken and lost: the newest first
abbrev five : List Viewed
five = record_of 4 Lost ∷ record_of 3 Broken ∷ record_of 2 (Out (NoBody 0)) ∷ record_of 1 (In (NoBody 0)) ∷ record_of 0 Opened ∷ []

five_counted : counted five ≡ record {
  records = 5;
  opened = 1;
  inputs = 1;
  outputs = 1;
  lost = 1;
  broken = 1;
  transfers_in = 0;
  transfers_out = 0;
  octets_in = 0;
  octets_out = 0;
  told = record { consumer = 0; shortened = 0; sent = 0; link_over = 0; no_consumer = 0; multicast = 0 };
}
five_counted = refl

-- no record is no number
none_counted : (counted []).records ≡ 0
none_counted = refl

-- the share of one record on top is one record more
one_more : plus (share (record_of 5 Opened)) (counted five) ≡ counted (record_of 5 Opened ∷ five)
one_more = refl

-- frames that were written with these notes: the newest first
abbrev written : ℕ → Note → Viewed
written number note = noted number (Out (NoBody 0)) note

abbrev notes_told : List Viewed
notes_told =
    written 9 (notes.Told C) ∷ written 8 (notes.Told M) ∷ written 7 (notes.Told N) ∷ written 6 (notes.Told L)
    ∷ written 5 (notes.Pair 2) ∷ written 4 (notes.Told S) ∷ written 3 (notes.Told Z) ∷ written 2 notes.None
    ∷ written 1 (notes.Told C) ∷ []

rows_counted : counted_by_row notes_told ≡ record { consumer = 2; shortened = 1; sent = 1; link_over = 1; no_consumer = 1; multicast = 1 }
rows_counted = refl

rows_are_of_records : (counted notes_told).told ≡ counted_by_row notes_told
rows_are_of_records = refl

-- one outcome more counts in its row alone
one_told_more : plus (share (written 10 (notes.Told L))) (counted notes_told) ≡ counted (written 10 (notes.Told L) ∷ notes_told)
one_told_more = refl

link_over_alone : (counted (written 10 (notes.Told L) ∷ notes_told)).told
    ≡ record { consumer = 2; shortened = 1; sent = 1; link_over = 2; no_consumer = 1; multicast = 1 }
link_over_alone = refl

-- another row does not count, nor a note that tells none, nor a note beside what was not written
not_shortened : is_row Z C ≡ 0
not_shortened = refl

not_consumer : is_row C Z ≡ 0
not_consumer = refl

pairs_tell_none : tells C (notes.Pair 5) ≡ 0
pairs_tell_none = refl

none_tells_none : tells C notes.None ≡ 0
none_tells_none = refl

not_of_input : told C (noted 1 (In (NoBody 0)) (notes.Told C)) ≡ 0
not_of_input = refl

not_of_lost : told C (noted 1 Lost (notes.Told C)) ≡ 0
not_of_lost = refl

none_told : total_told C [] ≡ 0
none_told = refl

-- what did not happen does not count
not_opened : opened Lost ≡ 0
not_opened = refl

not_sent : inputs (Out (NoBody 0)) ≡ 0
not_sent = refl

not_written : outputs (In (NoBody 0)) ≡ 0
not_written = refl

not_lost : lost Broken ≡ 0
not_lost = refl

not_broken : broken Lost ≡ 0
not_broken = refl

no_transfer : of_input transfers (In (NoBody 0)) ≡ 0
no_transfer = refl

no_payload : of_input octets (In (NoBody 0)) ≡ 0
no_payload = refl

-- a number stops at the largest
small : most 5 ≡ 5
small = refl

stops : most 18446744073709551616 ≡ 18446744073709551615
stops = refl
