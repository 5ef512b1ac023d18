-- Which outcomes are told by which row of the table of outcomes (docs/LAW.md, own): what one record adds, and the sums.
use Rattle.std.specs.Prelude.{ℕ, ◌+◌, List, [], ◌∷◌}
use Rattle.pairing_cert.specs.declared.note.Note.{Note}
use Rattle.pairing_cert.specs.declared.note.Note.TheVariants as notes
use Rattle.pairing_cert.specs.declared.note.Why.{Why}
use Rattle.pairing_cert.specs.declared.note.Why.TheVariants.{C, Z, S, L, N, M}
use Rattle.capture_view.specs.Viewed.{Viewed}
use Rattle.capture_view.specs.declared.rows.TotalsByRow.{TotalsByRow}
use Rattle.capture_view.specs.Numbers.{most}
use Rattle.capture_view.specs.Shares.{of_output}

-- 1 where the second row is the first
abbrev pub is_row : Why → Why → ℕ
is_row C C = 1
is_row Z Z = 1
is_row S S = 1
is_row L L = 1
is_row N N = 1
is_row M M = 1
is_row _ _ = 0

-- 1 where a note tells this row
abbrev pub tells : Why → Note → ℕ
tells row (notes.Told why) = is_row row why
tells row _ = 0

-- 1 where a frame was written, and the note beside it tells this row
abbrev pub told : Why → Viewed → ℕ
told row view = of_output (λ said. tells row view.note) view.happened

-- how many of these records tell this row
abbrev pub total_told : Why → List Viewed → ℕ
total_told row [] = 0
total_told row (view ∷ past) = told row view + total_told row past

-- the numbers of these records, the newest first
abbrev pub counted_by_row : List Viewed → TotalsByRow
counted_by_row past = record {
  consumer = most (total_told C past);
  shortened = most (total_told Z past);
  sent = most (total_told S past);
  link_over = most (total_told L past);
  no_consumer = most (total_told N past);
  multicast = most (total_told M past);
}

-- the numbers of one frame that was written with this note
abbrev pub note_share : Note → TotalsByRow
note_share note = record {
  consumer = tells C note;
  shortened = tells Z note;
  sent = tells S note;
  link_over = tells L note;
  no_consumer = tells N note;
  multicast = tells M note;
}

-- the numbers of one record alone
abbrev pub share_by_row : Viewed → TotalsByRow
share_by_row view = record {
  consumer = told C view;
  shortened = told Z view;
  sent = told S view;
  link_over = told L view;
  no_consumer = told N view;
  multicast = told M view;
}

-- sums that stop at the largest number
abbrev pub plus_by_row : TotalsByRow → TotalsByRow → TotalsByRow
plus_by_row a b = record {
  consumer = most (a.consumer + b.consumer);
  shortened = most (a.shortened + b.shortened);
  sent = most (a.sent + b.sent);
  link_over = most (a.link_over + b.link_over);
  no_consumer = most (a.no_consumer + b.no_consumer);
  multicast = most (a.multicast + b.multicast);
}
