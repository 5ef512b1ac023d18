-- The numbers of a capture's records.
use Rattle.std.specs.Prelude.{◌≡◌, ℕ, ◌+◌, List, [], ◌∷◌, length}
use Rattle.capture_view.specs.Viewed.{Happening, Viewed}
use Rattle.capture_view.specs.declared.totals.Totals.{Totals}
use Rattle.capture_view.specs.Numbers.{most}
use Rattle.capture_view.specs.Rows.{counted_by_row, plus_by_row, share_by_row}
use Rattle.capture_view.specs.Shares.{broken, inputs, lost, octets, of_input, of_output, opened, outputs, transfers}

-- the sum of what each record adds by what happened in it
abbrev pub total : (Happening → ℕ) → List Viewed → ℕ
total f [] = 0
total f (view ∷ past) = f view.happened + total f past

-- the numbers of these records, the newest first
abbrev pub counted : List Viewed → Totals
counted past = record {
  records = most (length past);
  opened = most (total opened past);
  inputs = most (total inputs past);
  outputs = most (total outputs past);
  lost = most (total lost past);
  broken = most (total broken past);
  transfers_in = most (total (of_input transfers) past);
  transfers_out = most (total (of_output transfers) past);
  octets_in = most (total (of_input octets) past);
  octets_out = most (total (of_output octets) past);
  told = counted_by_row past;
}

-- Whichever records came before: where the earlier numbers are theirs, the later ones are those with this record in front.
abbrev pub CountsOneMore : Totals → Totals → Viewed → Type 0
CountsOneMore earlier later view = (past : List Viewed) → earlier ≡ counted past → later ≡ counted (view ∷ past)

-- the numbers of one record alone
abbrev pub share : Viewed → Totals
share view = record {
  records = 1;
  opened = opened view.happened;
  inputs = inputs view.happened;
  outputs = outputs view.happened;
  lost = lost view.happened;
  broken = broken view.happened;
  transfers_in = of_input transfers view.happened;
  transfers_out = of_output transfers view.happened;
  octets_in = of_input octets view.happened;
  octets_out = of_output octets view.happened;
  told = share_by_row view;
}

-- sums that stop at the largest number
abbrev pub plus : Totals → Totals → Totals
plus a b = record {
  records = most (a.records + b.records);
  opened = most (a.opened + b.opened);
  inputs = most (a.inputs + b.inputs);
  outputs = most (a.outputs + b.outputs);
  lost = most (a.lost + b.lost);
  broken = most (a.broken + b.broken);
  transfers_in = most (a.transfers_in + b.transfers_in);
  transfers_out = most (a.transfers_out + b.transfers_out);
  octets_in = most (a.octets_in + b.octets_in);
  octets_out = most (a.octets_out + b.octets_out);
  told = plus_by_row a.told b.told;
}
