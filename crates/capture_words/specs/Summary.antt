-- The totals of a summary.
use Rattle.capture_view.specs.declared.totals.Totals.{Totals}
use Rattle.capture_words.specs.declared.summary.Summary.{Summary}

-- its totals
abbrev pub totals_of : Summary → Totals
totals_of summary = summary.totals
