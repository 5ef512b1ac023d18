-- What is drawn of a capture that is audited, and what is not.
use Rattle.std.proofs.Common.{◌≡◌, refl, ℕ, List, Option, None, Some}
use Rattle.capture_form.specs.declared.records.Record.{Record}
use Rattle.capture_form.specs.Rules.{}
use Rattle.capture_form.specs.Text.{Trace, IsCapture, text}
use Rattle.trace_events.specs.declared.tally.Tally.{Tally}
use Rattle.audit_core.specs.declared.verdict.Verdict.TheVariants.{Accepted, Malformed, NoMemory}
use Rattle.credit_chart.specs.declared.level.Level.{Level}
use Rattle.credit_chart.specs.Curves.{HasCurves}
use Rattle.credit_levels.specs.declared.pick.Pick.{Pick}
use Rattle.credit_levels.specs.declared.pick.PickedLink.{PickedLink}
use Rattle.credit_levels.specs.Drawn.{DrawsAt, DrawsRecords, DrawsTaken}

place : PickedLink
place = record { number = 7; connection = 1; channel = 0; handle = 2 }

-- without a link there is no document, and with one there is
nothing_drawn : (title : List ℕ) (levels : List (Option Level)) → DrawsAt title None levels None
nothing_drawn title levels = refl

something_without_link : (title octets : List ℕ) (levels : List (Option Level)) → DrawsAt title None levels (Some octets) → ⊥
something_without_link title octets levels drawn = cc

nothing_with_link : (title : List ℕ) (levels : List (Option Level)) → DrawsAt title (Some place) levels None → ⊥
nothing_with_link title levels drawn = drawn

-- of an accepted capture all records are drawn
all_drawn : (title : List ℕ) (pick : Pick) (capture : Trace) (tally : Tally) (drawn : Option (List ℕ)) → IsCapture capture → DrawsRecords title pick drawn capture.rules capture.records
    → DrawsTaken title pick (text capture) (Accepted tally) drawn
all_drawn title pick capture tally drawn bounds draws = record { trace = capture; bounds = bounds; whole = refl; seen = draws }

-- of want of memory nothing is said
memory_says_nothing : (title : List ℕ) (pick : Pick) (octets : List ℕ) (drawn : Option (List ℕ)) → DrawsTaken title pick octets (NoMemory 0) drawn
memory_says_nothing title pick octets drawn = tt
