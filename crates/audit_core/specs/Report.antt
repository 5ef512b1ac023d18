-- The line and the exit status of a verdict.
use Rattle.std.specs.Prelude.{ℕ, List, ◌++◌, codes, decimal}
use Rattle.trace_events.specs.declared.tally.Tally.{Tally}
use Rattle.audit_core.specs.declared.verdict.Verdict.{Verdict}
use Rattle.audit_core.specs.declared.verdict.Verdict.TheVariants.{Accepted, Refused, Malformed, NoMemory, Unreadable}
use Rattle.trace_events.specs.ClauseNames.{clause_name}

-- what is counted in an accepted capture, as words of the line (own format)
abbrev pub tally_text : Tally → List ℕ
tally_text tally =
    codes "records=" ++ decimal tally.records
    ++ codes " deliveries=" ++ decimal tally.deliveries
    ++ codes " outcomes=" ++ decimal tally.outcomes

-- the line of a verdict, without its newline (own format)
abbrev pub line_of : Verdict → List ℕ
line_of (Accepted tally) = codes "accepted " ++ tally_text tally
line_of (Refused number clause) = codes "refused record=" ++ decimal number ++ codes " clause=" ++ clause_name clause
line_of (Malformed offset form_kind) = codes "malformed offset=" ++ decimal offset
line_of (NoMemory offset) = codes "no memory"
line_of (Unreadable offset) = codes "unreadable offset=" ++ decimal offset

-- the exit status of a verdict (own format)
abbrev pub status_of : Verdict → ℕ
status_of (Accepted tally) = 0
status_of (Refused number clause) = 1
status_of (Malformed offset form_kind) = 2
status_of (NoMemory offset) = 3
status_of (Unreadable offset) = 4
