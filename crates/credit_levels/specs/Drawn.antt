-- What is drawn of a capture that is audited (own rules).
use Rattle.std.specs.Prelude.{◌≡◌, ℕ, List, ◌++◌, Option, Some, None, codes, decimal}
use Rattle.capture_form.specs.declared.records.Record.{Record}
use Rattle.capture_form.specs.Rules.{RuleSet}
use Rattle.trace_events.specs.Event.{Event}
use Rattle.trace_events.specs.History.{history}
use Rattle.audit_core.specs.declared.verdict.Verdict.{Verdict}
use Rattle.audit_core.specs.Watching.{Watched}
use Rattle.credit_chart.specs.declared.level.Level.{Level}
use Rattle.credit_chart.specs.Curves.{HasCurves}
use Rattle.credit_levels.specs.declared.pick.Pick.{Pick}
use Rattle.credit_levels.specs.declared.pick.PickedLink.{PickedLink}
use Rattle.credit_levels.specs.Levels.{chosen, levels_of}

-- the title of a capture, with where a link stands (own format)
abbrev pub title_on : List ℕ → PickedLink → List ℕ
title_on title place =
    (((title ++ (codes ": link opened in record " ++ decimal place.number)) ++ (codes ", connection " ++ decimal place.connection)) ++ (codes ", channel " ++ decimal place.channel))
    ++ (codes ", handle " ++ decimal place.handle)

-- a document of these levels, of the link that stands there; where there is no link there is no document
abbrev pub DrawsAt : List ℕ → Option PickedLink → List (Option Level) → Option (List ℕ) → Type 0
DrawsAt title None levels drawn = drawn ≡ None
DrawsAt title (Some place) levels None = ⊥
DrawsAt title (Some place) levels (Some octets) = HasCurves (title_on title place) levels octets

-- the same of the link that is picked, and of what stands behind each record of these events
abbrev pub Draws : List ℕ → Pick → RuleSet → List Event → Option (List ℕ) → Type 0
Draws title pick rules past drawn = DrawsAt title (chosen pick past) (levels_of pick rules past) drawn

abbrev pub DrawsRecords : List ℕ → Pick → Option (List ℕ) → RuleSet → List Record → Type 0
DrawsRecords title pick drawn rules records = Draws title pick rules (history rules records) drawn

-- the same of the records that an audit of these octets takes: at `Accepted` of all, at `Refused` of those in front of the refused one, at
-- `Malformed` of those in front of the fault; nothing is said where memory was refused or a read failed
abbrev pub DrawsTaken : List ℕ → Pick → List ℕ → Verdict → Option (List ℕ) → Type 0
DrawsTaken title pick octets verdict drawn =
    Watched (DrawsRecords title pick) (λ drawn' rules before entry. DrawsRecords title pick drawn' rules before) drawn octets verdict
