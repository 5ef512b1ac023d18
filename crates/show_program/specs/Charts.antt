-- What the chart of a capture has.
use Rattle.std.specs.Prelude.{◌≡◌, ◌⊎◌, ℕ, ◌+◌, ◌-◌, ◌^◌, min, Bool, false, ◌&&◌, if◌then◌else◌, List, [], Option, Some, None, is_none, option_map, IfSome, ⊤}
use Rattle.capture_form.specs.declared.records.Record.{Record}
use Rattle.capture_form.specs.Reading.{reading}
use Rattle.capture_view.specs.declared.choice.Choice.{Choice}
use Rattle.capture_view.specs.Viewed.{Viewed}
use Rattle.capture_view.specs.Tables.{StandsFor}
use Rattle.capture_words.specs.declared.ending.Ending.{Ending}
use Rattle.capture_words.specs.declared.ending.Ending.TheVariants.{Whole, Malformed, NoMemory, Unreadable}
use Rattle.capture_words.specs.Taken.{views_of}
use Rattle.capture_chart.specs.Outcomes as outcomes
use Rattle.capture_chart.specs.Marks.{Marking}
use Rattle.capture_chart.specs.Shown.{Shown, Worded, arrows_of, shown_in}
use Rattle.capture_chart.specs.Drawn.{HasArrows}
use Rattle.show_program.specs.declared.charted.Charted.{Charted}
use Rattle.refusal_showing.specs.declared.capture.Explanation.{Explanation}
use Rattle.refusal_showing.specs.Explained.{compared_of, refused_by, verdict_of}
use Rattle.show_program.specs.declared.marked.TheConstants.{BEHIND, IN_FRONT}
use Rattle.show_program.specs.Asked.{AreAsked}

-- after these records, the newest first: it asks for these, knows the links and the deliveries whose outcomes are to be told, and
-- unless there were too many it has the arrows of those that are asked for and of those with these numbers
pub record HasAsked (choice : Choice) (also : List ℕ) (charted : Charted) (past : List Viewed) : Type 0 where
  pub names : StandsFor charted.asked.names past
  pub outcomes : outcomes.StandsFor charted.outcomes past
  pub asks : charted.asked.choice ≡ choice
  pub draws : charted.also.now ≡ also
  pub arrows : charted.is_full ≡ false → AreAsked choice also past (arrows_of charted.chart)

-- the arrows of those of all these records that are asked for, unless the reading was given up
abbrev pub AreAskedOf : Choice → List ℕ → List Record → Ending → List Shown → Type 0
AreAskedOf choice also entries Whole arrows = AreAsked choice also (views_of entries) arrows
AreAskedOf choice also entries (Malformed offset) arrows = AreAsked choice also (views_of entries) arrows
AreAskedOf choice also entries NoMemory arrows = ⊤
AreAskedOf choice also entries (Unreadable offset) arrows = ⊤

-- no record is marked
abbrev pub unmarked : Marking
unmarked = record { refused = None; compared = [] }

-- octets of a document that has, under this title and with these marks, the arrows of the records that are asked for and of those
-- with these numbers, of those that the octets of a reader are read as
pub record DrawsMarked (title : List ℕ) (marks : Marking) (choice : Choice) (also : List ℕ) (known : Option (List ℕ)) (ending : Ending) (octets : List ℕ) : Type 0 where
  pub arrows : List Worded
  pub drawn : HasArrows title marks arrows octets
  pub asked : IfSome known (λ text. AreAskedOf choice also (reading text).records ending (shown_in arrows))

-- the same of those that are asked for alone, without marks
abbrev pub DrawsAsked : List ℕ → Choice → Option (List ℕ) → Ending → List ℕ → Type 0
DrawsAsked title choice known ending octets = DrawsMarked title unmarked choice [] known ending octets

-- ---- of a capture that was explained

-- the refused record, if one is, and those that it is compared with
abbrev pub marks_of : Explanation → Marking
marks_of explanation = record { refused = refused_by (verdict_of explanation); compared = compared_of explanation }

-- no record is left out
abbrev pub is_of_all : Choice → Bool
is_of_all choice = is_none choice.from && (is_none choice.to && (is_none choice.connection && (is_none choice.link && is_none choice.delivery)))

-- the records around this one (own choice)
abbrev pub around : ℕ → Choice
around refused = record { from = Some (refused - IN_FRONT); to = Some (min (refused + BEHIND) (2 ^ 64 - 1)); connection = None; link = None; delivery = None }

-- those around the refused one, where one is refused and all are asked for
abbrev pub near_by : Choice → Option ℕ → Option Choice
near_by choice refused = if is_of_all choice then option_map around refused else None

-- a document with these marks, of the records that are asked for; or of those around the refused one, and those that it is
-- compared with
abbrev pub DrawsExplained : List ℕ → Choice → Marking → Option (List ℕ) → Ending → List ℕ → Type 0
DrawsExplained title choice marks known ending octets =
    DrawsMarked title marks choice [] known ending octets
    ⊎ ((near : Choice) × (near_by choice marks.refused ≡ Some near) × DrawsMarked title marks near marks.compared known ending octets)
