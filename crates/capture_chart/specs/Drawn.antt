-- What is drawn of a chart.
use Rattle.std.specs.Prelude.{◌≡◌, ℕ, ◌+◌, ◌-◌, List, [], ◌∷◌, ◌++◌, length, codes, decimal, Option, Some, None}
use Rattle.std.specs.Str.{chars, encode_utf8_all}
use Rattle.svg_text.specs.declared.element.Element.TheVariants.{Description, Group, Title}
use Rattle.svg_text.specs.Grammar.{start_text}
use Rattle.svg_text.specs.Escaping.{pieces_of}
use Rattle.svg_text.specs.Drawn.{end_octets, root_end, root_octets}
use Rattle.svg_text.specs.Parts.{element_octets, label_octets, line_octets}
use Rattle.capture_chart.specs.declared.places.TheConstants.{ROUTER}
use Rattle.capture_chart.specs.declared.places.ArrowPlace.{ArrowPlace}
use Rattle.capture_chart.specs.declared.topic.Course.{Course}
use Rattle.capture_chart.specs.declared.topic.Course.TheVariants.{ToRouter, ToClient, Beside}
use Rattle.capture_chart.specs.Marks.{Marking, class_of}
use Rattle.capture_chart.specs.Shown.{Shown, Worded, shown_in, title_text, told_text}
use Rattle.capture_chart.specs.Places.{between, lane_place, lanes_of, place_at, row_place}

-- ---- lanes

-- a lane at a place, down to the bottom, under its name
abbrev pub lane_octets : ℕ → ℕ → List ℕ → List ℕ
lane_octets bottom at words = line_octets (codes "lane") (at, 30) (at, bottom) ++ label_octets (at, 20) words

abbrev pub connection_words : ℕ → List ℕ
connection_words connection = codes "connection " ++ decimal connection

-- the lanes of connections, from a number on
abbrev pub lanes_octets : ℕ → ℕ → List ℕ → List ℕ
lanes_octets bottom lane [] = []
lanes_octets bottom lane (connection ∷ rest) = lane_octets bottom (lane_place lane) (connection_words connection) ++ lanes_octets bottom (lane + 1) rest

-- the lane of the router, and those of connections
abbrev pub all_lanes : ℕ → List ℕ → List ℕ
all_lanes bottom lanes = lane_octets bottom ROUTER (codes "router") ++ lanes_octets bottom 0 lanes

-- ---- arrows

-- a line from the middle of the arrow of the delivery that is carried, if that is shown, to the middle of this one
abbrev pub tie_from : ArrowPlace → Option (ℕ × ℕ) → List ℕ
tie_from place None = []
tie_from place (Some delivery) = line_octets (codes "carries") (between ROUTER delivery.0, delivery.1) (between ROUTER place.lane, place.row)

abbrev pub tie_octets : ArrowPlace → List ℕ
tie_octets place = tie_from place place.carried

-- what begins a group of this class
unfoldable pub group_octets : List ℕ → List ℕ
group_octets class = encode_utf8_all (start_text (record { name = codes "g"; attributes = record { name = codes "class"; value = pieces_of (chars class) } ∷ [] }))

-- a line from the middle of the arrow of a delivery to where this one ends at its client, in a group with a title of its own
unfoldable pub outcome_octets : ArrowPlace → ℕ × ℕ → List ℕ → List ℕ
outcome_octets place delivery title =
    group_octets (codes "outcome") ++ ((element_octets Title title ++ line_octets (codes "tells") (between ROUTER delivery.0, delivery.1) (place.lane, place.row)) ++ end_octets Group)

-- one from the delivery whose outcome is told, if that is shown
abbrev pub told_from : ArrowPlace → Shown → Option (ℕ × ℕ) → Option ℕ → List ℕ
told_from place shown (Some delivery) (Some number) = outcome_octets place delivery (told_text number shown)
told_from place shown _ _ = []

abbrev pub told_octets : ArrowPlace → Shown → List ℕ
told_octets place shown = told_from place shown place.told shown.told

-- a line between the lanes of the connection and the router, with its head at its end
abbrev pub shaft_octets : Course → ArrowPlace → List ℕ
shaft_octets ToRouter place = line_octets (codes "shaft") (place.lane, place.row) (ROUTER, place.row)
shaft_octets ToClient place = line_octets (codes "shaft") (ROUTER, place.row) (place.lane, place.row)
shaft_octets Beside place = []

-- an arrow at a place: a group with the arrow's title, its words as its description, its lines, and its label beside it
unfoldable pub arrow_octets : ArrowPlace → Worded → List ℕ
arrow_octets place arrow = group_octets (class_of place.mark)
    ++ (element_octets Title (title_text place.mark arrow.shows)
    ++ (element_octets Description arrow.words
    ++ (tie_octets place ++ (told_octets place arrow.shows ++ (shaft_octets arrow.shows.course place ++ (label_octets (ROUTER + 8, place.row - 4) arrow.label ++ end_octets Group))))))

-- the arrows from a row on of a chart that shows all these, in order, each once
abbrev pub arrows_octets : Marking → List ℕ → List Shown → ℕ → List Worded → List ℕ
arrows_octets marks lanes all row [] = []
arrows_octets marks lanes all row (arrow ∷ rest) = arrow_octets (place_at marks lanes all row arrow.shows) arrow ++ arrows_octets marks lanes all (row + 1) rest

-- ---- documents

-- where one arrow more than there are would stand
abbrev pub height_of : List Shown → ℕ
height_of arrows = row_place (length arrows)

-- where one lane more than there are would stand
abbrev pub width_of : List ℕ → ℕ
width_of lanes = lane_place (length lanes)

-- the start of a document of this size, with this title
abbrev pub start_of : List ℕ → ℕ → ℕ → List ℕ
start_of title width height = root_octets width height ++ element_octets Title title

-- the lanes of arrows, and the arrows themselves
abbrev pub chart_octets : Marking → List Shown → List Worded → List ℕ
chart_octets marks all arrows = all_lanes (height_of all) (lanes_of all) ++ arrows_octets marks (lanes_of all) all 0 arrows

-- octets of a document with this title, and at its end the lanes of these arrows and the arrows, in order, each once; between
-- them stands how it looks
pub record HasArrows (title : List ℕ) (marks : Marking) (arrows : List Worded) (octets : List ℕ) : Type 0 where
  pub looks : List ℕ
  pub parts : octets ≡ (start_of title (width_of (lanes_of (shown_in arrows))) (height_of (shown_in arrows)) ++ (looks ++ chart_octets marks (shown_in arrows) arrows)) ++ root_end
