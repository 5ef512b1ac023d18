-- Where lanes and rows stand, in pixels (own choice).
use Rattle.std.specs.Prelude.{ℕ, ◌+◌, ◌*◌, ◌/◌, ◌==◌, List, [], ◌∷◌, ◌++◌, Option, Some, None, if◌then◌else◌}
use Rattle.std.specs.List.{list_any}
use Rattle.svg_text.specs.Numbers.{most}
use Rattle.capture_chart.specs.declared.places.TheConstants.{FIRST_LANE, LANE, ROUTER, ROW, TOP}
use Rattle.capture_chart.specs.declared.places.ArrowPlace.{ArrowPlace}
use Rattle.capture_chart.specs.Marks.{Marking, mark_of}
use Rattle.capture_chart.specs.Shown.{Shown}

-- the place of a lane or a row, by its number
abbrev pub count_place : ℕ → ℕ → ℕ → ℕ
count_place first step count = most (first + most (step * most count))

abbrev pub row_place : ℕ → ℕ
row_place row = count_place TOP ROW row

abbrev pub lane_place : ℕ → ℕ
lane_place lane = count_place FIRST_LANE LANE lane

-- the place of a connection's lane, of lanes from a number on; that of the router where it has none
abbrev pub found_lane : ℕ → ℕ → List ℕ → ℕ
found_lane connection lane [] = ROUTER
found_lane connection lane (other ∷ rest) = if other == connection then lane_place lane else found_lane connection (lane + 1) rest

abbrev pub connection_place : List ℕ → ℕ → ℕ
connection_place lanes connection = found_lane connection 0 lanes

abbrev pub between : ℕ → ℕ → ℕ
between one other = one / 2 + other / 2

-- the lanes with that of a connection, each once
abbrev pub with_lane : List ℕ → ℕ → List ℕ
with_lane lanes connection = if list_any (λ lane. lane == connection) lanes then lanes else lanes ++ connection ∷ []

abbrev pub lanes_after : List ℕ → List Shown → List ℕ
lanes_after lanes [] = lanes
lanes_after lanes (arrow ∷ rest) = lanes_after (with_lane lanes arrow.connection) rest

-- the connections of arrows, each once, in the order in which they come
abbrev pub lanes_of : List Shown → List ℕ
lanes_of arrows = lanes_after [] arrows

-- where the arrow of a record stands, of arrows from a row on
abbrev pub found_place : List ℕ → ℕ → ℕ → List Shown → Option (ℕ × ℕ)
found_place lanes number row [] = None
found_place lanes number row (arrow ∷ rest) =
    if arrow.number == number then Some (connection_place lanes arrow.connection, row_place row) else found_place lanes number (row + 1) rest

abbrev pub record_place : List ℕ → List Shown → Option ℕ → Option (ℕ × ℕ)
record_place lanes arrows None = None
record_place lanes arrows (Some number) = found_place lanes number 0 arrows

-- where the arrow in a row of a chart stands, and its mark
abbrev pub place_at : Marking → List ℕ → List Shown → ℕ → Shown → ArrowPlace
place_at marks lanes arrows row arrow = record {
  lane = connection_place lanes arrow.connection;
  row = row_place row;
  carried = record_place lanes arrows arrow.carried;
  told = record_place lanes arrows arrow.told;
  mark = mark_of marks arrow.number;
}
