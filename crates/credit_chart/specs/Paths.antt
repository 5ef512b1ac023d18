-- A curve as the data of a path (SVG 1.1, 8.3: M goes to a place, V and H draw a line down or up, or across, to a place).
use Rattle.std.specs.Prelude.{ℕ, zero, suc, Bool, true, false, List, [], ◌++◌, codes, decimal, Option, Some, None, is_some}
use Rattle.credit_chart.specs.declared.level.Level.{Level}
use Rattle.credit_chart.specs.declared.level.Quantity.{Quantity}
use Rattle.credit_chart.specs.declared.scale.Scale.{Scale}
use Rattle.credit_chart.specs.declared.thinning.Extent.{Extent}
use Rattle.credit_chart.specs.Thinning.{column_of}
use Rattle.credit_chart.specs.Places.{place_of, row_of}

-- where a curve begins, if it does not come from the column before
abbrev pub begin_text : Bool → ℕ → ℕ → List ℕ
begin_text true place row = []
begin_text false place row = (codes "M" ++ decimal place) ++ (codes " " ++ decimal row)

-- in a column from the lowest to the highest value, and on to the next column
abbrev pub column_text : Quantity → Scale → ℕ → Bool → ℕ → Option Extent → List ℕ
column_text quantity scale top is_down column None = []
column_text quantity scale top is_down column (Some extent) =
    begin_text is_down (place_of scale column) (row_of quantity top extent.low)
    ++ ((codes "V" ++ decimal (row_of quantity top extent.low))
    ++ ((codes "V" ++ decimal (row_of quantity top extent.high))
    ++ (codes "H" ++ decimal (place_of scale (suc column)))))

-- the curve comes from the column in front of this one, which has a value
abbrev pub comes_to : Quantity → List (Option Level) → Scale → ℕ → Bool
comes_to quantity levels scale zero = false
comes_to quantity levels scale (suc column) = is_some (column_of quantity scale.span levels column)

-- the curve of a quantity over so many columns, if this is the highest value
abbrev pub path_text : Quantity → List (Option Level) → Scale → ℕ → ℕ → List ℕ
path_text quantity levels scale top zero = []
path_text quantity levels scale top (suc column) =
    path_text quantity levels scale top column
    ++ column_text quantity scale top (comes_to quantity levels scale column) column (column_of quantity scale.span levels column)
