-- Where columns and values stand, in pixels (own choice).
use Rattle.std.specs.Prelude.{ℕ, ◌+◌, ◌-◌, ◌*◌, ◌/◌, ◌^◌}
use Rattle.std.specs.Int.Count.{count_leading_zeros}
use Rattle.svg_text.specs.Numbers.{most}
use Rattle.credit_chart.specs.declared.level.Quantity.{Quantity}
use Rattle.credit_chart.specs.declared.level.Quantity.TheVariants.{Credit, Window, Waiting, Unsettled, Draining}
use Rattle.credit_chart.specs.declared.scale.Scale.{Scale}
use Rattle.credit_chart.specs.declared.scale.TheConstants.{COLUMNS, LEFT}

-- ---- columns

-- the lowest power of two above a number of 64 bits
abbrev pub power_above : ℕ → ℕ
power_above n = 2 ^ (64 - count_leading_zeros 64 n)

-- for how many records each column stands, of this many: the lowest power of two by which they leave one column free; how many columns
-- there are; and from one to the next
abbrev pub span_of : ℕ → ℕ
span_of records = power_above (records / COLUMNS)

abbrev pub count_of : ℕ → ℕ
count_of records = records / span_of records + 1

abbrev pub scale_of : ℕ → Scale
scale_of records = record { span = span_of records; count = count_of records; step = most (COLUMNS / count_of records) }

abbrev pub place_of : Scale → ℕ → ℕ
place_of scale column = most (LEFT + most (scale.step * most column))

-- ---- values

-- where the lowest value of a panel stands
abbrev pub bottom_of : Quantity → ℕ
bottom_of Credit = 200
bottom_of Window = 380
bottom_of Waiting = 560
bottom_of Unsettled = 740
bottom_of Draining = 800

-- how far above that the highest one stands
abbrev pub height_of : Quantity → ℕ
height_of Credit = 130
height_of Window = 130
height_of Waiting = 130
height_of Unsettled = 130
height_of Draining = 10

-- where a value stands, if this is the highest one
abbrev pub row_of : Quantity → ℕ → ℕ → ℕ
row_of quantity top value = bottom_of quantity - most (value * height_of quantity / top)
