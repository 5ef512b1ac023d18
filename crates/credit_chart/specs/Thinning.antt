-- What is kept of the records for which a column of pixels stands.
use Rattle.std.specs.Prelude.{◌≡◌, ◌≤◌, ℕ, ◌*◌, min, max, List, [], ◌∷◌, take, drop, get_or, Option, Some, None, All, Contains, filter_map, option_map}
use Rattle.credit_chart.specs.declared.level.Level.{Level}
use Rattle.credit_chart.specs.declared.level.Quantity.{Quantity}
use Rattle.credit_chart.specs.declared.thinning.Column.{Column}
use Rattle.credit_chart.specs.declared.thinning.Extent.{Extent}
use Rattle.credit_chart.specs.Levels.{value_of}

-- the values of the records that have a level, in order
abbrev pub values_of : Quantity → List (Option Level) → List ℕ
values_of quantity levels = filter_map (option_map (value_of quantity)) levels

-- ---- the lowest and the highest

-- both, with one value more
abbrev pub with_value : Option Extent → ℕ → Extent
with_value None value = record { low = value; high = value }
with_value (Some extent) value = record { low = min extent.low value; high = max extent.high value }

-- both, of these values and those that come
abbrev pub extent_on : Option Extent → List ℕ → Option Extent
extent_on extent [] = extent
extent_on extent (value ∷ rest) = extent_on (Some (with_value extent value)) rest

abbrev pub extent_of : List ℕ → Option Extent
extent_of values = extent_on None values

-- what that means: both are among the values, and each value lies between them
pub record Spans (values : List ℕ) (extent : Extent) : Type 0 where
  pub low : Contains values extent.low
  pub high : Contains values extent.high
  pub within : All (λ value. (extent.low ≤ value) × (value ≤ extent.high)) values

-- there is none just where there are no values
abbrev pub IsColumn : List ℕ → Option Extent → Type 0
IsColumn values None = values ≡ []
IsColumn values (Some extent) = Spans values extent

-- of the values of both
abbrev pub both : Option Extent → Option Extent → Option Extent
both None other = other
both (Some extent) None = Some extent
both (Some extent) (Some other) = Some (record { low = min extent.low other.low; high = max extent.high other.high })

-- ---- columns

-- the levels for which a column stands, by its number, where each stands for so many records
abbrev pub levels_at : ℕ → List (Option Level) → ℕ → List (Option Level)
levels_at span levels column = take span (drop (column * span) levels)

-- what is drawn there
abbrev pub column_of : Quantity → ℕ → List (Option Level) → ℕ → Option Extent
column_of quantity span levels column = extent_of (values_of quantity (levels_at span levels column))

-- the highest value of all records; 1 at least
abbrev pub highest_in : Option Extent → ℕ
highest_in None = 1
highest_in (Some extent) = max extent.high 1

abbrev pub top_of : Quantity → List (Option Level) → ℕ
top_of quantity levels = highest_in (extent_of (values_of quantity levels))

-- ---- values of the code

-- the lowest and the highest value of a quantity that a column has
abbrev pub extent_at : Quantity → Column → Extent
extent_at quantity column = record { low = value_of quantity column.low; high = value_of quantity column.high }

abbrev pub extent_in : Quantity → Option Column → Option Extent
extent_in quantity o = option_map (extent_at quantity) o

-- at a place of a list of columns, where there is one
abbrev pub extent_place : Quantity → List (Option Column) → ℕ → Option Extent
extent_place quantity columns place = extent_in quantity (get_or columns place None)
