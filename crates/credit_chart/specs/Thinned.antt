-- Levels of records, thinned on their way.
use Rattle.std.specs.Prelude.{◌≡◌, ◌<◌, ℕ, ◌+◌, ◌*◌, List, length, Option}
use Rattle.credit_chart.specs.declared.level.Level.{Level}
use Rattle.credit_chart.specs.declared.level.Quantity.{Quantity}
use Rattle.credit_chart.specs.declared.thinning.Column.{Column}
use Rattle.credit_chart.specs.declared.thinned.Thinned.{Thinned}
use Rattle.credit_chart.specs.Thinning.{column_of, extent_in, extent_of, extent_place, values_of}
use Rattle.credit_chart.specs.Places.{span_of}

-- each column stands for so many records of these: it has of each quantity the lowest and the highest value there; and the last one
-- takes so many records more
pub record AreColumns (levels : List (Option Level)) (span room : ℕ) (columns : List (Option Column)) : Type 0 where
  pub fits : length levels + room ≡ length columns * span
  pub some : room < span
  pub extents : (quantity : Quantity) (place : ℕ) → extent_place quantity columns place ≡ column_of quantity span levels place

-- what was thinned are these levels: each column stands for as many records as so many need
pub record AreThinnedFor (many : ℕ) (levels : List (Option Level)) (thinned : Thinned) : Type 0 where
  pub counted : thinned.records ≡ length levels
  pub span : thinned.span ≡ span_of many
  pub columns : AreColumns levels thinned.span thinned.room thinned.columns.items
  pub all : (quantity : Quantity) → extent_in quantity thinned.all ≡ extent_of (values_of quantity levels)

-- as many as they are
abbrev pub AreThinned : List (Option Level) → Thinned → Type 0
AreThinned levels thinned = AreThinnedFor (length levels) levels thinned
