-- What is kept and drawn of small levels, worked out by hand.
use Rattle.std.proofs.Common.{zero, suc, ◌≡◌, ◌≤◌, ℕ, List, [], ◌∷◌, ◌++◌, Option, Some, None, Contains, length, get_or, arith, ap, refl, true, false}
use Rattle.std.specs.Prelude.{codes}
use Rattle.std.specs.Fmt.{digits}
use Rattle.std.specs.Str.{chars}
use lib.Utf8.{encode}
use Rattle.svg_text.specs.declared.element.Element.TheVariants.{Title}
use Rattle.svg_text.specs.Drawn.{root_end, root_octets, start_octets}
use Rattle.svg_text.specs.Parts.{element_octets, label_octets}
use Rattle.std.specs.Int.Count.{count_leading_zeros}
use Rattle.credit_chart.specs.declared.level.Level.{Level}
use Rattle.credit_chart.specs.declared.level.Quantity.TheVariants.{Credit, Draining, Unsettled, Waiting, Window}
use Rattle.credit_chart.specs.declared.scale.Scale.{Scale}
use Rattle.credit_chart.specs.declared.scale.TheConstants.{ABOVE, BELOW, HEIGHT, LEFT, WIDTH}
use Rattle.credit_chart.specs.Levels.{value_of}
use Rattle.credit_chart.specs.Thinning.{Spans, both, extent_of, levels_at, top_of, values_of}
use Rattle.credit_chart.specs.Places.{count_of, row_of, span_of}
use Rattle.credit_chart.specs.Paths.{path_text}
use Rattle.credit_chart.specs.Curves.{HasCurves, heading, panels_octets, records_words}
use Rattle.credit_chart.proofs.Extents.{column_kept}

-- ---- values

-- ten deliveries might begin, three wait, and none is unsettled
ten : Level
ten = record { credit = 10; window = 2048; waiting = 3; unsettled = 0; is_draining = false }

-- one went out, and the client drains the link
nine : Level
nine = record { credit = 9; window = 2047; waiting = 2; unsettled = 1; is_draining = true }

ten_values : (value_of Credit ten ≡ 10) × (value_of Window ten ≡ 2048) × (value_of Waiting ten ≡ 3) × (value_of Unsettled ten ≡ 0) × (value_of Draining ten ≡ 0)
unfolding ten
ten_values = (refl, refl, refl, refl, refl)

nine_values : (value_of Waiting nine ≡ 2) × (value_of Unsettled nine ≡ 1) × (value_of Draining nine ≡ 1)
unfolding nine
nine_values = (refl, refl, refl)

-- a record without a level has none
some_values : values_of Credit (None ∷ Some ten ∷ None ∷ Some nine ∷ []) ≡ 10 ∷ 9 ∷ []
unfolding ten nine
some_values = refl

-- ---- the lowest and the highest

an_extent : extent_of (5 ∷ 3 ∷ 9 ∷ 4 ∷ []) ≡ Some (record { low = 3; high = 9 })
an_extent = refl

of_one : extent_of (5 ∷ []) ≡ Some (record { low = 5; high = 5 })
of_one = refl

of_none : extent_of [] ≡ None
of_none = refl

kept : Spans (5 ∷ 3 ∷ 9 ∷ 4 ∷ []) (record { low = 3; high = 9 })
kept = column_kept (5 ∷ 3 ∷ 9 ∷ 4 ∷ [])

-- a lowest value that is none of the values
low_is_none : Spans (5 ∷ []) (record { low = 4; high = 5 }) → ⊥
low_is_none spans = not_four spans.low
  where
    not_four : Contains {X = ℕ} (5 ∷ []) 4 → ⊥
    not_four (zero, below, is) = let f : ◌≡◌ {A = ℕ} 5 4 = is in omega (arith, f)
    not_four (suc k, below, is) = omega (arith, below)

-- a highest one that leaves one out
high_is_too_low : Spans (5 ∷ 9 ∷ []) (record { low = 5; high = 5 }) → ⊥
high_is_too_low spans = let at : (5 ≤ 9) × (9 ≤ 5) = spans.within 1 0 (omega arith) in omega (arith, at.1)

-- a lowest one that does
low_is_too_high : Spans (5 ∷ 9 ∷ []) (record { low = 9; high = 9 }) → ⊥
low_is_too_high spans = let at : (9 ≤ 5) × (5 ≤ 9) = spans.within 0 0 (omega arith) in omega (arith, at.0)

-- ---- columns

-- no records, and so many, have a column each; with one more a column stands for two
few_records : (span_of 0 ≡ 1) × (span_of 999 ≡ 1) × (count_of 999 ≡ 1000) × (span_of 1000 ≡ 2) × (count_of 1000 ≡ 501)
unfolding count_leading_zeros
few_records = (refl, refl, refl, refl, refl)

-- and so on
more_records : (span_of 1999 ≡ 2) × (count_of 1999 ≡ 1000) × (span_of 2000 ≡ 4) × (count_of 2000 ≡ 501)
unfolding count_leading_zeros
more_records = (refl, refl, refl, refl)

-- a million fit
many_records : (span_of 1000000 ≡ 1024) × (count_of 1000000 ≡ 977)
unfolding count_leading_zeros
many_records = (refl, refl)

-- of two columns made one: neither has a value, one has some, or both
two_made_one : (both None None ≡ None) × (both None (Some (record { low = 3; high = 5 })) ≡ Some (record { low = 3; high = 5 }))
    × (both (Some (record { low = 4; high = 9 })) (Some (record { low = 3; high = 5 })) ≡ Some (record { low = 3; high = 9 }))
two_made_one = (refl, refl, refl)

second_column : levels_at 2 (Some ten ∷ None ∷ Some nine ∷ []) 1 ≡ Some nine ∷ []
second_column = refl

behind_all : levels_at 2 (Some ten ∷ None ∷ Some nine ∷ []) 2 ≡ []
behind_all = refl

-- the highest value is at the top, 0 at the bottom
rows : (row_of Credit 10 10 ≡ 70) × (row_of Credit 10 0 ≡ 200) × (row_of Credit 10 5 ≡ 135) × (row_of Waiting 2 1 ≡ 495) × (row_of Draining 1 1 ≡ 790)
rows = (refl, refl, refl, refl, refl)

tops : (top_of Credit (Some nine ∷ Some ten ∷ None ∷ []) ≡ 10) × (top_of Credit (None ∷ []) ≡ 1)
unfolding ten nine
tops = (refl, refl)

-- ---- curves

-- columns for two records each, ten pixels wide
wide : Scale
wide = record { span = 2; count = 3; step = 10 }

-- a curve begins in the column that has a value first, and goes to the next one
begins : path_text Credit (None ∷ None ∷ Some ten ∷ Some nine ∷ Some ten ∷ []) wide 10 3 ≡ codes "M50 83V83V70H60V70V70H70"
unfolding wide ten nine digits
begins = refl

-- and breaks off where there is none
breaks_off : path_text Credit (Some ten ∷ Some ten ∷ None ∷ None ∷ Some nine ∷ []) wide 10 3 ≡ codes "M40 70V70V70H50M60 83V83V83H70"
unfolding wide ten nine digits
breaks_off = refl

-- ---- documents

above : heading Credit 10 ≡ codes "link credit, from 0 to 10"
unfolding digits
above = refl

a_document : (levels : List (Option Level)) (looks : List ℕ)
    → HasCurves (codes "t") levels ((root_octets WIDTH HEIGHT ++ (element_octets Title (codes "t") ++ (looks ++ (label_octets (LEFT, ABOVE) (codes "t") ++ (panels_octets levels ++ label_octets (LEFT, BELOW) (records_words (length levels))))))) ++ root_end)
a_document levels looks = record { looks = looks; parts = refl }

-- another title
another_title : (behind : List ℕ) → HasCurves (codes "u") [] ((root_octets WIDTH HEIGHT ++ (element_octets Title (codes "t") ++ behind)) ++ root_end) → ⊥
unfolding root_octets start_octets chars digits encode
another_title behind h = let f : ◌≡◌ {A = ℕ} 116 117 = ap (λ (octets : List ℕ). get_or octets 110 0) h.parts in omega (arith, f)
