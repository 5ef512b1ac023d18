-- Columns of levels, with one record more, and with two columns made one.
use Rattle.std.proofs.Common.{◌≡◌, refl, sym, ap, subst, ◌∙◌, ◌<◌, ◌≤◌, ◌+◌, ◌*◌, ◌-◌, ◌/◌, ◌%◌, ◌^◌, ℕ, zero, suc, Bool, true, false, leb, List, [], ◌∷◌, ◌++◌, length, Option, None, ◌==◌, eqb-true, eq-eqb, if◌then◌else◌, arith}
use Rattle.std.proofs.Math.Nat.{add-mul, mul-le-mul_right}
use Rattle.std.proofs.lemmas.Bool.{leb-true, leb-false}
use Rattle.std.proofs.lemmas.List.{get_or_append_left, get_or_push, length-append}
use Rattle.credit_chart.specs.declared.level.Level.{Level}
use Rattle.credit_chart.specs.declared.level.Quantity.{Quantity}
use Rattle.credit_chart.specs.declared.scale.TheConstants.{COLUMNS}
use Rattle.credit_chart.specs.declared.thinning.Column.{Column}
use Rattle.credit_chart.specs.declared.thinned.Thinned.{Thinned}
use Rattle.credit_chart.specs.Places.{span_of}
use Rattle.credit_chart.specs.Thinning.{both, column_of, extent_in, extent_of, extent_place, values_of}
use Rattle.credit_chart.specs.Thinned.{AreColumns, AreThinned, AreThinnedFor}
use Rattle.credit_chart.proofs.Columns.{column_after, column_before, column_behind, column_here, column_twice}
use Rattle.credit_chart.proofs.Places.{place_past}
use Rattle.credit_chart.proofs.Spans.{records_fill, some_free, span_same, span_twice}

-- ---- products

one-more : (m span : ℕ) → (m + 1) * span ≡ m * span + span
one-more m span = let one : 1 * span ≡ span = omega arith in add-mul m 1 span ∙ ap (λ n. m * span + n) one

less : (m n span : ℕ) → m < n → m * span + span ≤ n * span
less m n span lt = subst (λ k. k ≤ n * span) (one-more m span) (mul-le-mul_right span (let le : m + 1 ≤ n = omega (arith, lt) in le))

-- ---- one record more

module _ (levels : List (Option Level)) (span room : ℕ) (columns : List (Option Column)) (are : AreColumns levels span room columns) (found : Option Level) (column : Option Column)
    (is : (quantity : Quantity) → extent_in quantity column ≡ extent_of (values_of quantity (found ∷ []))) where
  abbrev more : List (Option Level)
  more = levels ++ found ∷ []

  many : length more ≡ length levels + 1
  many = length-append levels (found ∷ [])

  here : (quantity : Quantity) (place : ℕ) → place * span ≤ length levels → length levels < place * span + span → both (extent_place quantity columns place) (extent_in quantity column) ≡ column_of quantity span more place
  here quantity place begins ends =
      ap (λ o. both o (extent_in quantity column)) (are.extents quantity place)
      ∙ (ap (both (column_of quantity span levels place)) (is quantity) ∙ sym (column_here span place levels found quantity begins ends))

  -- in a new column, where the last one is full
  module _ (full : room ≡ 0) where
    fills : length levels ≡ length columns * span
    fills = let fits = are.fits in omega (arith, fits, full)

    new-extents : (quantity : Quantity) (place : ℕ) → extent_place quantity (columns ++ column ∷ []) place ≡ column_of quantity span more place
    new-extents quantity place = by (leb (length columns) place) refl
      where
        at : (b : Bool) → (place == length columns) ≡ b → length columns ≤ place → extent_place quantity (columns ++ column ∷ []) place ≡ column_of quantity span more place
        at true same le =
            let last : place ≡ length columns = eqb-true place (length columns) same in
            let start : place * span ≡ length levels = ap (λ n. n * span) last ∙ sym fills in
            ap (extent_in quantity) (get_or_push columns column None place (sym last))
            ∙ (ap (λ o. both o (extent_in quantity column)) (sym (place_past quantity columns place le))
            ∙ here quantity place (omega (arith, start)) (let some = are.some in omega (arith, start, some)))
        at false apart le =
            let behind : length columns < place = past (length columns) place apart le in
            let long : length (columns ++ column ∷ []) ≡ length columns + 1 = length-append columns (column ∷ []) in
            let start = less (length columns) place span behind in
            let some = are.some in
            place_past quantity (columns ++ column ∷ []) place (omega (arith, long, behind))
            ∙ (sym (column_behind quantity span place levels (omega (arith, fills, start)))
            ∙ sym (column_after span place levels found quantity (omega (arith, fills, start, some))))
          where
            past : (m n : ℕ) → (n == m) ≡ false → m ≤ n → m < n
            past m n off le = by-le (leb n m) refl
              where
                by-le : (b : Bool) → leb n m ≡ b → m < n
                by-le false under = leb-false n m under
                by-le true over =
                    let same : n ≡ m = omega (arith, le, leb-true n m over) in
                    let never : true ≡ false = sym (eq-eqb n m same) ∙ off in
                    absurd cc

        by : (b : Bool) → leb (length columns) place ≡ b → extent_place quantity (columns ++ column ∷ []) place ≡ column_of quantity span more place
        by false under =
            let below = leb-false (length columns) place under in
            let end = less place (length columns) span below in
            ap (extent_in quantity) (get_or_append_left columns (column ∷ []) None place below)
            ∙ (are.extents quantity place ∙ sym (column_before span place levels found quantity (omega (arith, fills, end))))
        by true over = at (place == length columns) refl (leb-true (length columns) place over)

    pub put_new : AreColumns more span (span - 1) (columns ++ column ∷ [])
    put_new =
        let some = are.some in
        let long : length (columns ++ column ∷ []) ≡ length columns + 1 = length-append columns (column ∷ []) in
        let product : length (columns ++ column ∷ []) * span ≡ length columns * span + span = ap (λ n. n * span) long ∙ one-more (length columns) span in
        record {
          fits = omega (arith, many, fills, product, some);
          some = omega (arith, some);
          extents = new-extents;
        }

  -- in the last one, where that has room
  module _ (free : room ≡ 0 → ⊥) (after : List (Option Column)) (long : length after ≡ length columns)
      (puts : (quantity : Quantity) (place : ℕ) → extent_place quantity after place ≡ (if place + 1 == length columns then both (extent_place quantity columns place) (extent_in quantity column) else extent_place quantity columns place)) where
    has-room : 0 < room
    has-room = by room free
      where
        by : (n : ℕ) → (n ≡ 0 → ⊥) → 0 < n
        by zero off = absurd (off refl)
        by (suc n) off = omega arith

    last-extents : (quantity : Quantity) (place : ℕ) → extent_place quantity after place ≡ column_of quantity span more place
    last-extents quantity place = puts quantity place ∙ by (place + 1 == length columns) refl
      where
        product : place + 1 ≡ length columns → length columns * span ≡ place * span + span
        product same = ap (λ n. n * span) (sym same) ∙ one-more place span

        apart : (b : Bool) → leb (place + 2) (length columns) ≡ b → (place + 1 == length columns) ≡ false → extent_place quantity columns place ≡ column_of quantity span more place
        apart true under off =
            let fits = are.fits in
            let some = are.some in
            let end = less (place + 1) (length columns) span (let le = leb-true (place + 2) (length columns) under in omega (arith, le)) in
            are.extents quantity place ∙ sym (column_before span place levels found quantity (omega (arith, fits, some, end, one-more place span)))
        apart false over off =
            let fits = are.fits in
            let free = has-room in
            let behind : length columns ≤ place = outside place (length columns) off (leb-false (place + 2) (length columns) over) in
            let start = mul-le-mul_right span behind in
            are.extents quantity place ∙ sym (column_after span place levels found quantity (omega (arith, fits, free, start)))
          where
            outside : (m n : ℕ) → (m + 1 == n) ≡ false → n < m + 2 → n ≤ m
            outside m n off lt = by-le (leb n m) refl
              where
                by-le : (b : Bool) → leb n m ≡ b → n ≤ m
                by-le true over = leb-true n m over
                by-le false under =
                    let same : m + 1 ≡ n = omega (arith, lt, leb-false n m under) in
                    let never : true ≡ false = sym (eq-eqb (m + 1) n same) ∙ off in
                    absurd cc

        by : (b : Bool) → (place + 1 == length columns) ≡ b → (if b then both (extent_place quantity columns place) (extent_in quantity column) else extent_place quantity columns place) ≡ column_of quantity span more place
        by true is_last =
            let fits = are.fits in
            let some = are.some in
            let free = has-room in
            let whole = product (eqb-true (place + 1) (length columns) is_last) in
            here quantity place (omega (arith, fits, some, whole)) (omega (arith, fits, free, whole))
        by false off = apart (leb (place + 2) (length columns)) refl off

    pub put_here : AreColumns more span (room - 1) after
    put_here =
        let fits = are.fits in
        let some = are.some in
        let free = has-room in
        let product : length after * span ≡ length columns * span = ap (λ n. n * span) long in
        record {
          fits = omega (arith, many, fits, product, free);
          some = omega (arith, some);
          extents = last-extents;
        }

-- ---- widened

-- so many spans and a part of one are a number of spans: there is no part
whole : (count span room many : ℕ) → many * span + room ≡ count * span → room < span → (count ≡ many) × (room ≡ 0)
whole count span room many is part = by (leb count many) refl (leb many count) refl
  where
    by : (b : Bool) → leb count many ≡ b → (c : Bool) → leb many count ≡ c → (count ≡ many) × (room ≡ 0)
    by false over c d =
        let more = less many count span (leb-false count many over) in
        absurd (omega (arith, more, is, part))
    by true le false under =
        let fewer = less count many span (leb-false many count under) in
        absurd (omega (arith, fewer, is, part))
    by true le true ge =
        let same : count ≡ many = omega (arith, leb-true count many le, leb-true many count ge) in
        let product : count * span ≡ many * span = ap (λ n. n * span) same in
        (same, omega (arith, is, product))

module _ (many : ℕ) (levels : List (Option Level)) (thinned : Thinned) (counts : length levels ≡ many + 1) (fits : thinned.records < 2 ^ 64) (are : AreThinnedFor many levels thinned) where
  records-are : thinned.records ≡ many + 1
  records-are = are.counted ∙ counts

  next : many + 1 < 2 ^ 64
  next = let is = records-are in omega (arith, fits, is)

  pub widened_same : thinned.records / COLUMNS < thinned.span → AreThinned levels thinned
  widened_same free = record {
    counted = are.counted;
    span = span_same many thinned.span next are.span (subst (λ n. n / COLUMNS < thinned.span) records-are free) ∙ ap span_of (sym counts);
    columns = are.columns;
    all = are.all;
  }

  module _ (none : thinned.span ≤ thinned.records / COLUMNS) where
    none-free : thinned.span ≤ (many + 1) / COLUMNS
    none-free = subst (λ n. thinned.span ≤ n / COLUMNS) records-are none

    fill : length levels ≡ COLUMNS * thinned.span
    fill = counts ∙ records_fill many thinned.span next are.span none-free

    all-full : (length thinned.columns.items ≡ COLUMNS) × (thinned.room ≡ 0)
    all-full = whole (length thinned.columns.items) thinned.span thinned.room COLUMNS (ap (λ n. n + thinned.room) (sym fill) ∙ are.columns.fits) are.columns.some

    pub twice-small : thinned.span * 2 < 2 ^ 64
    twice-small = let is = records_fill many thinned.span next are.span none-free in omega (arith, is, next)

    pub columns_twice : (columns : List (Option Column)) → length columns * 2 ≡ length thinned.columns.items + length thinned.columns.items % 2
        → ((quantity : Quantity) (place : ℕ) → extent_place quantity columns place ≡ both (extent_place quantity thinned.columns.items (place * 2)) (extent_place quantity thinned.columns.items (place * 2 + 1)))
        → AreColumns levels (thinned.span * 2) thinned.room columns
    columns_twice columns half joined =
        let full = all-full in
        let some = are.columns.some in
        let count : length columns ≡ 500 = omega (arith, half, full.0) in
        let product : length columns * (thinned.span * 2) ≡ 500 * (thinned.span * 2) = ap (λ n. n * (thinned.span * 2)) count in
        record {
          fits = omega (arith, fill, full.1, product);
          some = omega (arith, some);
          extents = λ quantity place.
              joined quantity place
              ∙ (ap (λ o. both o (extent_place quantity thinned.columns.items (place * 2 + 1))) (are.columns.extents quantity (place * 2))
              ∙ (ap (both (column_of quantity thinned.span levels (place * 2))) (are.columns.extents quantity (place * 2 + 1))
              ∙ sym (column_twice quantity thinned.span place levels)));
        }

    pub span_next : thinned.span * 2 ≡ span_of (length levels)
    span_next = span_twice many thinned.span next are.span none-free ∙ ap span_of (sym counts)

-- so they are never more than there may be
pub few_columns : (levels : List (Option Level)) (thinned : Thinned) → length levels < 2 ^ 64 → AreThinned levels thinned → length thinned.columns.items ≤ COLUMNS
few_columns levels thinned fits are = by (leb (length thinned.columns.items) COLUMNS) refl
  where
    by : (b : Bool) → leb (length thinned.columns.items) COLUMNS ≡ b → length thinned.columns.items ≤ COLUMNS
    by true le = leb-true (length thinned.columns.items) COLUMNS le
    by false over =
        let free : length levels / COLUMNS < thinned.span = subst (λ s. length levels / COLUMNS < s) (sym are.span) (some_free (length levels) fits) in
        let fits = are.columns.fits in
        let some = are.columns.some in
        let more = less COLUMNS (length thinned.columns.items) thinned.span (leb-false (length thinned.columns.items) COLUMNS over) in
        absurd (omega (arith, free, fits, some, more))

-- ---- no records

none-columns : (quantity : Quantity) (place : ℕ) → extent_place quantity [] place ≡ column_of quantity 1 [] place
none-columns quantity place = sym (column_behind quantity 1 place [] (omega arith))

pub none-are : AreColumns [] 1 0 []
none-are = record { fits = refl; some = omega arith; extents = none-columns }
