-- What columns stand for, with one record more, and with two columns made one.
use Rattle.std.proofs.Common.{◌≡◌, sym, ap, subst, ◌∙◌, ◌<◌, ◌≤◌, ℕ, ◌+◌, ◌*◌, List, [], ◌∷◌, ◌++◌, length, take, drop, Option, None, arith}
use Rattle.std.proofs.Math.Nat.{mul_assoc, mul_comm, add-mul}
use Rattle.std.proofs.Math.Seq.{take-add}
use Rattle.std.proofs.lemmas.List.{drop_all, drop-append-le, drop-drop, length-append, length-drop, take_all, take-append-le}
use Rattle.credit_chart.specs.declared.level.Level.{Level}
use Rattle.credit_chart.specs.declared.level.Quantity.{Quantity}
use Rattle.credit_chart.specs.declared.thinning.Extent.{Extent}
use Rattle.credit_chart.specs.Thinning.{both, column_of, extent_of, levels_at, values_of}
use Rattle.credit_chart.proofs.Extents.{levels_both}

abbrev extent : Quantity → List (Option Level) → Option Extent
extent quantity levels = extent_of (values_of quantity levels)

-- ---- where the records end

pub levels_behind : (span place : ℕ) (levels : List (Option Level)) → length levels ≤ place * span → levels_at span levels place ≡ []
levels_behind span place levels le = ap (take span) (drop_all (place * span) levels le) ∙ take_all span [] (omega arith)

pub column_behind : (quantity : Quantity) (span place : ℕ) (levels : List (Option Level)) → length levels ≤ place * span → column_of quantity span levels place ≡ None
column_behind quantity span place levels le = ap (extent quantity) (levels_behind span place levels le)

-- ---- one record more

module _ (span place : ℕ) (levels : List (Option Level)) (found : Option Level) where
  -- a column that is full stays
  levels_before : place * span + span ≤ length levels → levels_at span (levels ++ found ∷ []) place ≡ levels_at span levels place
  levels_before full =
      ap (take span) (drop-append-le (place * span) levels (found ∷ []) (omega (arith, full)))
      ∙ take-append-le span (drop (place * span) levels) (found ∷ []) (subst (λ n. span ≤ n) (sym (length-drop (place * span) levels)) (omega (arith, full)))

  -- and the one that the records end in has one more
  module _ (begins : place * span ≤ length levels) (ends : length levels < place * span + span) where
    rest-length : length (drop (place * span) levels) < span
    rest-length = subst (λ n. n < span) (sym (length-drop (place * span) levels)) (omega (arith, begins, ends))

    levels_here : levels_at span (levels ++ found ∷ []) place ≡ levels_at span levels place ++ found ∷ []
    levels_here =
        let rest = drop (place * span) levels in
        let short = rest-length in
        let many : length (rest ++ found ∷ []) ≡ length rest + 1 = length-append rest (found ∷ []) in
        ap (take span) (drop-append-le (place * span) levels (found ∷ []) begins)
        ∙ (take_all span (rest ++ found ∷ []) (subst (λ n. n ≤ span) (sym many) (omega (arith, short)))
        ∙ ap (λ (t : List (Option Level)). t ++ found ∷ []) (sym (take_all span rest (omega (arith, short)))))

  pub column_before : (quantity : Quantity) → place * span + span ≤ length levels → column_of quantity span (levels ++ found ∷ []) place ≡ column_of quantity span levels place
  column_before quantity full = ap (extent quantity) (levels_before full)

  pub column_here : (quantity : Quantity) → place * span ≤ length levels → length levels < place * span + span
      → column_of quantity span (levels ++ found ∷ []) place ≡ both (column_of quantity span levels place) (extent_of (values_of quantity (found ∷ [])))
  column_here quantity begins ends = ap (extent quantity) (levels_here begins ends) ∙ levels_both quantity (levels_at span levels place) (found ∷ [])

  pub column_after : (quantity : Quantity) → length levels < place * span → column_of quantity span (levels ++ found ∷ []) place ≡ column_of quantity span levels place
  column_after quantity behind =
      let many : length (levels ++ found ∷ []) ≡ length levels + 1 = length-append levels (found ∷ []) in
      column_behind quantity span place (levels ++ found ∷ []) (subst (λ n. n ≤ place * span) (sym many) (omega (arith, behind)))
      ∙ sym (column_behind quantity span place levels (omega (arith, behind)))

-- ---- two columns made one

first-half : (span place : ℕ) → place * (span * 2) ≡ place * 2 * span
first-half span place = ap (λ n. place * n) (mul_comm span 2) ∙ sym (mul_assoc place 2 span)

second-half : (span place : ℕ) → place * (span * 2) + span ≡ (place * 2 + 1) * span
second-half span place =
    ap (λ n. n + span) (first-half span place)
    ∙ (let one : span ≡ 1 * span = omega arith in ap (λ n. place * 2 * span + n) one ∙ sym (add-mul (place * 2) 1 span))

levels_twice : (span place : ℕ) (levels : List (Option Level)) → levels_at (span * 2) levels place ≡ levels_at span levels (place * 2) ++ levels_at span levels (place * 2 + 1)
levels_twice span place levels =
    let rest = drop (place * (span * 2)) levels in
    let two : span * 2 ≡ span + span = omega arith in
    ap (λ n. take n rest) two
    ∙ (take-add span span rest
    ∙ (ap (λ n. take span (drop n levels) ++ take span (drop span rest)) (first-half span place)
    ∙ ap (λ (t : List (Option Level)). levels_at span levels (place * 2) ++ take span t) (drop-drop span (place * (span * 2)) levels ∙ ap (λ n. drop n levels) (second-half span place))))

pub column_twice : (quantity : Quantity) (span place : ℕ) (levels : List (Option Level))
    → column_of quantity (span * 2) levels place ≡ both (column_of quantity span levels (place * 2)) (column_of quantity span levels (place * 2 + 1))
column_twice quantity span place levels =
    ap (extent quantity) (levels_twice span place levels) ∙ levels_both quantity (levels_at span levels (place * 2)) (levels_at span levels (place * 2 + 1))
