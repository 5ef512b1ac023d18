-- The lowest and the highest of values, found one by one, and of the values of both of two lists.
use Rattle.std.proofs.Common.{◌≡◌, ℕ, ◌<◌, ◌≤◌, ◌⊎◌, inl, inr, min, max, Bool, true, false, leb, Contains, List, [], ◌∷◌, ◌++◌, Option, Some, None, option_map, refl, sym, ap, subst, ◌∙◌, append_assoc, append-nil, arith}
use Rattle.std.proofs.lemmas.Bool.{leb-true, leb-false}
use Rattle.std.proofs.lemmas.List.Elements.{All-push, All-weaker, Contains-append_left, Contains-push, filter_map-append}
use Rattle.credit_chart.specs.declared.level.Level.{Level}
use Rattle.credit_chart.specs.declared.level.Quantity.{Quantity}
use Rattle.credit_chart.specs.declared.thinning.Extent.{Extent}
use Rattle.credit_chart.specs.Levels.{value_of}
use Rattle.credit_chart.specs.Thinning.{IsColumn, Spans, both, extent_of, extent_on, values_of, with_value}

-- ---- of the values of both

min_thrice : (a b c : ℕ) → min (min a b) c ≡ min a (min b c)
min_thrice a b c = omega arith

max_thrice : (a b c : ℕ) → max (max a b) c ≡ max a (max b c)
max_thrice a b c = omega arith

same_extent : (low high low' high' : ℕ) → low ≡ low' → high ≡ high' → Some ((let e : Extent = record { low = low; high = high } in e)) ≡ Some (record { low = low'; high = high' })
same_extent low high low' high' is so = rw (is, so) refl

first_both : (extent : Extent) (value : ℕ) (o : Option Extent) → both (Some (with_value (Some extent) value)) o ≡ both (Some extent) (both (Some (record { low = value; high = value })) o)
first_both extent value None = refl
first_both extent value (Some other) =
    same_extent (min (min extent.low value) other.low) (max (max extent.high value) other.high) (min extent.low (min value other.low)) (max extent.high (max value other.high))
    (min_thrice extent.low value other.low) (max_thrice extent.high value other.high)

some_both : (extent : Extent) (values : List ℕ) → extent_on (Some extent) values ≡ both (Some extent) (extent_of values)
some_both extent [] = refl
some_both extent (value ∷ rest) =
    some_both (with_value (Some extent) value) rest
    ∙ (first_both extent value (extent_of rest) ∙ ap (both (Some extent)) (sym (some_both (record { low = value; high = value }) rest)))

on_both : (extent : Option Extent) (values : List ℕ) → extent_on extent values ≡ both extent (extent_of values)
on_both None values = refl
on_both (Some extent) values = some_both extent values

extent_append : (extent : Option Extent) (values more : List ℕ) → extent_on extent (values ++ more) ≡ extent_on (extent_on extent values) more
extent_append extent [] more = refl
extent_append extent (value ∷ rest) more = extent_append (Some (with_value extent value)) rest more

pub levels_both : (quantity : Quantity) (levels more : List (Option Level)) → extent_of (values_of quantity (levels ++ more)) ≡ both (extent_of (values_of quantity levels)) (extent_of (values_of quantity more))
levels_both quantity levels more =
    ap extent_of (filter_map-append (option_map (value_of quantity)) levels more)
    ∙ (extent_append None (values_of quantity levels) (values_of quantity more) ∙ on_both (extent_of (values_of quantity levels)) (values_of quantity more))

-- ---- the lowest and the highest are among the values

min_by : (a b : ℕ) (t : Bool) → leb a b ≡ t → (min a b ≡ a) ⊎ (min a b ≡ b)
min_by a b true h = inl (omega (arith, leb-true a b h))
min_by a b false h = inr (omega (arith, leb-false a b h))

max_by : (a b : ℕ) (t : Bool) → leb a b ≡ t → (max a b ≡ a) ⊎ (max a b ≡ b)
max_by a b true h = inr (omega (arith, leb-true a b h))
max_by a b false h = inl (omega (arith, leb-false a b h))

among : (values : List ℕ) (before value now : ℕ) → Contains values before → (now ≡ before) ⊎ (now ≡ value) → Contains (values ++ value ∷ []) now
among values before value now there is =
    elim is [
      | inl same ↦ subst (Contains (values ++ value ∷ [])) (sym same) (Contains-append_left values (value ∷ []) before there)
      | inr same ↦ subst (Contains (values ++ value ∷ [])) (sym same) (Contains-push values value)
    ]

wider : (low high value v : ℕ) → (low ≤ v) × (v ≤ high) → (min low value ≤ v) × (v ≤ max high value)
wider low high value v so = (omega (arith, so.0), omega (arith, so.1))

column_more : (before : List ℕ) (extent : Option Extent) (value : ℕ) → IsColumn before extent → IsColumn (before ++ value ∷ []) (Some (with_value extent value))
column_more before None value is =
    subst (λ (t : List ℕ). Spans (t ++ value ∷ []) (record { low = value; high = value })) (sym is) (record {
      low = Contains-push [] value;
      high = Contains-push [] value;
      within = All-push (λ v. (value ≤ v) × (v ≤ value)) [] value (λ k d below. absurd (let f : k < 0 = below in omega (arith, f))) (omega arith, omega arith);
    })
column_more before (Some extent) value spans = record {
  low = among before extent.low value (min extent.low value) spans.low (min_by extent.low value (leb extent.low value) refl);
  high = among before extent.high value (max extent.high value) spans.high (max_by extent.high value (leb extent.high value) refl);
  within = All-push (λ v. (min extent.low value ≤ v) × (v ≤ max extent.high value)) before value
      (All-weaker (λ v. (extent.low ≤ v) × (v ≤ extent.high)) (λ v. (min extent.low value ≤ v) × (v ≤ max extent.high value)) (wider extent.low extent.high value) before spans.within)
      (omega arith, omega arith);
}

column_on : (before : List ℕ) (extent : Option Extent) (values : List ℕ) → IsColumn before extent → IsColumn (before ++ values) (extent_on extent values)
column_on before extent [] is = subst (λ (t : List ℕ). IsColumn t extent) (sym (append-nil before)) is
column_on before extent (value ∷ rest) is =
    subst (λ (t : List ℕ). IsColumn t (extent_on (Some (with_value extent value)) rest)) (append_assoc before (value ∷ []) rest)
    (column_on (before ++ value ∷ []) (Some (with_value extent value)) rest (column_more before extent value is))

pub column_kept : (values : List ℕ) → IsColumn values (extent_of values)
column_kept values = column_on [] None values refl
