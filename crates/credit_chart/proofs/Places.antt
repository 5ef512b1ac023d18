-- What stands at a place of a list of columns, when one is put there, and when pairs of them become one.
use Rattle.std.proofs.Common.{◌≡◌, refl, sym, ap, ◌∙◌, ◌<◌, ◌≤◌, ◌+◌, ◌*◌, ◌-◌, ◌/◌, ◌%◌, ℕ, Bool, true, false, leb, List, length, take, set, get_or, Option, None, min, ◌==◌, eqb-true, eq-eqb, ne_eqb, arith}
use Rattle.std.proofs.lemmas.Bool.{leb-true, leb-false}
use Rattle.std.proofs.lemmas.List.{get_or-set_same, get_or-set_other, get_or-take, get_or_past, length-take}
use Rattle.credit_chart.specs.declared.level.Quantity.{Quantity}
use Rattle.credit_chart.specs.declared.thinning.Column.{Column}
use Rattle.credit_chart.specs.Thinning.{both, extent_in, extent_place}

pub place_past : (quantity : Quantity) (columns : List (Option Column)) (place : ℕ) → length columns ≤ place → extent_place quantity columns place ≡ None
place_past quantity columns place le = ap (extent_in quantity) (get_or_past columns place None le)

place_put : (quantity : Quantity) (columns : List (Option Column)) (place : ℕ) (column : Option Column) → place < length columns → extent_place quantity (set columns place column) place ≡ extent_in quantity column
place_put quantity columns place column below = ap (extent_in quantity) (get_or-set_same columns place column None below)

place_other : (quantity : Quantity) (columns : List (Option Column)) (place k : ℕ) (column : Option Column) → (k == place) ≡ false → extent_place quantity (set columns place column) k ≡ extent_place quantity columns k
place_other quantity columns place k column off =
    ap (extent_in quantity) (get_or-set_other columns place k column None (λ same. let never : true ≡ false = sym (eq-eqb k place same) ∙ off in absurd cc))

before : (k place : ℕ) → (k == place) ≡ false → k < place + 1 → k < place
before k place off lt = by (leb place k) refl
  where
    by : (b : Bool) → leb place k ≡ b → k < place
    by false under = leb-false place k under
    by true over =
        let same : k ≡ place = omega (arith, lt, leb-true place k over) in
        let never : true ≡ false = sym (eq-eqb k place same) ∙ off in
        absurd cc

-- ---- pairs

-- at the places in front of one they are joined, and behind that they stay
module _ (old now : List (Option Column)) (place : ℕ)
    (joined : (quantity : Quantity) (k : ℕ) → k < place → extent_place quantity now k ≡ both (extent_place quantity old (k * 2)) (extent_place quantity old (k * 2 + 1)))
    (others : (quantity : Quantity) (k : ℕ) → place ≤ k → extent_place quantity now k ≡ extent_place quantity old k)
    (first second pair : Option Column) (below : place < length now) (is_first : first ≡ get_or now (place * 2) None) (is_second : second ≡ get_or now (place * 2 + 1) None)
    (is_pair : (quantity : Quantity) → extent_in quantity pair ≡ both (extent_in quantity first) (extent_in quantity second)) where
  pair_is : (quantity : Quantity) → extent_in quantity pair ≡ both (extent_place quantity old (place * 2)) (extent_place quantity old (place * 2 + 1))
  pair_is quantity =
      is_pair quantity
      ∙ (ap (λ o. both o (extent_in quantity second)) (ap (extent_in quantity) is_first ∙ others quantity (place * 2) (omega arith))
      ∙ ap (both (extent_place quantity old (place * 2))) (ap (extent_in quantity) is_second ∙ others quantity (place * 2 + 1) (omega arith)))

  pub joined_more : (quantity : Quantity) (k : ℕ) → k < place + 1 → extent_place quantity (set now place pair) k ≡ both (extent_place quantity old (k * 2)) (extent_place quantity old (k * 2 + 1))
  joined_more quantity k lt = by (k == place) refl
    where
      by : (b : Bool) → (k == place) ≡ b → extent_place quantity (set now place pair) k ≡ both (extent_place quantity old (k * 2)) (extent_place quantity old (k * 2 + 1))
      by true is =
          let same : k ≡ place = eqb-true k place is in
          ap (extent_place quantity (set now place pair)) same
          ∙ (place_put quantity now place pair below ∙ (pair_is quantity ∙ ap (λ n. both (extent_place quantity old (n * 2)) (extent_place quantity old (n * 2 + 1))) (sym same)))
      by false off = place_other quantity now place k pair off ∙ joined quantity k (before k place off lt)

  pub others_more : (quantity : Quantity) (k : ℕ) → place + 1 ≤ k → extent_place quantity (set now place pair) k ≡ extent_place quantity old k
  others_more quantity k le = place_other quantity now place k pair (ne_eqb k place (λ same. omega (arith, le, same))) ∙ others quantity k (omega (arith, le))

-- all of them, where so many are left as there are pairs
pub joined_all : (old now : List (Option Column)) (half : ℕ) → length now ≡ length old → half ≡ length old - length old / 2
    → ((quantity : Quantity) (k : ℕ) → k < half → extent_place quantity now k ≡ both (extent_place quantity old (k * 2)) (extent_place quantity old (k * 2 + 1)))
    → (quantity : Quantity) (k : ℕ) → extent_place quantity (take half now) k ≡ both (extent_place quantity old (k * 2)) (extent_place quantity old (k * 2 + 1))
joined_all old now half long is joined quantity k = by (leb half k) refl
  where
    few : length (take half now) ≤ half
    few = let many : length (take half now) ≡ min half (length now) = length-take half now in omega (arith, many)

    by : (b : Bool) → leb half k ≡ b → extent_place quantity (take half now) k ≡ both (extent_place quantity old (k * 2)) (extent_place quantity old (k * 2 + 1))
    by false under = ap (extent_in quantity) (get_or-take half now k None (leb-false half k under)) ∙ joined quantity k (leb-false half k under)
    by true over =
        let behind = leb-true half k over in
        place_past quantity (take half now) k (omega (arith, few, behind))
        ∙ sym (ap (λ o. both o (extent_place quantity old (k * 2 + 1))) (place_past quantity old (k * 2) (omega (arith, is, behind)))
        ∙ place_past quantity old (k * 2 + 1) (omega (arith, is, behind)))

pub half_long : (old now : List (Option Column)) (half : ℕ) → length now ≡ length old → half ≡ length old - length old / 2 → length (take half now) * 2 ≡ length old + length old % 2
half_long old now half long is = let many : length (take half now) ≡ min half (length now) = length-take half now in omega (arith, many, long, is)
