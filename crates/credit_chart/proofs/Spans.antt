-- For how many records a column stands, with one record more.
use Rattle.std.proofs.Common.{◌≡◌, refl, sym, ap, subst, ◌∙◌, ◌<◌, ◌≤◌, Bool, true, false, leb, Option, Some, None, min, ℕ, zero, suc, ◌+◌, ◌*◌, ◌-◌, ◌/◌, ◌^◌, arith}
use Rattle.std.proofs.Math.Nat.{div-lt_iff_lt-mul}
use Rattle.std.specs.Prelude.{unwrap_or, SomeIff}
use Rattle.std.specs.Int.Count.{count_leading_zeros, leading_unique}
use Rattle.std.proofs.lemmas.Bool.{leb-true, leb-false}
use Rattle.std.proofs.lemmas.Nat.{leading_length, pow-add}
use Rattle.svg_text.specs.Numbers.{most}
use Rattle.credit_chart.specs.declared.scale.TheConstants.{COLUMNS}
use Rattle.credit_chart.specs.declared.scale.Scale.{Scale}
use Rattle.credit_chart.specs.Places.{count_of, power_above, scale_of, span_of}

-- ---- the lowest power of two above a number

-- it is this one, where twice the number reaches it
power_is : (n m : ℕ) → m ≤ 64 → n < 2 ^ m → 2 ^ m ≤ 2 * n + 1 → power_above n ≡ 2 ^ m
power_is n m most above reaches =
    let left : 64 - m ≡ count_leading_zeros 64 n = leading_unique 64 n (64 - m) m (omega (arith, most)) above reaches in
    let same : 64 - count_leading_zeros 64 n ≡ m = omega (arith, most, left) in
    ap (λ k. 2 ^ k) same

pub record IsPower (n power : ℕ) : Type 0 where
  pub exponent : ℕ
  pub most : exponent ≤ 64
  pub is : power ≡ 2 ^ exponent
  pub above : n < power
  pub reaches : power ≤ 2 * n + 1

pub power_of : (n : ℕ) → n < 2 ^ 64 → IsPower n (power_above n)
power_of n below =
    let found = leading_length 64 n below in
    let m = found.0 in
    let sum : count_leading_zeros 64 n + m ≡ 64 = found.1 in
    let above : n < 2 ^ m = found.2 in
    let reaches : 2 ^ m ≤ 2 * n + 1 = found.3 in
    let is : power_above n ≡ 2 ^ m = ap (λ k. 2 ^ k) (let same : 64 - count_leading_zeros 64 n ≡ m = omega (arith, sum) in same) in
    record {
      exponent = m;
      most = omega (arith, sum);
      is = is;
      above = subst (λ p. n < p) (sym is) above;
      reaches = subst (λ p. p ≤ 2 * n + 1) (sym is) reaches;
    }

-- ---- with one record more

module _ (records span : ℕ) (fits : records + 1 < 2 ^ 64) (is : span ≡ span_of records) where
  power : IsPower (records / COLUMNS) span
  power = subst (IsPower (records / COLUMNS)) (sym is) (power_of (records / COLUMNS) (omega (arith, fits)))

  -- while one column is free it stays
  pub span_same : (records + 1) / COLUMNS < span → span ≡ span_of (records + 1)
  span_same free =
      let p = power in
      p.is
      ∙ sym (power_is ((records + 1) / COLUMNS) p.exponent p.most (subst (λ s. (records + 1) / COLUMNS < s) p.is free)
      (subst (λ s. s ≤ 2 * ((records + 1) / COLUMNS) + 1) p.is (omega (arith, p.reaches))))

  -- and then it doubles
  module _ (none : span ≤ (records + 1) / COLUMNS) where
    pub records_fill : records + 1 ≡ COLUMNS * span
    records_fill = let p = power in omega (arith, p.above, none)

    below : (m : ℕ) → m ≤ 64 → span ≡ 2 ^ m → m + 1 ≤ 64
    below m most is_power = by (leb 64 m) refl
      where
        by : (b : Bool) → leb 64 m ≡ b → m + 1 ≤ 64
        by false under = omega (arith, leb-false 64 m under)
        by true over =
            let last : m ≡ 64 = omega (arith, most, leb-true 64 m over) in
            let whole : span ≡ 2 ^ 64 = is_power ∙ ap (λ k. 2 ^ k) last in
            absurd (omega (arith, whole, none, fits))

    pub span_twice : span * 2 ≡ span_of (records + 1)
    span_twice =
        let p = power in
        let twice : span * 2 ≡ 2 ^ (p.exponent + 1) = ap (λ s. s * 2) p.is ∙ sym (pow-add 2 p.exponent 1) in
        twice
        ∙ sym (power_is ((records + 1) / COLUMNS) (p.exponent + 1) (below p.exponent p.most p.is) (subst (λ s. (records + 1) / COLUMNS < s) twice (omega (arith, p.above, none, records_fill)))
        (subst (λ s. s ≤ 2 * ((records + 1) / COLUMNS) + 1) twice (omega (arith, none))))

-- so many records leave a column free
pub some_free : (records : ℕ) → records < 2 ^ 64 → records / COLUMNS < span_of records
some_free records fits = (power_of (records / COLUMNS) (omega (arith, fits))).above

-- ---- columns

some-factor : (n most d : ℕ) → n < most * d → 0 < d
some-factor n most zero lt = absurd (omega (arith, lt))
some-factor n most (suc d) lt = omega arith

pub count_few : (records : ℕ) → records < 2 ^ 64 → count_of records ≤ COLUMNS
count_few records fits =
    let free = some_free records fits in
    let small : records < COLUMNS * span_of records = omega (arith, free) in
    let below : records / span_of records < COLUMNS = (div-lt_iff_lt-mul (some-factor records COLUMNS (span_of records) small)).1 small in
    omega (arith, below)

-- how many there are, as it is computed
pub count_is : (records span : ℕ) → records < 2 ^ 64 → span ≡ span_of records → (o : Option ℕ) → SomeIff o (0 < span) (records / span) → (count : ℕ) → count ≡ min (unwrap_or o 0 + 1) (2 ^ 64 - 1) → count ≡ count_of records
count_is records span fits is None divides count counts =
    let free = some_free records fits in
    absurd (divides (some-factor records COLUMNS span (let small : records < COLUMNS * span_of records = omega (arith, free) in subst (λ d. records < COLUMNS * d) (sym is) small)))
count_is records span fits is (Some quotient) divides count counts =
    let same : quotient ≡ records / span_of records = divides.1 ∙ ap (λ d. records / d) is in
    let few = count_few records fits in
    omega (arith, counts, same, few)

pub scale_is : (records span count step : ℕ) → span ≡ span_of records → count ≡ count_of records → step ≡ most (COLUMNS / count) → (let s : Scale = record { span = span; count = count; step = step } in s) ≡ scale_of records
scale_is records span count step is counts steps =
    let next : step ≡ most (COLUMNS / count_of records) = steps ∙ ap (λ n. most (COLUMNS / n)) counts in
    rw (is, counts, next) refl
