-- Sizes, counts and the octets behind them: by their offsets as where they lie side by side.
use Rattle.std.proofs.Common.{◌≡◌, refl, sym, ap, ◌∙◌, ℕ, ◌+◌, ◌-◌, ◌≤◌, Bool, true, false, cond, List, length, take, drop, Option, Some, None, Ok, Err, arith}
use Rattle.std.specs.Prelude.{nat_lt}
use Rattle.std.proofs.lemmas.Bool.{ltb-false}
use Rattle.byteorder.specs.Endian.{big_number}
use Rattle.byteorder.specs.Numbers.{big_from-take}
use Rattle.amqp_types.specs.declared.code.SizeWidth.{SizeWidth}
use Rattle.amqp_types.specs.declared.fault.ValueFaultKind.TheVariants as kinds
use Rattle.amqp_types.specs.Codes.{size_len}
use Rattle.amqp_types.specs.Reading.{◌>>=◌ as ◌>>>◌, Read, fault, octets_at, sized_at, counted_at}
use Rattle.amqp_cuts.specs.Offsets.{◌>>=◌, window, past, number_in, sized_in, counted_in}
use Rattle.amqp_cuts.proofs.Windows.{window_len, window_front, window_rest}

-- so many octets, and those behind them
abbrev pub Cut : List ℕ → ℕ → ℕ → ℕ → Option ℕ → Read (List ℕ) → Type 0
Cut octets n at to None (Err d) = Unit {0}
Cut octets n at to None (Ok x) = ⊥
Cut octets n at to (Some next) (Err d) = ⊥
Cut octets n at to (Some next) (Ok x) =
    (next ≡ at + n) × (x.0 ≡ window octets at next) × (x.1 ≡ window octets next to) × (next ≤ to)

-- the octets behind a size, and those behind them
abbrev pub SizedCut : List ℕ → ℕ → ℕ → Option (ℕ × ℕ) → Read (List ℕ) → Type 0
SizedCut octets at to None (Err d) = Unit {0}
SizedCut octets at to None (Ok x) = ⊥
SizedCut octets at to (Some p) (Err d) = ⊥
SizedCut octets at to (Some p) (Ok x) =
    (x.0 ≡ window octets p.0 p.1) × (x.1 ≡ window octets p.1 to) × (at ≤ p.0) × (p.0 ≤ p.1) × (p.1 ≤ to)

-- a count, the octets of the items, and those behind them
abbrev pub CountedCut : List ℕ → ℕ → ℕ → Option (ℕ × ℕ × ℕ) → Read (ℕ × List ℕ) → Type 0
CountedCut octets at to None (Err d) = Unit {0}
CountedCut octets at to None (Ok x) = ⊥
CountedCut octets at to (Some c) (Err d) = ⊥
CountedCut octets at to (Some c) (Ok x) =
    (x.0.0 ≡ c.0) × (x.0.1 ≡ window octets c.1 c.2) × (x.1 ≡ window octets c.2 to) × (at ≤ c.1) × (c.1 ≤ c.2) × (c.2 ≤ to)

cut_by : (octets : List ℕ) (n k at to : ℕ) (less : Bool) → (less ≡ false → n ≤ to - at) → at ≤ to
    → Cut octets n at to (cond less None (Some (at + n))) (cond less (fault kinds.Short k) (Ok (take n (window octets at to), drop n (window octets at to))))
cut_by octets n k at to true long order = tt
cut_by octets n k at to false long order =
    let enough = long refl in
    let whole : at + n - at ≡ n = omega arith in (
      refl,
      ap (λ (m : ℕ). take m (window octets at to)) (sym whole) ∙ window_front octets at (at + n) to (omega (arith, enough, order)),
      ap (λ (m : ℕ). drop m (window octets at to)) (sym whole) ∙ window_rest octets at (at + n) to (omega arith) (omega (arith, enough, order)),
      omega (arith, enough, order),
    )

pub cut : (octets : List ℕ) (n k at to : ℕ) → at ≤ to → to ≤ length octets → Cut octets n at to (past n at to) (octets_at n k (window octets at to))
unfolding past octets_at
cut octets n k at to order room =
    rw (window_len octets at to room) (cut_by octets n k at to (nat_lt (to - at) n) (λ e. ltb-false _ _ e) order)

-- the number in the octets in front of an end
pub window_number : (octets : List ℕ) (n at next : ℕ) → at + n ≤ next → big_number n (window octets at next) ≡ big_number n (drop at octets)
window_number octets n at next fits = big_from-take 0 n (next - at) (drop at octets) (omega (arith, fits))

sized_end : (octets : List ℕ) (n at first to : ℕ) (r : Option ℕ) (s : Read (List ℕ)) → at ≤ first → first ≤ to → Cut octets n first to r s
    → SizedCut octets at to (r >>= λ end. Some (first, end)) s
sized_end octets n at first to None (Err d) order below is = tt
sized_end octets n at first to None (Ok x) order below is = absurd is
sized_end octets n at first to (Some end) (Err d) order below is = absurd is
sized_end octets n at first to (Some end) (Ok x) order below is = (is.1, is.2, order, omega (arith, is.0), is.3)

sized_by : (octets : List ℕ) (width : SizeWidth) (k at to : ℕ) (r : Option ℕ) (s : Read (List ℕ)) → to ≤ length octets → Cut octets (size_len width) at to r s
    → SizedCut octets at to (r >>= λ first. past (number_in width octets at) first to >>= λ end. Some (first, end)) (s >>> λ size. octets_at (big_number (size_len width) size.0) k size.1)
sized_by octets width k at to None (Err d) room is = tt
sized_by octets width k at to None (Ok x) room is = absurd is
sized_by octets width k at to (Some first) (Err d) room is = absurd is
sized_by octets width k at to (Some first) (Ok x) room is =
    let n = size_len width in
    let says : big_number n x.0 ≡ number_in width octets at =
    ap (big_number n) is.1 ∙ window_number octets n at first (omega (arith, is.0)) in
    rw (says, is.2) (sized_end octets (number_in width octets at) at first to (past (number_in width octets at) first to) (octets_at (number_in width octets at) k (window octets first to))
    (omega (arith, is.0)) is.3 (cut octets (number_in width octets at) k first to is.3 room))

pub sized_cut : (octets : List ℕ) (width : SizeWidth) (k at to : ℕ) → at ≤ to → to ≤ length octets → SizedCut octets at to (sized_in width octets at to) (sized_at width k (window octets at to))
unfolding sized_in sized_at
sized_cut octets width k at to order room =
    sized_by octets width k at to (past (size_len width) at to) (octets_at (size_len width) k (window octets at to)) room (cut octets (size_len width) k at to order room)

-- as many items as the size has octets at most
counted_few : (octets : List ℕ) (n m at p q to k : ℕ) (rest : List ℕ) (few : Bool) → at ≤ p → p + n ≤ q → q ≤ to → rest ≡ window octets q to
    → CountedCut octets at to (cond few None (Some (m, p + n, q))) (cond few (fault kinds.BadSize k) (Ok ((m, drop n (window octets p q)), rest)))
counted_few octets n m at p q to k rest true order mid below same = tt
counted_few octets n m at p q to k rest false order mid below same =
    let whole : p + n - p ≡ n = omega arith in (
      refl,
      ap (λ (i : ℕ). drop i (window octets p q)) (sym whole) ∙ window_rest octets p (p + n) q (omega arith) mid,
      same,
      omega (arith, order),
      mid,
      below,
    )

-- the size holds a count
counted_long : (octets : List ℕ) (width : SizeWidth) (at p q to k : ℕ) (rest : List ℕ) (short : Bool) → (short ≡ false → size_len width ≤ q - p) → at ≤ p → p ≤ q → q ≤ to → q ≤ length octets → rest ≡ window octets q to
    → CountedCut octets at to (cond short None (Some (p + size_len width)) >>= λ first. cond (nat_lt (q - p) (number_in width octets p)) None (Some (number_in width octets p, first, q)))
    (cond short (fault kinds.BadSize k) (cond (nat_lt (length (window octets p q)) (big_number (size_len width) (window octets p q))) (fault kinds.BadSize k) (Ok ((big_number (size_len width) (window octets p q), drop (size_len width) (window octets p q)), rest))))
counted_long octets width at p q to k rest true long order mid below room same = tt
counted_long octets width at p q to k rest false long order mid below room same =
    let enough = long refl in
    let says : big_number (size_len width) (window octets p q) ≡ number_in width octets p = window_number octets (size_len width) p q (omega (arith, enough, mid)) in
    rw (window_len octets p q room, says) (counted_few octets (size_len width) (number_in width octets p) at p q to k rest (nat_lt (q - p) (number_in width octets p)) order (omega (arith, enough, mid)) below same)

counted_by : (octets : List ℕ) (width : SizeWidth) (k at to : ℕ) (r : Option (ℕ × ℕ)) (s : Read (List ℕ)) → to ≤ length octets → SizedCut octets at to r s
    → CountedCut octets at to
    (r >>= λ whole. past (size_len width) whole.0 whole.1 >>= λ first. cond (nat_lt (whole.1 - whole.0) (number_in width octets whole.0)) None (Some (number_in width octets whole.0, first, whole.1)))
    (s >>> λ whole. cond (nat_lt (length whole.0) (size_len width)) (fault kinds.BadSize k) (cond (nat_lt (length whole.0) (big_number (size_len width) whole.0)) (fault kinds.BadSize k) (Ok ((big_number (size_len width) whole.0, drop (size_len width) whole.0), whole.1))))
unfolding past
counted_by octets width k at to None (Err d) room is = tt
counted_by octets width k at to None (Ok x) room is = absurd is
counted_by octets width k at to (Some p) (Err d) room is = absurd is
counted_by octets width k at to (Some p) (Ok x) room is =
    let len = window_len octets p.0 p.1 (omega (arith, is.4, room)) in
    let short : nat_lt (length (window octets p.0 p.1)) (size_len width) ≡ nat_lt (p.1 - p.0) (size_len width) = ap (λ (n : ℕ). nat_lt n (size_len width)) len in
    rw (is.0, short) (counted_long octets width at p.0 p.1 to k x.1 (nat_lt (p.1 - p.0) (size_len width)) (λ e. ltb-false _ _ e) is.2 is.3 is.4 (omega (arith, is.4, room)) is.1)

pub counted_cut : (octets : List ℕ) (width : SizeWidth) (k at to : ℕ) → at ≤ to → to ≤ length octets → CountedCut octets at to (counted_in width octets at to) (counted_at width k (window octets at to))
unfolding counted_in counted_at
counted_cut octets width k at to order room =
    counted_by octets width k at to (sized_in width octets at to) (sized_at width k (window octets at to)) room (sized_cut octets width k at to order room)
