-- The same of lists, maps and described values, by what is so of the values in them.
use Rattle.std.proofs.Common.{◌≡◌, refl, ap, ℕ, zero, suc, ◌+◌, ◌≤◌, Bool, true, false, cond, List, [], ◌∷◌, length, Option, Some, None, Result, Ok, Err, arith}
use Rattle.std.specs.Prelude.{◌==◌}
use Rattle.std.proofs.lemmas.Bool.{eq-eqb, ne_eqb}
use Rattle.amqp_types.specs.declared.fault.ValueFault.{ValueFault}
use Rattle.amqp_types.specs.declared.fault.ValueFaultKind.TheVariants as kinds
use Rattle.amqp_types.specs.declared.code.SizeWidth.{SizeWidth}
use Rattle.amqp_types.specs.declared.code.Kind.{Kind}
use Rattle.amqp_types.specs.Codes.{size_len}
use Rattle.amqp_types.specs.Part.{Part, Nested, Described, Seen}
use Rattle.amqp_types.specs.Reading.{◌>>=◌ as ◌>>>◌, Read, fault, counted_at, items_at, all_used, is_odd, nested_at, described_at}
use Rattle.amqp_cuts.specs.Offsets.{◌>>=◌, window, counted_in}
use Rattle.amqp_cuts.specs.Passing.{Passes, past_items, all_past, past_nested, past_described}
use Rattle.amqp_cuts.proofs.Windows.{window_len}
use Rattle.amqp_cuts.proofs.Pieces.{CountedCut, counted_cut}
use Rattle.amqp_cuts.proofs.Leaves.{Leaves, LeavesRest, rest_from}

-- the end is reached, or nothing is read
abbrev pub Ends : {A : Type 0} → ℕ → Option ℕ → Result A ValueFault → Type 0
Ends end None (Err d) = Unit {0}
Ends end None (Ok x) = ⊥
Ends end (Some next) (Err d) = ⊥
Ends end (Some next) (Ok x) = next ≡ end

-- ---- items

-- a reader of items, up to an end
abbrev pub ItemLeaves : List ℕ → ℕ → Passes → (ℕ → List ℕ → Read Seen) → Type 0
ItemLeaves octets to item reader = (k at : ℕ) → at ≤ to → Leaves octets at to (item at to) (reader k (window octets at to))

items_step : (octets : List ℕ) (to : ℕ) (item : Passes) (reader : ℕ → List ℕ → Read Seen) (n k at : ℕ) (r : Option ℕ) (s : Read Seen)
    → ((k at : ℕ) → at ≤ to → LeavesRest octets at to (past_items item n at to) (items_at reader n k (window octets at to))) → Leaves octets at to r s
    → LeavesRest octets at to (r >>= λ next. past_items item n next to) (s >>> λ first. items_at reader n (k + length first.0.octets) first.1)
items_step octets to item reader n k at None (Err d) others is = tt
items_step octets to item reader n k at None (Ok x) others is = absurd is
items_step octets to item reader n k at (Some next) (Err d) others is = absurd is
items_step octets to item reader n k at (Some next) (Ok x) others is =
    rw is.0 (rest_from octets at next to (past_items item n next to) (items_at reader n (k + length x.0.octets) (window octets next to)) is.1 (others (k + length x.0.octets) next is.2))

pub items_leave : (octets : List ℕ) (to : ℕ) (item : Passes) (reader : ℕ → List ℕ → Read Seen) → ItemLeaves octets to item reader
    → (n k at : ℕ) → at ≤ to → LeavesRest octets at to (past_items item n at to) (items_at reader n k (window octets at to))
unfolding past_items items_at
items_leave octets to item reader each zero k at order = (refl, omega arith, order)
items_leave octets to item reader each (suc n) k at order =
    items_step octets to item reader n k at (item at to) (reader k (window octets at to)) (λ k at order. items_leave octets to item reader each n k at order) (each k at order)

used_some : (octets : List ℕ) (k next end : ℕ) (rest : List ℕ) → end ≤ length octets → next ≤ end → rest ≡ window octets next end → Ends end (all_past (Some next) end) (all_used k (Ok rest))
unfolding all_past
used_some octets k next end [] room le same =
    let all : next ≡ end = omega (arith, ap length same, window_len octets next end room, le) in
    let reached : (next == end) ≡ true = eq-eqb _ _ all in
    rw reached refl
used_some octets k next end (b ∷ rest) room le same =
    let less : (next == end) ≡ false = ne_eqb _ _ (omega (arith, ap length same, window_len octets next end room)) in
    rw less tt

pub used : (octets : List ℕ) (k at end : ℕ) (r : Option ℕ) (s : Result (List ℕ) ValueFault) → end ≤ length octets → LeavesRest octets at end r s → Ends end (all_past r end) (all_used k s)
unfolding all_past
used octets k at end None (Err d) room is = tt
used octets k at end None (Ok rest) room is = absurd is
used octets k at end (Some next) (Err d) room is = absurd is
used octets k at end (Some next) (Ok rest) room is = used_some octets k next end rest room is.2 is.0

nested_if : (octets : List ℕ) (kind : Kind) (n k at first end to : ℕ) (body rest : List ℕ) (r : Option ℕ) (s : Result (List ℕ) ValueFault) (odd : Bool) → rest ≡ window octets end to → at ≤ end → end ≤ to → Ends end r s
    → Leaves {A = Part} octets at to (cond odd None r) (cond odd (fault kinds.OddMap k) (s >>> λ end. Ok (Nested kind n body, rest)))
nested_if octets kind n k at first end to body rest r s true same order below is = tt
nested_if octets kind n k at first end to body rest None (Err d) false same order below is = tt
nested_if octets kind n k at first end to body rest None (Ok x) false same order below is = absurd is
nested_if octets kind n k at first end to body rest (Some next) (Err d) false same order below is = absurd is
nested_if octets kind n k at first end to body rest (Some next) (Ok x) false same order below is =
    (rw is same, omega (arith, is, order), omega (arith, is, below))

nested_by : (octets : List ℕ) (item : Passes) (reader : ℕ → List ℕ → Read Seen) (kind : Kind) (width : SizeWidth) (k at to : ℕ) (r : Option (ℕ × ℕ × ℕ)) (s : Read (ℕ × List ℕ)) → to ≤ length octets
    → ((end : ℕ) → end ≤ length octets → ItemLeaves octets end item reader) → CountedCut octets at to r s
    → Leaves octets at to (r >>= λ counted. cond (is_odd kind counted.0) None (all_past (past_items item counted.0 counted.1 counted.2) counted.2))
    (s >>> λ counted. cond (is_odd kind counted.0.0) (fault kinds.OddMap k) (all_used k (items_at reader counted.0.0 (k + 1 + size_len width + size_len width) counted.0.1) >>> λ end. Ok (Nested kind counted.0.0 counted.0.1, counted.1)))
nested_by octets item reader kind width k at to None (Err d) room each is = tt
nested_by octets item reader kind width k at to None (Ok x) room each is = absurd is
nested_by octets item reader kind width k at to (Some c) (Err d) room each is = absurd is
nested_by octets item reader kind width k at to (Some c) (Ok x) room each is =
    let place = k + 1 + size_len width + size_len width in
    let inside : c.2 ≤ length octets = omega (arith, is.5, room) in
    rw (is.0, is.1) (nested_if octets kind c.0 k at c.1 c.2 to (window octets c.1 c.2) x.1 (all_past (past_items item c.0 c.1 c.2) c.2) (all_used k (items_at reader c.0 (k + 1 + size_len width + size_len width) (window octets c.1 c.2))) (is_odd kind c.0)
    is.2 (omega (arith, is.3, is.4)) is.5
    (used octets k c.1 c.2 (past_items item c.0 c.1 c.2) (items_at reader c.0 (k + 1 + size_len width + size_len width) (window octets c.1 c.2)) inside (items_leave octets c.2 item reader (each c.2 inside) c.0 (k + 1 + size_len width + size_len width) c.1 is.4)))

pub nested_leaves : (octets : List ℕ) (item : Passes) (reader : ℕ → List ℕ → Read Seen) → ((end : ℕ) → end ≤ length octets → ItemLeaves octets end item reader)
    → (kind : Kind) (width : SizeWidth) (k at to : ℕ) → at ≤ to → to ≤ length octets → Leaves octets at to (past_nested item kind width octets at to) (nested_at reader kind width k (window octets at to))
unfolding past_nested nested_at
nested_leaves octets item reader each kind width k at to order room =
    nested_by octets item reader kind width k at to (counted_in width octets at to) (counted_at width k (window octets at to)) room each (counted_cut octets width k at to order room)

-- ---- a descriptor and a value

described_last : (octets : List ℕ) (at mid to : ℕ) (descriptor : List ℕ) (r : Option ℕ) (s : Read Seen) → at ≤ mid → Leaves octets mid to r s
    → Leaves {A = Part} octets at to r (s >>> λ described. Ok (Described descriptor described.0.octets, described.1))
described_last octets at mid to descriptor None (Err d) order is = tt
described_last octets at mid to descriptor None (Ok x) order is = absurd is
described_last octets at mid to descriptor (Some next) (Err d) order is = absurd is
described_last octets at mid to descriptor (Some next) (Ok x) order is = (is.0, omega (arith, is.1, order), is.2)

described_by : (octets : List ℕ) (value : Passes) (reader : ℕ → List ℕ → Read Seen) (k at to : ℕ) (r : Option ℕ) (s : Read Seen) → ItemLeaves octets to value reader → Leaves octets at to r s
    → Leaves {A = Part} octets at to (r >>= λ described. value described to)
    (s >>> λ descriptor. reader (k + 1 + length descriptor.0.octets) descriptor.1 >>> λ described. Ok (Described descriptor.0.octets described.0.octets, described.1))
described_by octets value reader k at to None (Err d) each is = tt
described_by octets value reader k at to None (Ok x) each is = absurd is
described_by octets value reader k at to (Some next) (Err d) each is = absurd is
described_by octets value reader k at to (Some next) (Ok x) each is =
    rw is.0 (described_last octets at next to x.0.octets (value next to) (reader (k + 1 + length x.0.octets) (window octets next to)) is.1 (each (k + 1 + length x.0.octets) next is.2))

pub described_leaves : (octets : List ℕ) (value : Passes) (reader : ℕ → List ℕ → Read Seen) (k at to : ℕ) → ItemLeaves octets to value reader → at ≤ to
    → Leaves octets at to (past_described value at to) (described_at reader k (window octets at to))
unfolding past_described described_at
described_leaves octets value reader k at to each order =
    described_by octets value reader k at to (value at to) (reader (k + 1) (window octets at to)) each (each (k + 1) at order)
