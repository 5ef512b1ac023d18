-- Passing over items one after the other, and over elements behind descriptors.
use Rattle.std.proofs.Common.{◌≡◌, refl, sym, ap, ◌∙◌, ℕ, zero, suc, ◌+◌, ◌-◌, ◌≤◌, ◌<◌, List, Option, Some, None, arith}
use Rattle.amqp_cuts.specs.declared.layout.Layout.{Layout}
use Rattle.amqp_cuts.specs.Passing.{Passes, past_items, past_data}

-- an item that is none
pub items_stop : (item : Passes) (count i place at to : ℕ) (next : Option ℕ) → i < count → next ≡ item place to → next ≡ None → past_items item (count - i) place to ≡ past_items item count at to → past_items item count at to ≡ None
unfolding past_items
items_stop item count i place at to next lt is last same =
    let none : item place to ≡ None = sym is ∙ last in
    let one : count - i ≡ suc (count - (i + 1)) = omega (arith, lt) in
    let step : past_items item (count - i) place to ≡ None = rw (one, none) refl in
    sym same ∙ step

-- an item that is passed over
pub items_on : (item : Passes) (count i place next at to : ℕ) (result : Option ℕ) → i < count → result ≡ item place to → result ≡ Some next → past_items item (count - i) place to ≡ past_items item count at to
    → past_items item (count - (i + 1)) next to ≡ past_items item count at to
unfolding past_items
items_on item count i place next at to result lt is there same =
    let some : item place to ≡ Some next = sym is ∙ there in
    let one : count - i ≡ suc (count - (i + 1)) = omega (arith, lt) in
    let step : past_items item (count - i) place to ≡ past_items item (count - (i + 1)) next to = rw (one, some) refl in
    sym step ∙ same

-- no item is left
pub items_done : (item : Passes) (count i place at to : ℕ) → count ≤ i → past_items item (count - i) place to ≡ past_items item count at to → Some place ≡ past_items item count at to
unfolding past_items
items_done item count i place at to le same =
    let none : count - i ≡ 0 = omega (arith, le) in
    let step : past_items item (count - i) place to ≡ Some place = rw none refl in
    sym step ∙ same

-- what is behind some descriptors is passed over as where as many levels fewer are left
pub data_behind : (octets : List ℕ) (levels tags : ℕ) (layout : Layout) (at to : ℕ) → tags < levels → past_data octets levels tags layout at to ≡ past_data octets (levels - tags) 0 layout at to
unfolding past_data
data_behind octets levels zero layout at to lt =
    let all : levels ≡ levels - zero = omega arith in
    ap (λ (n : ℕ). past_data octets n zero layout at to) all
data_behind octets zero (suc tags) layout at to lt = absurd (omega (arith, lt))
data_behind octets (suc levels) (suc tags) layout at to lt =
    let same : levels - tags ≡ suc levels - suc tags = omega arith in
    data_behind octets levels tags layout at to (omega (arith, lt)) ∙ ap (λ (n : ℕ). past_data octets n zero layout at to) same
