-- What the table of deliveries from clients stands for.
use Rattle.std.specs.Prelude.{◌≡◌, ◌⊎◌, ℕ, Bool, true, List, length, Option, None, option_and_then, option_map, is_some, nat_eq, slice_get, if◌then◌else◌, ◌==◌}
use Rattle.indexmap.specs.IndexMap.{get, values}
use Rattle.capture_form.specs.Rules.{RuleSet}
use Rattle.trace_events.specs.Event.{Event, Link}
use Rattle.trace_events.specs.Incoming.{incoming_begun}
use Rattle.state_tables.specs.LetGo.{is_let_go}
use Rattle.state_incoming.specs.Grouped.{AreGrouped}
use Rattle.state_incoming.specs.Held.{Held, held_at, held_on}
use Rattle.state_incoming.specs.HeldViews.{held_view}
use Rattle.state_incoming.specs.LetGo.{IsOver}
use Rattle.state_incoming.specs.Touched.{may_touch}
use Rattle.state_incoming.specs.declared.deliveries.Deliveries.{Deliveries}

-- what the table has of the delivery of this number
abbrev pub held_in : Deliveries → ℕ → Option Held
held_in table n = option_map held_view (get nat_eq table.entries n)

-- the number of the delivery at this place, in the table's own order
abbrev pub number_at : Deliveries → ℕ → Option ℕ
number_at table place = option_map (λ x. x.number) (slice_get (values table.entries) place)

-- how many deliveries it has
abbrev pub count_of : Deliveries → ℕ
count_of table = length table.entries.entries

-- what the law keeps of the delivery of this number, unless it is one of those that were let go
abbrev pub kept_at : List (ℕ × Unit {0}) → RuleSet → ℕ → List Event → Option Held
kept_at gone rules n past = if is_let_go gone n then None else held_at rules n past

-- the table has what the law keeps of these events, but for what was let go
abbrev pub AreHeld : RuleSet → Deliveries → List Event → Type 0
AreHeld rules table past = (n : ℕ) → held_in table n ≡ kept_at table.let_go.items rules n past

-- nothing can come any more of what was let go
abbrev pub AreOver : RuleSet → Deliveries → List Event → Type 0
AreOver rules table past = (n : ℕ) → is_let_go table.let_go.items n ≡ true → IsOver rules n past

-- and its groups have just what the table has
abbrev pub IsTable : RuleSet → Deliveries → List Event → Type 0
IsTable rules table past = AreHeld rules table past × (AreGrouped table.groups (held_in table) × AreOver rules table past)

-- the event begins a delivery, or may touch one that is kept
abbrev pub BeginsOrTouches : Deliveries → (List ℕ → Bool) → List Link → Event → Type 0
BeginsOrTouches table has ended e = (is_some (incoming_begun e) ≡ true) ⊎ ((n : ℕ) × (may_touch table.groups has ended e n ≡ true))

-- this is made of the delivery of this number, and nothing of any other
abbrev pub MovesAt : ℕ → (Option Held → Option Held) → Deliveries → Deliveries → Type 0
MovesAt n step earlier later = (m : ℕ) → held_in later m ≡ (if n == m then step (held_in earlier m) else held_in earlier m)

-- of the numbers that pass, the event moves the deliveries, and no other
abbrev pub AreMovedBy : (ℕ → Bool) → RuleSet → Event → List ℕ → (List ℕ → Bool) → Deliveries → Deliveries → Type 0
AreMovedBy passes rules e to has earlier later = (n : ℕ) → held_in later n
    ≡ (if passes n then option_and_then (held_on rules e to has) (held_in earlier n) else held_in earlier n)
