-- What the list of links that drain has.
use Rattle.std.specs.Prelude.{◌≡◌, ℕ, Bool, true, List}
use Rattle.number_groups.specs.OctetGroups.{is_member}
use Rattle.capture_form.specs.Rules.{RuleSet}
use Rattle.trace_events.specs.Event.{Event, Link}
use Rattle.trace_events.specs.FlowClause.{may_be_drained}
use Rattle.number_groups.specs.Ascending.{has}
use Rattle.due_lists.specs.Draining.{IsDraining}
use Rattle.due_lists.specs.declared.drains.Drains.{Drains}

-- the link of this number stands among those of the address
abbrev pub stands : Drains → List ℕ → ℕ → Bool
stands drains address n = is_member drains.of_address address n

-- it is a candidate
abbrev pub waits : Drains → ℕ → Bool
waits drains n = has drains.links n

-- each link that drains stands with its address, and is a candidate where its drain may be answered
abbrev pub HasDrains : RuleSet → Drains → List Event → Type 0
HasDrains rules drains past = (l : Link) → IsDraining l past
    → (stands drains l.address l.number ≡ true) × (may_be_drained rules past l ≡ true → waits drains l.number ≡ true)
