-- The ids that a consumer's disposition names, and how those that stand under one of them are found (part 2 of the standard, section
-- 2.7.6). A range whose last id stands half of all ids or more behind its first covers none (RFC 1982); what is found for it is more
-- than it speaks of.
use Rattle.std.specs.Prelude.{ℕ, zero, suc, Bool, false, ◌||◌, ◌<◌, ◌^◌, ◌==◌, nat_lt}
use Rattle.flow_counts.specs.Serial.{serial_add, serial_sub}
use Rattle.number_groups.specs.Groups.{is_member}
use Rattle.number_groups.specs.Ids.{same_id}
use Rattle.number_groups.specs.declared.groups.Groups.{Groups}
use Rattle.number_groups.specs.declared.id_on.IdOn.{IdOn}
use Rattle.state_outgoing.specs.declared.id_range.IdRange.{IdRange}

-- they are ids of 32 bits
abbrev pub IsCounted : IdRange → Type 0
IsCounted ids = (ids.first < 2 ^ 32) × (ids.last < 2 ^ 32)

-- how many places the last stands behind the first
abbrev pub span : IdRange → ℕ
span ids = serial_sub ids.last ids.first

-- one of so many places, counted from 0, passes
unfoldable pub some_place : (ℕ → Bool) → ℕ → Bool
some_place passes zero = false
some_place passes (suc places) = some_place passes places || passes places

-- the number stands under one of them
abbrev pub stands_under : Groups IdOn → IdRange → ℕ → Bool
stands_under of_id ids n =
    some_place (λ place. is_member same_id of_id (record { session = ids.session; id = serial_add ids.first place }) n) (span ids)
    || is_member same_id of_id (record { session = ids.session; id = ids.last }) n

-- they are looked up one by one: where there is one, or no more of them than deliveries, whose last stands so many places behind the
-- first
abbrev pub are_few : ℕ → ℕ → Bool
are_few places deliveries = (places == 0) || nat_lt places deliveries
