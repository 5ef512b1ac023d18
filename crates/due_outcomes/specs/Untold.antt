-- The outcomes to tell, as candidates (part 3 of the standard, section 3.4; own rules).
use Rattle.std.specs.Prelude.{◌≡◌, ℕ, Bool, true, false, ◌&&◌, ◌||◌, not, List, Contains, Option, Some, bytes_eq, nat_eq, slice_get}
use Rattle.number_groups.specs.Groups.{is_member}
use Rattle.number_groups.specs.declared.groups.Groups.{Groups}
use Rattle.capture_form.specs.Rules.{RuleSet}
use Rattle.trace_events.specs.Ends.{ends_link}
use Rattle.trace_events.specs.Event.{Event, Incoming, Link, Outgoing}
use Rattle.trace_events.specs.Incoming.{incoming_deliveries}
use Rattle.trace_events.specs.Link.{is_consumer}
use Rattle.trace_events.specs.Outgoing.{noted, outgoing_deliveries}
use Rattle.trace_events.specs.Settling.{is_closed}
use Rattle.trace_events.specs.Waiting.{is_of_multicast}
use Rattle.trace_events.specs.Outcome.{is_to_tell}
use Rattle.trace_events.specs.Words.{is_some_and}
use Rattle.state_tables.specs.Consumers.{numbers_at}
use Rattle.state_tables.specs.ConsumerLinks.{link_in}
use Rattle.state_tables.specs.declared.consumers.Consumers.{Consumers}
use Rattle.state_tables.specs.declared.consumer_links.ConsumerLinks.{ConsumerLinks}
use Rattle.number_groups.specs.Ascending.{has}
use Rattle.due_outcomes.specs.declared.untold.Untold.{Untold}

-- the number stands under the link of the delivery that carries it
abbrev pub IsOn : Groups ℕ → Outgoing → ℕ → Type 0
IsOn carried j n = is_member nat_eq carried j.link.number n ≡ true

-- all that stood under a link still does
abbrev pub KeepsOn : Groups ℕ → Groups ℕ → Type 0
KeepsOn earlier later = (j : Outgoing) (n : ℕ) → IsOn earlier j n → IsOn later j n

-- ---- whether an address keeps a consumer behind an event

-- the link of this number is a consumer's of the address, and lives on
abbrev pub is_lasting : ConsumerLinks → Event → List ℕ → Option ℕ → Bool
is_lasting links e address number = is_some_and number (λ n. is_some_and (link_in links n) (λ l. bytes_eq l.address address && not (ends_link l e)))

-- one of its first two does
abbrev pub has_lasting_consumer : Consumers → ConsumerLinks → Event → List ℕ → Bool
has_lasting_consumer consumers links e address =
    is_lasting links e address (slice_get (numbers_at consumers address) 0) || is_lasting links e address (slice_get (numbers_at consumers address) 1)

-- the link is a consumer's, and its address may have none behind it
abbrev pub is_left : Consumers → ConsumerLinks → Event → Link → Bool
is_left consumers links e l = is_consumer l && not (has_lasting_consumer consumers links e l.address)

-- Every delivery of which an outcome is to be told is a candidate; and each of anycast of which something may still be told is
-- found by the links of the deliveries to clients that carry it.
pub record HasUntold (rules : RuleSet) (untold : Untold) (past : List Event) : Type 0 where
  pub due : (d : Incoming) → Contains (incoming_deliveries past) d → is_to_tell rules past d ≡ true → has untold.candidates d.number ≡ true
  pub carried : (j : Outgoing) → Contains (outgoing_deliveries past) j → (d : Incoming) → noted j.note past ≡ Some d → is_of_multicast rules d past ≡ false → is_closed past d ≡ false
      → IsOn untold.carried j d.number
