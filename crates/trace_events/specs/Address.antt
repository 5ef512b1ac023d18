-- Addresses: how their deliveries are distributed, and their consumers (Qpid Dispatch Router; prefixes and numbers own).
use Rattle.std.specs.Prelude.{ℕ, Bool, true, false, ◌&&◌, List, reverse, filter, bytes_eq}
use Rattle.std.specs.List.{list_any}
use Rattle.capture_form.specs.declared.rules.Distribution.{Distribution}
use Rattle.capture_form.specs.declared.rules.Distribution.TheVariants.{Closest, Balanced, Multicast}
use Rattle.capture_form.specs.Rules.{RuleSet}
use Rattle.capture_form.specs.Addresses.{distribution}
use Rattle.trace_events.specs.Event.{Event, Link}
use Rattle.trace_events.specs.Link.{is_consumer, is_live, links}

abbrev pub is_multicast : Distribution → Bool
is_multicast Multicast = true
is_multicast Closest = false
is_multicast Balanced = false

-- each delivery of the address goes to all its consumers, or to one
abbrev pub has_multicast : RuleSet → List ℕ → Bool
has_multicast rules address = is_multicast (distribution rules address)

abbrev pub is_consumer_of : List ℕ → List Event → Link → Bool
is_consumer_of address past l = is_consumer l && bytes_eq l.address address && is_live past l

-- the live links of the address's consumers, in the order of attach
abbrev pub consumers : List ℕ → List Event → List Link
consumers address past = reverse (filter (is_consumer_of address past) (links past))

abbrev pub has_consumer : List ℕ → List Event → Bool
has_consumer address past = list_any (is_consumer_of address past) (links past)
