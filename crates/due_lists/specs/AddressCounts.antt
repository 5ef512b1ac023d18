-- What one event does to a table of the links of consumers (own rules, after the message routing of the Qpid Dispatch Router).
use Rattle.std.specs.Prelude.{◌≡◌, ℕ, Bool, ◌<◌, ◌-◌, ◌^◌, true, List, [], ◌∷◌, ◌++◌, Option, Some, None, IfSome, filter, map}
use Rattle.std.specs.List.{list_any}
use Rattle.amqp_perf.specs.Meaning.{AttachFields}
use Rattle.flow_counts.specs.Picks.{AddressEvent, Detached, Decided, consumer, balanced_rank}
use Rattle.address_table.specs.Links.{IsCount}
use Rattle.address_table.specs.declared.table.Table.{Table}
use Rattle.trace_events.specs.Event.{Event, Link, Outgoing}
use Rattle.trace_events.specs.Said.{out_attach}
use Rattle.trace_events.specs.Link.{is_consumer, own_link, source_address}

-- whatever it counted before, the later table has counted these in front
abbrev pub CountsMore : List AddressEvent → Table → Table → Type 0
CountsMore events earlier later = (past : List AddressEvent) → IsCount earlier past → IsCount later (events ++ past)

-- the address that an attach of the router names for a link on which it sends
abbrev pub source_of : Option AttachFields → List ℕ
source_of None = []
source_of (Some fields) = source_address fields.source

abbrev pub named_source : Event → List ℕ
named_source e = source_of (out_attach e)

-- a consumer's link that the event opens has that address
abbrev pub HasNamedSource : Event → Type 0
HasNamedSource e = IfSome (own_link e) (λ l. (is_consumer l ≡ true) → l.address ≡ named_source e)

-- the deliveries of a link that are not decided can be counted
abbrev pub AreFew : List AddressEvent → Option Outgoing → Type 0
AreFew past o = IfSome o (λ j. balanced_rank (consumer j.link.number past) < 2 ^ 64 - 1)

-- one link is decided, or none
abbrev pub decided_on : Option ℕ → List AddressEvent
decided_on (Some link) = Decided link ∷ []
decided_on None = []

-- consumers' links are detached
abbrev pub detached_all : List Link → List AddressEvent
detached_all ls = map (λ l. Detached l.number) (filter is_consumer ls)

-- just these links are detached, in whatever order
pub record DetachesAll (links : List Link) (earlier later : Table) : Type 0 where
  pub detached : List Link
  pub same : (test : Link → Bool) → list_any test detached ≡ list_any test links
  pub counted : CountsMore (detached_all detached) earlier later
